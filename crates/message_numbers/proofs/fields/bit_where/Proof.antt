-- `message_numbers::fields::bit_where` meets its contract. Assumes nothing.
use native.Mathlib.Omega.{arith}
use borrow.Author.Tests.{eq-eqb, ne_eqb}
use Rattle.message_numbers.proofs.fields.bit_where.Statement.{statement}
use Rattle.message_numbers.proofs.fields.bit_where.Tie as tie

pub bit_where_spec : {M : Type 1} → statement M
bit_where_spec =
    let answers = tie.spec
    (λ c. (rw (eq-eqb _ _ c.if-place-eq0.true), omega arith))
    (λ c. (rw (ne_eqb _ _ c.if-place-eq0.false), c.requires)) in
    tie.close answers
