-- `convert::is_whole` meets its contract, test by test. Assumes nothing.
use borrow.Author.Tests.{eq-eqb, ne_eqb}
use Rattle.convert.proofs.is_whole.Statement.{statement}
use Rattle.convert.proofs.is_whole.Tie as tie

pub is_whole_spec : {M : Type 1} → statement M
is_whole_spec =
    let answers = tie.spec
    (λ c. simp (ne_eqb _ _ c.if-timeout-ne0.true))
    (λ c. simp (eq-eqb _ _ c.if-timeout-ne0.false)) in
    tie.close answers
