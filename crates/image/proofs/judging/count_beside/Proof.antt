-- `image::judging::count_beside` meets its contract, block by block. Assumes nothing.
use native.Mathlib.Omega.{arith}
use borrow.Author.Rules.{rules}
use borrow.Author.Tests.{eq-eqb, ne_eqb}
use Rattle.image.proofs.Indexed.{places-room}
use Rattle.image.proofs.judging.count_beside.Statement.{statement}
use Rattle.image.proofs.judging.count_beside.Tie as tie

pub count_beside_spec : {M : Type 1} → statement M
count_beside_spec =
    let answers = tie.spec
    (λ c. (rw (eq-eqb _ 0 c.if-k-eq0.true), omega arith))
    (λ c κs. search rules)
    (λ c. let w = c.word_count.ensures.0 in let r = (places-room c.args.version).0 in omega (arith, w, r))
    (λ c.
    let w = c.word_count.ensures in
    (rw (ne_eqb _ 0 c.if-k-eq0.false, w.0), omega (arith, w.1))) in
    tie.close answers
