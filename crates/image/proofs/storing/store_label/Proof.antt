-- `image::storing::store_label` meets its contract: the block is lent and written whole. Assumes nothing.
use native.Mathlib.Omega.{arith}
use borrow.Author.Rules.{rules}
use Rattle.octets.proofs.Laid.{laid-between}
use Rattle.block0.proofs.Written.{length-block0}
use Rattle.image.specs.State.{store0, decode}
use Rattle.image.proofs.storing.store_label.Statement.{statement}
use Rattle.image.proofs.storing.store_label.Tie as tie

pub store_label_spec : {M : Type 1} → statement M
unfolding store0 decode
store_label_spec =
    let answers = tie.spec
    (λ c. omega arith)
    (λ c. omega arith)
    (λ c. omega arith)
    (λ c κs. search rules)
    (λ c. search rules)
    (λ c. rw c.write_label.ensures (laid-between _ 0 512 _ (omega arith) (omega arith) (length-block0 _ _ _))) in
    tie.close answers
