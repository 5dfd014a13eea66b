-- `image::storing::store_block0` meets its contract: the block is lent and written whole. Assumes nothing.
use native.Mathlib.Omega.{arith}
use borrow.Author.Rules.{rules}
use Rattle.octets.proofs.Laid.{laid-between}
use Rattle.block0.proofs.Written.{length-block0}
use Rattle.image.specs.State.{store0}
use Rattle.image.proofs.storing.store_block0.Statement.{statement}
use Rattle.image.proofs.storing.store_block0.Tie as tie

pub store_block0_spec : {M : Type 1} → statement M
unfolding store0
store_block0_spec =
    let answers = tie.spec
    (λ c. omega arith)
    (λ c. omega arith)
    (λ c. omega arith)
    (λ c κs. search rules)
    (λ c. search rules)
    (λ c. rw c.write_block0.ensures (laid-between _ 0 512 _ (omega arith) (omega arith) (length-block0 _ _ _))) in
    tie.close answers
