-- `image::release` meets its contract: the block is lent and written whole. Assumes nothing.
use native.Mathlib.Omega.{arith}
use borrow.Author.Rules.{rules}
use Rattle.octets.proofs.Laid.{laid-between}
use Rattle.block0.proofs.Written.{length-block0}
use Rattle.image.specs.Events.{release_of}
use Rattle.image.specs.State.{store0}
use Rattle.image.proofs.events.release.Statement.{statement}
use Rattle.image.proofs.events.release.Tie as tie

pub release_spec : {M : Type 1} → statement M
unfolding release_of store0
release_spec =
    let answers = tie.spec
    (λ c. omega arith)
    (λ c. omega arith)
    (λ c. omega arith)
    (λ c κs. search rules)
    (λ c. search rules)
    (λ c. rw c.write_released.ensures (laid-between _ 0 512 _ (omega arith) (omega arith) (length-block0 _ _ _))) in
    tie.close answers
