-- `image::storing::store_slot` meets its contract: the message is held as what it was judged. Assumes nothing.
use mathlib.Core.Path.{◌∙◌}
use native.Mathlib.Omega.{arith}
use borrow.Author.Rules.{rules}
use Rattle.octets.proofs.Laid.{laid-between}
use Rattle.slot.specs.Held.{slot_for}
use Rattle.slot.proofs.Written.{length-slot}
use Rattle.image.specs.State.{store_slot}
use Rattle.image.proofs.storing.store_slot.Statement.{statement}
use Rattle.image.proofs.storing.store_slot.Tie as tie

pub store_slot_spec : {M : Type 1} → statement M
unfolding store_slot slot_for
store_slot_spec =
    let answers = tie.spec
    (λ c. omega arith)
    (λ c. omega arith)
    (λ c. omega arith)
    (λ c. omega arith)
    (λ c. omega arith)
    (λ c. omega arith)
    (λ c κs. search rules)
    (λ c. search rules)
    (λ c. let p = c.requires in rw (p.3, c.write_slot.ensures) (laid-between _ _ _ _ (omega arith) (omega arith) (length-slot _ _ _ p.2 ∙ omega arith))) in
    tie.close answers
