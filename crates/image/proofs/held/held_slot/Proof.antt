-- `image::held_slot` meets its contract, by the definition. Assumes nothing.
use Prim.Native.Nat.{ℕ, ◌+◌, ◌*◌}
use mathlib.Core.Path.{ap, ◌∙◌}
use borrow.Author.Rules.{rules}
use Rattle.block.specs.Check.{block_size}
use Rattle.image.specs.Sizes.{block}
use Rattle.image.specs.State.{held_block, held_place}
use Rattle.image.proofs.held.held_slot.Statement.{statement}
use Rattle.image.proofs.held.held_slot.Tie as tie

returns : tie.Need-returns
unfolding held_block held_place
returns c =
    let a = c.args in
    let r = c.block_at.ensures in
    let e = c.held_block.ensures.0 in (
      (r.0.0 ∙ ap (λ (b : ℕ). block a.image.now b) e, r.0.1),
      (r.1.0, r.1.1 ∙ ap (λ (b : ℕ). b * block_size + a.image.ref_ptr.1) e),
    )

pub held_slot_spec : {M : Type 1} → statement M
held_slot_spec =
    let answers = tie.spec
    (λ c κs. search rules)
    (λ c κs. search rules)
    returns in
    tie.close answers
