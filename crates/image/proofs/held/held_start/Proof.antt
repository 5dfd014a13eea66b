-- `image::held_start` meets its contract, by the definition. Assumes nothing.
use Prim.Native.Nat.{ℕ, ◌+◌, ◌*◌}
use mathlib.Core.Path.{ap}
use borrow.Author.Rules.{rules}
use Rattle.block.specs.Check.{block_size}
use Rattle.slot.specs.Layout.{message_at}
use Rattle.image.specs.State.{held_place}
use Rattle.image.proofs.held.held_start.Statement.{statement}
use Rattle.image.proofs.held.held_start.Tie as tie

returns : tie.Need-returns
unfolding held_place
returns c = ap (λ (b : ℕ). message_at + b * block_size) c.held_block.ensures.0

pub held_start_spec : {M : Type 1} → statement M
held_start_spec =
    let answers = tie.spec
    (λ c κs. search rules)
    (λ c. search rules)
    (λ c. search rules)
    returns in
    tie.close answers
