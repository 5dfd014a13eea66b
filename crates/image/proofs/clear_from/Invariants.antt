-- The blocks passed are empty, and the rest are emptied next.
use Rattle.std.proofs.Common.{◌≡◌, ◌-◌, length}
use Rattle.image.specs.Sizes.{block_count, blocks_from, cleared, image_size}
use Rattle.image.proofs.clear_from.Given as goal

abbrev pub invariant-loop-b : goal.invariant-loop-b
invariant-loop-b l =
    (length l.image ≡ image_size)
    × (cleared l.image (blocks_from l.b (block_count - l.b)) ≡ cleared l.initial.image (blocks_from l.fn.first (block_count - l.fn.first)))
