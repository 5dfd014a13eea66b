-- The slots passed are right, so the rest decides.
use Rattle.std.proofs.Common.{◌≡◌, ◌+◌, ◌-◌}
use Rattle.image.specs.Ring.{ring}
use Rattle.image.specs.Sizes.{block_of}
use Rattle.image.specs.Verdict.{slot_judged, first_fault}
use Rattle.image.proofs.judging.scan_slots.Given as goal

abbrev pub invariant-loop-i : goal.invariant-loop-i
invariant-loop-i l =
    first_fault (slot_judged l.image) (ring block_of (l.first + l.i) (l.held - l.i)) ≡ first_fault (slot_judged l.image) (ring block_of l.first l.held)
