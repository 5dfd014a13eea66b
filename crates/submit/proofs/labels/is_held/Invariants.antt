-- None of the messages passed is of that kind and label, so the rest decides.
use Rattle.std.proofs.Common.{◌≡◌, drop}
use Rattle.image.specs.State.{decode}
use Rattle.protocol.specs.Held.{is_held}
use Rattle.submit.proofs.labels.is_held.Given as goal

abbrev pub invariant-loop-i : goal.invariant-loop-i
invariant-loop-i l =
    is_held l.kind l.label (decode l.image).queue ≡ is_held l.kind l.label (drop l.i (decode l.image).queue)
