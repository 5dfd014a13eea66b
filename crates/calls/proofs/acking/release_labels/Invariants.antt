use Rattle.image.specs.State.{decode}
use Rattle.calls.proofs.Releasing.{Releasing}
use Rattle.calls.proofs.acking.release_labels.Given as goal

abbrev pub invariant-loop-i : goal.invariant-loop-i
invariant-loop-i l = Releasing (decode l.image).queue l.count l.initial.words l.words l.i
