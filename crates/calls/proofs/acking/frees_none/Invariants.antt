use Rattle.image.specs.State.{decode}
use Rattle.calls.proofs.Freeing.{Passed}
use Rattle.calls.proofs.acking.frees_none.Given as goal

abbrev pub invariant-loop-i : goal.invariant-loop-i
invariant-loop-i l = Passed (decode l.image).queue l.count l.i
