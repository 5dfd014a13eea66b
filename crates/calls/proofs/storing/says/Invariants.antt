use Rattle.octets.proofs.Differ.{Same}
use Rattle.image.specs.State.{decode}
use Rattle.calls.proofs.storing.says.Given as goal

abbrev pub invariant-loop-i : goal.invariant-loop-i
invariant-loop-i l = Same l.words (decode l.image).labels l.i
