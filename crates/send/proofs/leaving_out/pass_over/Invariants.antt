-- The messages passed are left out, so the rest decides.
use Rattle.std.proofs.Common.{drop}
use Rattle.image.specs.State.{decode}
use Rattle.send.proofs.Passing.{Passing}
use Rattle.send.proofs.leaving_out.pass_over.Given as goal

abbrev pub invariant-loop-i : goal.invariant-loop-i
invariant-loop-i l = Passing l.numbered (drop l.from (decode l.image).queue) l.i
