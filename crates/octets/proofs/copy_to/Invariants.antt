-- What was copied is laid over what was there.
use Rattle.std.proofs.Common.{◌≡◌, take}
use Rattle.octets.specs.Laid.{laid}
use Rattle.octets.proofs.copy_to.Given as goal

abbrev pub invariant-loop-i : goal.invariant-loop-i
invariant-loop-i l = l.s ≡ laid l.initial.s l.at (take l.i l.m)
