-- The zeros so far are laid over what was there.
use Rattle.std.proofs.Common.{◌≡◌, replicate}
use Rattle.octets.specs.Laid.{laid}
use Rattle.octets.proofs.zero_to.Given as goal

abbrev pub invariant-loop-i : goal.invariant-loop-i
invariant-loop-i l = l.s ≡ laid l.initial.s l.at (replicate l.i 0)
