-- The parts passed are zero.
use Rattle.std.proofs.Common.{◌*◌}
use Rattle.block.proofs.ZeroParts.{ZeroTo}
use Rattle.block.proofs.zeros.all_zero.Given as goal

abbrev pub invariant-loop-i : goal.invariant-loop-i
invariant-loop-i l = ZeroTo l.s (l.i * 128)
