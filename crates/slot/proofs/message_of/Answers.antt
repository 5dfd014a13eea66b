use native.Mathlib.Omega.{arith}
use Rattle.slot.proofs.Holding.{high_length}
use Rattle.slot.proofs.message_of.Goals as goal

pub slice_bounds-result-end : goal.slice_bounds-result-end
slice_bounds-result-end c = omega (arith, high_length _ c.requires.1)
