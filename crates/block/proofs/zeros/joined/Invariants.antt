-- What was joined is zero where the bytes passed are.
use Rattle.std.proofs.Common.{◌≡◌, ◌*◌, take, drop, nat_eq}
use Rattle.block.specs.Zeros.{all_zero}
use Rattle.block.proofs.zeros.joined.Given as goal

abbrev pub invariant-loop-i : goal.invariant-loop-i
invariant-loop-i g l = nat_eq l.bits 0 ≡ all_zero (take (8 * l.i) (drop l.at l.s))
