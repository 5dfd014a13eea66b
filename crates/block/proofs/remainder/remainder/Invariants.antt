-- The shifts that are left make up the remainder.
use Rattle.std.proofs.Common.{◌≡◌, ◌%◌}
use Rattle.block.proofs.Subtraction.{left}
use Rattle.block.proofs.remainder.remainder.Given as goal

abbrev pub invariant-loop-shift : goal.invariant-loop-shift
invariant-loop-shift l = left 65535 l.shift l.rest ≡ l.x % 65535
