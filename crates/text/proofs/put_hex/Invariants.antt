-- The bytes passed stand in hexadecimal from `at` on.
use Rattle.std.proofs.Common.{◌≡◌, take}
use Rattle.octets.specs.Laid.{laid}
use Rattle.text.specs.Text.{hex}
use Rattle.text.proofs.put_hex.Given as goal

abbrev pub invariant-loop-i : goal.invariant-loop-i
invariant-loop-i l = l.out ≡ laid l.initial.out l.at (hex (take l.i l.bytes))
