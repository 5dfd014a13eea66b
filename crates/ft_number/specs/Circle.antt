-- FT numbers on a circle: "FT numbers run 1 to 0xFFFFFFFF, then 1 again; 0 is "none" and its successor is 1."
use Rattle.std.specs.Prelude.{Option, Some, None, ℕ, zero, suc, ◌+◌, ◌-◌, ◌%◌, eqb}
use Rattle.octets.specs.Pick.{pick}

-- how many numbers the circle has: 1 to 0xFFFFFFFF
abbrev pub circle : ℕ
circle = 4294967295

-- the successor
abbrev pub next : ℕ → ℕ
next n = n % circle + 1

-- the k-th successor
unfoldable pub after : ℕ → ℕ → ℕ
after zero n = n
after (suc k) n = next (after k n)

-- the places from one nonzero number forward to another
abbrev pub forward : ℕ → ℕ → ℕ
forward a b = (b + circle - a) % circle

-- how many successors lead from a to b: from "none" to n it is n, and nothing leads from a number to "none"
unfoldable pub steps_of : ℕ → ℕ → Option ℕ
steps_of a b = pick (eqb a 0) (Some b) (pick (eqb b 0) None (Some (forward a b)))
