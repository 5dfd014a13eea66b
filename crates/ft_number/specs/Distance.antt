-- The signed distance: "The signed distance between two nonzero numbers is the shorter way round, from -2,147,483,647 to
-- 2,147,483,647; with a zero it is refused (2)."
use Rattle.std.specs.Prelude.{Option, Some, None, ℕ, ◌-◌, eqb, leb, ℤ, pos, neg_ℤ}
use Rattle.octets.specs.Pick.{pick}
use Rattle.ft_number.specs.Circle.{circle, forward}

-- 01's number: "with a zero it is refused (2)"
abbrev pub distance_number : Option ℤ → ℕ
distance_number (Some n) = 0
distance_number None = 2

-- the farthest that a shorter way can be: half of circle - 1
abbrev pub half : ℕ
half = 2147483647

-- d places forward, or the rest of the circle backward, whichever is shorter
abbrev pub shorter : ℕ → ℤ
shorter d = pick (leb d half) (pos d) (neg_ℤ (pos (circle - d)))

unfoldable pub distance_of : ℕ → ℕ → Option ℤ
distance_of a b = pick (eqb a 0) None (pick (eqb b 0) None (Some (shorter (forward a b))))
