-- Bytes that are all zero.
use Rattle.std.specs.Prelude.{ℕ, Bool, true, List, [], ◌∷◌, eqb}
use Rattle.octets.specs.Pick.{both}

unfoldable pub all_zero : List ℕ → Bool
all_zero [] = true
all_zero (x ∷ rest) = both (eqb x 0) (all_zero rest)
