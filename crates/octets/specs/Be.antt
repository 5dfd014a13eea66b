-- Big-endian numbers in a list of bytes, over the width w in bytes. Past the end a byte counts as 0.
use Rattle.std.specs.Prelude.{ℕ, zero, suc, ◌+◌, ◌*◌, ◌/◌, ◌%◌, List, [], ◌∷◌, ◌++◌, get_or}

-- the number that the w bytes from index `at` on spell, the first byte the most significant
abbrev pub be_at : ℕ → List ℕ → ℕ → ℕ
be_at zero s at = 0
be_at (suc zero) s at = get_or s at 0
be_at (suc (suc w)) s at = be_at (suc w) s at * 256 + get_or s (at + suc w) 0

-- the w bytes that spell v, the most significant first
abbrev pub bytes : ℕ → ℕ → List ℕ
bytes zero v = []
bytes (suc w) v = bytes w (v / 256) ++ (v % 256 ∷ [])
