-- A list with a part written over it. Every write is this one: a number is `laid s at (bytes w v)`, zeros are `laid s at (replicate n 0)`,
-- what the language's `&mut s[a..e]` leaves is `laid s a p` (`laid-between` in proofs/Laid.antt).
use Rattle.std.specs.Prelude.{ℕ, suc, List, [], ◌∷◌, set}

-- s with the elements of p from index `at` on, one after the other. Every other element and the length stay; what would fall behind the end is dropped
unfoldable pub laid : List ℕ → ℕ → List ℕ → List ℕ
laid s at [] = s
laid s at (x ∷ p) = laid (set s at x) (suc at) p
