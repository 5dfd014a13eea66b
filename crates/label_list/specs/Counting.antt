-- A list beside the label words: an entry counts only where its word says so.
use Rattle.std.specs.Prelude.{ℕ, Bool, List, [], ◌∷◌}
use Rattle.octets.specs.Pick.{pick}

-- the entries that count, `none` in every other place; as many as there are words
unfoldable pub counting : {A : Type 0} → A → (ℕ → Bool) → List ℕ → List A → List A
counting none live [] xs = []
counting none live (w ∷ ws) [] = none ∷ counting none live ws []
counting none live (w ∷ ws) (x ∷ xs) = pick (live w) x none ∷ counting none live ws xs
