-- Recursion by a step that asks only of smaller values: as many steps as the size says.
use Rattle.std.specs.Prelude.{ℕ, zero, suc}

-- k + 1 steps; what lies beyond them is `beyond`
unfoldable pub steps : {S R : Type 0} → ((S → R) → S → R) → R → ℕ → S → R
steps step beyond zero s = step (λ x. beyond) s
steps step beyond (suc k) s = step (steps step beyond k) s

-- the function that one step and the function itself make up (`fix-step` in proofs/Fix.antt)
unfoldable pub fix : {S R : Type 0} → (S → ℕ) → ((S → R) → S → R) → R → S → R
fix size step beyond s = steps step beyond (size s) s
