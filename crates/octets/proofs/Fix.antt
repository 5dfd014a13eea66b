-- The law of a recursion by steps: where the step asks only of smaller values, the function is one step and the function. Assumes nothing.
use Prim.Native.Nat.{ℕ, zero, suc, ◌≤◌, ◌<◌}
use mathlib.Core.Path.{◌≡◌, refl, ◌∙◌}
use native.Mathlib.Omega.{arith}
use Rattle.octets.specs.Fix.{steps, fix}

abbrev pub Shrinks : {S R : Type 0} → (S → ℕ) → ((S → R) → S → R) → Type 0
Shrinks {S} {R} size step = (g h : S → R) (s : S) → ((t : S) → size t < size s → g t ≡ h t) → step g s ≡ step h s

module _ {S R : Type 0} (size : S → ℕ) (step : (S → R) → S → R) (beyond : R) (shrinks : Shrinks size step) where
  enough : (j k : ℕ) (s : S) → size s ≤ j → size s ≤ k → steps step beyond j s ≡ steps step beyond k s
  unfolding steps
  enough zero zero s p q = refl
  enough zero (suc k) s p q = shrinks (λ x. beyond) (steps step beyond k) s (λ t l. absurd (omega arith))
  enough (suc j) zero s p q = shrinks (steps step beyond j) (λ x. beyond) s (λ t l. absurd (omega arith))
  enough (suc j) (suc k) s p q = shrinks (steps step beyond j) (steps step beyond k) s (λ t l. enough j k t (omega arith) (omega arith))

  -- a recursion by steps is one step and itself
  pub fix-step : (s : S) → fix size step beyond s ≡ step (fix size step beyond) s
  unfolding fix steps
  fix-step s =
      enough (size s) (suc (size s)) s (omega arith) (omega arith)
      ∙ shrinks (steps step beyond (size s)) (fix size step beyond) s (λ t l. enough (size s) (size t) t (omega arith) (omega arith))

-- induction on a size
size_ind_for : {S : Type 0} (size : S → ℕ) (P : S → Type 0) → ((s : S) → ((t : S) → size t < size s → P t) → P s) → (k : ℕ) (s : S) → size s ≤ k → P s
size_ind_for size P step zero s p = step s (λ t l. absurd (omega arith))
size_ind_for size P step (suc k) s p = step s (λ t l. size_ind_for size P step k t (omega arith))

pub size_ind : {S : Type 0} (size : S → ℕ) (P : S → Type 0) → ((s : S) → ((t : S) → size t < size s → P t) → P s) → (s : S) → P s
size_ind size P step s = size_ind_for size P step (size s) s (omega arith)
