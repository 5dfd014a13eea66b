-- Laws of the choice by a test, and of tests in a row. Assumes nothing.
use Prim.Native.Nat.{ℕ, ◌≤◌, ◌<◌}
use mathlib.Core.Bool.{Bool, true, false, not, false≢true}
use mathlib.Core.Logic.{◌⊎◌, inl, inr}
use mathlib.Core.Path.{◌≡◌, refl, sym, ◌∙◌}
use native.Mathlib.Omega.{arith}
use lib.Dec.{eqb, ltb}
use borrow.Author.Tests.{eq-eqb, ne_eqb, eqb-false, ltb-true, ltb-false, not-true, not-false}
use Rattle.octets.specs.Pick.{pick, both}

-- by the two values of a test
pub by_test : {P : Type 0} (b : Bool) → (b ≡ true → P) → (b ≡ false → P) → P
by_test true p q = p refl
by_test false p q = q refl

-- what holds of both values holds of the one picked
pub pick_all : {X : Type 0} (P : X → Type 0) (b : Bool) {x y : X} → P x → P y → P (pick b x y)
pick_all P true p q = p
pick_all P false p q = q

pub both_commutes : (a b : Bool) → both a b ≡ both b a
both_commutes true true = refl
both_commutes true false = refl
both_commutes false true = refl
both_commutes false false = refl

-- of two tests that hold together each holds
pub both_true : (a b : Bool) → both a b ≡ true → (a ≡ true) × (b ≡ true)
both_true true b e = (refl, e)
both_true false b e = absurd (false≢true e)

-- what a function answered, after the code asked `if !` of it
pub denied : {b d : Bool} → b ≡ d → not b ≡ true → d ≡ false
denied {b} e t = sym e ∙ not-true b t

pub granted : {b d : Bool} → b ≡ d → not b ≡ false → d ≡ true
granted {b} e t = sym e ∙ not-false b t

-- nothing follows from two constructors that are equal: `cc` leads there
pub no : {A : Type 0} → ◌≡◌ {A = ℕ} 0 1 → A
no e = absurd (omega arith)

-- a test that was passed: its refusal is not the answer that came
pub passed : {A : Type 0} (b : Bool) (v w a : A) → (w ≡ a → ◌≡◌ {A = ℕ} 0 1) → pick b v w ≡ a → (b ≡ true) × (v ≡ a)
passed true v w a bad h = (refl, h)
passed false v w a bad h = no (bad h)

-- a test that was not met: what it would have answered is not the answer that came
pub cleared : {A : Type 0} (b : Bool) (w v a : A) → (w ≡ a → ◌≡◌ {A = ℕ} 0 1) → pick b w v ≡ a → (b ≡ false) × (v ≡ a)
cleared true w v a bad h = no (bad h)
cleared false w v a bad h = (refl, h)

pub below_or_not : (a b : ℕ) → (a < b) ⊎ (b ≤ a)
below_or_not a b = by_test (ltb a b) (λ e. inl (ltb-true a b e)) (λ e. inr (ltb-false a b e))

-- ---- the choice by two numbers
module _ {X : Type 0} (a b : ℕ) (x y : X) where
  pub where_equal : a ≡ b → x ≡ pick (eqb a b) x y
  where_equal e = simp (eq-eqb a b e)

  pub where_apart : (a ≡ b → ⊥) → {z : X} → z ≡ y → z ≡ pick (eqb a b) x y
  where_apart h e = simp (ne_eqb a b h) e

  pub where_same : {z : X} → ((a ≡ b → ⊥) → y ≡ z) → pick (eqb a b) x y ≡ pick (eqb a b) x z
  where_same {z} same = by_test (eqb a b) (λ t. rw t) (λ f. rw f (same (eqb-false a b f)))
