-- An image of an earlier release extended: the verdict as numbers, and the blocks that were made. Assumes nothing.
use Rattle.std.specs.Prelude.{Result, Ok, Err}
use Prim.Native.Nat.{ℕ, ◌≤◌, ◌<◌}
use mathlib.Core.List.{List}
use mathlib.Core.Logic.{◌≢◌, ◌⊎◌, inl, inr, ⊎_elim}
use mathlib.Core.Path.{◌≡◌, ◌∙◌}
use native.Mathlib.Omega.{arith}
use lib.Dec.{eqb}
use lib.ListN.{length}
use borrow.Author.Tests.{eqb-true}
use Rattle.octets.proofs.Choice.{by_test}
use Rattle.image.specs.declared.ImageFault.{ImageFault}
use Rattle.image.specs.Extend.{earlier_size, extend_verdict}
use Rattle.image.specs.Sizes.{image_size}
use Rattle.image.specs.Verdict.{verdict_number}
use Rattle.image_numbers.specs.declared.ExtendedNumbers.{ExtendedNumbers}
use Rattle.image_numbers.specs.Stored.{extended_numbers}

-- it is refused, or one of the earlier sizes was stored
ways : (im : List ℕ) (stored : ℕ)
    → (extend_verdict im stored ≡ Err ImageFault.WrongSize) ⊎ ((extend_verdict im stored ≡ Ok tt) × ((stored ≡ earlier_size 0) ⊎ (stored ≡ earlier_size 1)))
unfolding extend_verdict
ways im stored =
    by_test (eqb (length im) image_size)
    (λ t. by_test (eqb stored (earlier_size 0))
    (λ y. inr (rw (t, y), inl (eqb-true stored (earlier_size 0) y)))
    (λ n. by_test (eqb stored (earlier_size 1))
    (λ y. inr (rw (t, n, y), inr (eqb-true stored (earlier_size 1) y)))
    (λ m. inl (rw (t, n, m)))))
    (λ f. inl (rw f))

-- v is what was answered, and n its number
module _ (im : List ℕ) (stored : ℕ) {v : Result Unit ImageFault} {n : ℕ} (ev : v ≡ extend_verdict im stored) (en : n ≡ verdict_number v) where
  pub extend_refused : n ≢ 0 → ◌≡◌ {A = ExtendedNumbers} (record { answer = 12; further = 0 }) (extended_numbers (extend_verdict im stored) stored)
  extend_refused h =
      ⊎_elim
      (λ (wrong : extend_verdict im stored ≡ Err ImageFault.WrongSize). rw wrong)
      (λ (right : (extend_verdict im stored ≡ Ok tt) × ((stored ≡ earlier_size 0) ⊎ (stored ≡ earlier_size 1))). absurd (h (en ∙ rw (ev, right.0))))
      (ways im stored)

  sizes : n ≡ 0 → (extend_verdict im stored ≡ Ok tt) × ((stored ≡ earlier_size 0) ⊎ (stored ≡ earlier_size 1))
  sizes z =
      ⊎_elim
      (λ (wrong : extend_verdict im stored ≡ Err ImageFault.WrongSize). let twelve : n ≡ 12 = en ∙ rw (ev, wrong) in absurd (omega arith))
      (λ (right : (extend_verdict im stored ≡ Ok tt) × ((stored ≡ earlier_size 0) ⊎ (stored ≡ earlier_size 1))). right)
      (ways im stored)

  -- of 65 blocks
  pub extend_all : n ≡ 0 → stored ≤ earlier_size 0 → ◌≡◌ {A = ExtendedNumbers} (record { answer = 0; further = 7 }) (extended_numbers (extend_verdict im stored) stored)
  extend_all z low =
      let s = sizes z in
      ⊎_elim
      (λ (first : stored ≡ earlier_size 0). rw (s.0, first))
      (λ (second : stored ≡ earlier_size 1). absurd (omega arith))
      s.1

  -- of 66
  pub extend_index : n ≡ 0 → earlier_size 0 < stored → ◌≡◌ {A = ExtendedNumbers} (record { answer = 0; further = 6 }) (extended_numbers (extend_verdict im stored) stored)
  extend_index z high =
      let s = sizes z in
      ⊎_elim
      (λ (first : stored ≡ earlier_size 0). absurd (omega arith))
      (λ (second : stored ≡ earlier_size 1). rw (s.0, second))
      s.1
