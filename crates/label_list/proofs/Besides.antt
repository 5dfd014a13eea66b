-- Words and the entries beside them: a loop that has passed i places. Assumes nothing.
use Rattle.std.specs.List.{list_any, zip}
use Prim.Native.Nat.{ℕ, zero, suc, ◌+◌, ◌≤◌, ◌<◌, min}
use mathlib.Core.Bool.{Bool}
use mathlib.Core.List.{List, [], ◌∷◌}
use mathlib.Core.Logic.{◌⊎◌, ⊎_elim, inl, inr}
use mathlib.Core.Path.{◌≡◌, refl, ap, ◌∙◌}
use native.Mathlib.Numerals.{add-one}
use native.Mathlib.Omega.{arith}
use lib.Dec.{eqb}
use lib.ListN.{length, get_or, set, length-set}
use Rattle.octets.specs.Pick.{both}
use Rattle.octets.proofs.Choice.{by_test, below_or_not}
use Rattle.label_list.specs.Beside.{besides, any_beside}

-- the first i words are rewritten
unfoldable pub besides_to : (ℕ → ℕ → ℕ) → ℕ → List ℕ → List ℕ → List ℕ
besides_to f zero ws xs = ws
besides_to f (suc i) [] xs = []
besides_to f (suc i) (w ∷ ws) [] = w ∷ ws
besides_to f (suc i) (w ∷ ws) (x ∷ xs) = f w x ∷ besides_to f i ws xs

to_suc : (f : ℕ → ℕ → ℕ) (i : ℕ) (ws xs : List ℕ) → i < length ws → i < length xs
    → set (besides_to f i ws xs) i (f (get_or (besides_to f i ws xs) i 0) (get_or xs i 0)) ≡ besides_to f (suc i) ws xs
unfolding besides_to
to_suc f i [] xs h k = absurd (omega arith)
to_suc f i (w ∷ ws) [] h k = absurd (omega arith)
to_suc f zero (w ∷ ws) (x ∷ xs) h k = refl
to_suc f (suc i) (w ∷ ws) (x ∷ xs) h k = ap (λ (l : List ℕ). f w x ∷ l) (to_suc f i ws xs (omega arith) (omega arith))

to_all : (f : ℕ → ℕ → ℕ) (i : ℕ) (ws xs : List ℕ) → length ws ≤ i → besides_to f i ws xs ≡ besides f ws xs
unfolding besides_to besides
to_all f zero [] xs h = refl
to_all f (suc i) [] xs h = refl
to_all f zero (w ∷ ws) xs h = absurd (omega arith)
to_all f (suc i) (w ∷ ws) [] h = refl
to_all f (suc i) (w ∷ ws) (x ∷ xs) h = ap (λ (l : List ℕ). f w x ∷ l) (to_all f i ws xs (omega arith))

-- words without an entry stay
to_last : (f : ℕ → ℕ → ℕ) (i : ℕ) (ws xs : List ℕ) → length xs ≤ i → besides_to f i ws xs ≡ besides f ws xs
unfolding besides_to besides
to_last f zero [] xs h = refl
to_last f (suc i) [] xs h = refl
to_last f zero (w ∷ ws) [] h = refl
to_last f (suc i) (w ∷ ws) [] h = refl
to_last f zero (w ∷ ws) (x ∷ xs) h = absurd (omega arith)
to_last f (suc i) (w ∷ ws) (x ∷ xs) h = ap (λ (l : List ℕ). f w x ∷ l) (to_last f i ws xs (omega arith))

ended : (m n i : ℕ) → min m n ≤ i → (n ≤ i) ⊎ (m ≤ i)
ended m n i h = ⊎_elim (λ (more : i < m). inl (omega arith)) (λ (all : m ≤ i). inr all) (below_or_not i m)

pub record BesideMapped (f : ℕ → ℕ → ℕ) (start entries words : List ℕ) (i : ℕ) : Type 0 where
  pub inside : i ≤ length words
  pub same : length words ≡ length start
  pub done : words ≡ besides_to f i start entries

module _ (f : ℕ → ℕ → ℕ) (start entries : List ℕ) where
  pub beside_none : BesideMapped f start entries start 0
  unfolding besides_to
  beside_none = record { inside = omega arith; same = refl; done = refl }

  module _ (words : List ℕ) (i : ℕ) (m : BesideMapped f start entries words i) where
    pub beside_more : {v : ℕ} → i < length words → i < length entries → v ≡ f (get_or words i 0) (get_or entries i 0) → BesideMapped f start entries (set words i v) (i + 1)
    beside_more {v} h k e =
        record {
          inside = simp length-set (omega arith);
          same = simp length-set m.same;
          done = rw (e, m.done, add-one) (to_suc f i start entries (omega (arith, m.same)) k);
        }

    -- the shorter list has ended
    pub beside_end : min (length start) (length entries) ≤ i → words ≡ besides f start entries
    beside_end h =
        m.done
        ∙ ⊎_elim
        (λ (few : length entries ≤ i). to_last f i start entries few)
        (λ (all : length start ≤ i). to_all f i start entries all)
        (ended (length start) (length entries) i h)

-- whether one of the pairs passes
pub any_zip : (test : ℕ → Bool) (entry : ℕ) (words entries : List ℕ)
    → list_any (λ (p : ℕ × ℕ). both (eqb p.1 entry) (test p.0)) (zip words entries) ≡ any_beside test entry words entries
unfolding any_beside
any_zip test entry [] xs = refl
any_zip test entry (w ∷ ws) [] = refl
any_zip test entry (w ∷ ws) (x ∷ xs) =
    by_test (both (eqb x entry) (test w)) (λ t. rw t) (λ f. rw f (any_zip test entry ws xs))
