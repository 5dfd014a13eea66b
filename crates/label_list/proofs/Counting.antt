-- What counts of a list beside the words, as words are freed and taken and entries are stored. Assumes nothing.
use Prim.Native.Nat.{ℕ, zero, suc, ◌<◌}
use mathlib.Core.Bool.{Bool, true, false}
use mathlib.Core.List.{List, [], ◌∷◌}
use mathlib.Core.Path.{◌≡◌, refl, ap}
use native.Mathlib.Omega.{arith}
use lib.ListN.{length, get_or, set}
use Rattle.octets.specs.Pick.{pick}
use Rattle.octets.proofs.Choice.{by_test}
use Rattle.label_list.specs.Counting.{counting}

module _ {A : Type 0} (none : A) (live : ℕ → Bool) where
  pub counting-length : (ws : List ℕ) (xs : List A) → length (counting none live ws xs) ≡ length ws
  unfolding counting
  counting-length [] xs = refl
  counting-length (w ∷ ws) [] = ap suc (counting-length ws [])
  counting-length (w ∷ ws) (x ∷ xs) = ap suc (counting-length ws xs)

  -- an entry that does not count may be any
  pub counting_dead : (ws : List ℕ) (xs : List A) (i : ℕ) (x : A) → live (get_or ws i 0) ≡ false → counting none live ws (set xs i x) ≡ counting none live ws xs
  unfolding counting
  counting_dead [] xs i x e = refl
  counting_dead (w ∷ ws) [] i x e = refl
  counting_dead (w ∷ ws) (y ∷ xs) zero x e = rw e
  counting_dead (w ∷ ws) (y ∷ xs) (suc i) x e = ap (λ (l : List A). pick (live w) y none ∷ l) (counting_dead ws xs i x e)

  -- a word is taken and its entry stored
  pub counting-taken : (ws : List ℕ) (xs : List A) (i w : ℕ) (x : A) → live w ≡ true → i < length ws → i < length xs
      → counting none live (set ws i w) (set xs i x) ≡ set (counting none live ws xs) i x
  unfolding counting
  counting-taken [] xs i w x e h k = absurd (omega arith)
  counting-taken (v ∷ ws) [] i w x e h k = absurd (omega arith)
  counting-taken (v ∷ ws) (y ∷ xs) zero w x e h k = rw e
  counting-taken (v ∷ ws) (y ∷ xs) (suc i) w x e h k =
      ap (λ (l : List A). pick (live v) y none ∷ l) (counting-taken ws xs i w x e (omega arith) (omega arith))

  -- words are freed: what counted and counts still is as it was
  pub counting-freed : (vs ws : List ℕ) (xs : List A) → length vs ≡ length ws → ((i : ℕ) → live (get_or vs i 0) ≡ true → live (get_or ws i 0) ≡ true)
      → counting none live vs (counting none live ws xs) ≡ counting none live vs xs
  unfolding counting
  counting-freed [] ws xs n f = refl
  counting-freed (v ∷ vs) [] xs n f = absurd (omega arith)
  counting-freed (v ∷ vs) (w ∷ ws) [] n f =
      let rest = counting-freed vs ws [] (omega arith) (λ i. f (suc i)) in
      by_test (live v) (λ e. rw (e, rest)) (λ e. rw (e, rest))
  counting-freed (v ∷ vs) (w ∷ ws) (x ∷ xs) n f =
      let rest = counting-freed vs ws xs (omega arith) (λ i. f (suc i)) in
      by_test (live v) (λ e. let was : live w ≡ true = f zero e in rw (e, was, rest)) (λ e. rw (e, rest))

  -- so counting twice is counting once
  pub counting_twice : (ws : List ℕ) (xs : List A) → counting none live ws (counting none live ws xs) ≡ counting none live ws xs
  counting_twice ws xs = counting-freed ws ws xs refl (λ i e. e)

  -- an entry by its index: it counts, or there is none
  pub counting-at : (ws : List ℕ) (xs : List A) (i : ℕ) → live (get_or ws i 0) ≡ true → i < length ws → get_or (counting none live ws xs) i none ≡ get_or xs i none
  unfolding counting
  counting-at [] xs i e h = absurd (omega arith)
  counting-at (w ∷ ws) [] zero e h = refl
  counting-at (w ∷ ws) [] (suc i) e h = counting-at ws [] i e (omega arith)
  counting-at (w ∷ ws) (x ∷ xs) zero e h = rw e
  counting-at (w ∷ ws) (x ∷ xs) (suc i) e h = counting-at ws xs i e (omega arith)

  pub counting_none : (ws : List ℕ) (xs : List A) (i : ℕ) → live (get_or ws i 0) ≡ false → get_or (counting none live ws xs) i none ≡ none
  unfolding counting
  counting_none [] xs i e = refl
  counting_none (w ∷ ws) [] zero e = refl
  counting_none (w ∷ ws) [] (suc i) e = counting_none ws [] i e
  counting_none (w ∷ ws) (x ∷ xs) zero e = rw e
  counting_none (w ∷ ws) (x ∷ xs) (suc i) e = counting_none ws xs i e
