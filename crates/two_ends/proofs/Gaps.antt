-- Lists of messages read without those left out, and positions marked one by one. Assumes nothing.
use Prim.Native.Nat.{ℕ, zero, suc, ◌+◌, ◌-◌, ◌<◌, ◌≤◌}
use mathlib.Core.Bool.{Bool, true, false, false≢true}
use mathlib.Core.List.{List, [], ◌∷◌, ◌++◌}
use mathlib.Core.Logic.{◌⊎◌, inl, inr}
use mathlib.Core.Path.{◌≡◌, refl, sym, ap, ◌∙◌}
use native.Mathlib.Omega.{arith}
use lib.Dec.{eqb}
use lib.ListN.{length, take, drop}
use borrow.Author.Tests.{eq-eqb, eqb-true}
use Rattle.octets.specs.Pick.{pick}
use Rattle.octets.proofs.Choice.{by_test}
use Rattle.two_ends.specs.LeftOut.{is_left, positions, without}
use Rattle.two_ends.proofs.Half.{Gap}

-- ---- positions
pub left-append : (left more : List ℕ) (i : ℕ) → is_left (left ++ more) i ≡ pick (is_left left i) true (is_left more i)
left-append [] more i = refl
left-append (p ∷ left) more i = by_test (eqb p i) (λ t. rw t) (λ f. rw f (left-append left more i))

-- a position marked before, or one of the new ones
pub left_split : (left more : List ℕ) (i : ℕ) → is_left (left ++ more) i ≡ true → (is_left left i ≡ true) ⊎ (is_left more i ≡ true)
left_split left more i e = by_test (is_left left i) (λ t. inl t) (λ f. inr (rw (left-append left more i, f) at e))

pub positions_in : (p k i : ℕ) → p ≤ i → i < p + k → is_left (positions p k) i ≡ true
positions_in p zero i low high = absurd (omega arith)
positions_in p (suc k) i low high =
    by_test (eqb p i)
    (λ t. rw t)
    (λ f. rw f (positions_in (suc p) k i (omega (arith, ne p i f)) (omega arith)))
  where
    ne : (p i : ℕ) → eqb p i ≡ false → (p ≡ i → ⊥)
    ne p i f e = false≢true (sym f ∙ eq-eqb p i e)

pub positions_span : (p k i : ℕ) → is_left (positions p k) i ≡ true → (p ≤ i) × (i < p + k)
positions_span p zero i e = absurd (false≢true e)
positions_span p (suc k) i e =
    by_test (eqb p i)
    (λ t. let same : p ≡ i = eqb-true p i t in (omega arith, omega arith))
    (λ f. let s = positions_span (suc p) k i (rw f at e) in (omega (arith, s.0), omega (arith, s.1)))

-- below the new ones nothing changes
pub positions_below : (left : List ℕ) (p k i : ℕ) → i < p → is_left (left ++ positions p k) i ≡ is_left left i
positions_below left p k i l =
    left-append left (positions p k) i
    ∙ by_test (is_left (positions p k) i)
    (λ t. absurd (omega (arith, (positions_span p k i t).0)))
    (λ f. rw f (same (is_left left i)))
  where
    same : (b : Bool) → pick b true false ≡ b
    same true = refl
    same false = refl

-- ---- a list without those left out
next-at : (p j : ℕ) → p + suc j ≡ suc p + j
next-at p j = omega arith

module _ {A : Type 0} where
  pub without-append : (left : List ℕ) (p : ℕ) (xs ys : List A) → without left p (xs ++ ys) ≡ without left p xs ++ without left (p + length xs) ys
  without-append left p [] ys = let e : p + 0 ≡ p = omega arith in rw e
  without-append left p (m ∷ xs) ys =
      let e : p + suc (length xs) ≡ suc p + length xs = omega arith in
      rw (e, without-append left (suc p) xs ys) (by_test (is_left left p) (λ t. rw t) (λ f. rw f))

  -- where nothing is left out it is the list
  pub without_none : (p : ℕ) (xs : List A) → without [] p xs ≡ xs
  without_none p [] = refl
  without_none p (m ∷ xs) = ap (λ (l : List A). m ∷ l) (without_none (suc p) xs)

  -- marks elsewhere do not matter
  pub without_same : (left now : List ℕ) (p : ℕ) (xs : List A) → ((j : ℕ) → p ≤ j → j < p + length xs → is_left now j ≡ is_left left j) → without now p xs ≡ without left p xs
  without_same left now p [] h = refl
  without_same left now p (m ∷ xs) h =
      rw (h p (omega arith) (omega arith), without_same left now (suc p) xs (λ j low high. h j (omega arith) (omega arith)))

  -- messages left out add nothing
  pub without_skips : (left : List ℕ) (acc : List A) (p s n : ℕ) → s ≤ n → ((j : ℕ) → s ≤ j → j < n → is_left left (p + j) ≡ true) → without left p (take n acc) ≡ without left p (take s acc)
  without_skips left [] p zero zero h f = refl
  without_skips left [] p zero (suc n) h f = refl
  without_skips left [] p (suc s) zero h f = refl
  without_skips left [] p (suc s) (suc n) h f = refl
  without_skips left (m ∷ acc) p zero zero h f = refl
  without_skips left (m ∷ acc) p zero (suc n) h f =
      let at : p + 0 ≡ p = omega arith in
      let here : is_left left p ≡ true = rw at at (f 0 (omega arith) (omega arith)) in
      rw here (without_skips left acc (suc p) zero n (omega arith) (λ j l u. rw (next-at p j) at (f (suc j) (omega arith) (omega arith))))
  without_skips left (m ∷ acc) p (suc s) zero h f = absurd (omega arith)
  without_skips left (m ∷ acc) p (suc s) (suc n) h f =
      ap (λ (l : List A). pick (is_left left p) l (m ∷ l)) (without_skips left acc (suc p) s n (omega arith) (λ j l u. rw (next-at p j) at (f (suc j) (omega arith) (omega arith))))

  -- one that is not is the next
  without-next : (left : List ℕ) (acc : List A) (p s : ℕ) (m : A) (t : List A) → is_left left (p + s) ≡ false → drop s acc ≡ m ∷ t
      → without left p (take (suc s) acc) ≡ without left p (take s acc) ++ (m ∷ [])
  without-next left [] p zero m t e d = let no : ◌≡◌ {A = ℕ} 0 1 = cc in absurd (omega arith)
  without-next left [] p (suc s) m t e d = let no : ◌≡◌ {A = ℕ} 0 1 = cc in absurd (omega arith)
  without-next left (x ∷ acc) p zero m t e d =
      let at : p + 0 ≡ p = omega arith in
      let here : is_left left p ≡ false = rw at at e in
      let same : x ≡ m = cc in
      rw (here, same)
  without-next left (x ∷ acc) p (suc s) m t e d =
      let at : p + suc s ≡ suc p + s = omega arith in
      let rest = without-next left acc (suc p) s m t (rw at at e) d in
      by_test (is_left left p) (λ q. rw (q, rest)) (λ q. rw (q, rest))

  -- the peer secures the oldest of a line: what it secured is what was accepted up to there, without those left out
  pub gap_secured : (left : List ℕ) (acc : List A) (s n : ℕ) (m : A) (g : Gap left acc s n m)
      → without left 0 (take (suc (s + g.k)) acc) ≡ without left 0 (take s acc) ++ (m ∷ [])
  gap_secured left acc s n m g =
      without-next left acc 0 (s + g.k) m (drop (suc (s + g.k)) acc) (rw (plain (s + g.k)) g.borne) g.place
      ∙ ap (λ (l : List A). l ++ (m ∷ [])) (without_skips left acc 0 s (s + g.k) (omega arith) (λ j l u. rw (plain j, from s j l) (g.skipped (j - s) (omega arith))))
    where
      plain : (i : ℕ) → 0 + i ≡ i
      plain i = omega arith

      from : (s j : ℕ) → s ≤ j → j ≡ s + (j - s)
      from s j l = omega arith
