-- Laws of one label word: ranges of codes, sides, and the label that a word stands for. Assumes nothing.
use Prim.Native.Nat.{ℕ, ◌≤◌, ◌<◌}
use mathlib.Core.Bool.{true, false, false≢true}
use mathlib.Core.Logic.{◌≢◌, ⊎_elim, ◌⊎◌, inl, inr}
use mathlib.Core.Path.{◌≡◌, refl, ◌∙◌, sym}
use native.Mathlib.Omega.{arith}
use lib.Dec.{eqb, leb}
use borrow.Author.Tests.{le-leb, lt-leb, leb-true, eq-eqb, eqb-true}
use Rattle.octets.proofs.Choice.{both_true, both_commutes, by_test, below_or_not}
use Rattle.label_list.specs.declared.Side.{Side}
use Rattle.label_list.specs.declared.Side.TheVariants.{Given, Used}
use Rattle.label_list.specs.Find.{bears_label}
use Rattle.label_list.specs.Word.{label_of, code_of, within, on_side, stands_for, is_request, request_word, request_code}

module _ (low high n : ℕ) where
  pub within_in : low ≤ n → n ≤ high → true ≡ within low high n
  within_in l h = simp (le-leb low n l, le-leb n high h)

  pub within_below : n < low → false ≡ within low high n
  within_below l = rw (lt-leb low n l)

  pub within_above : low ≤ n → high < n → false ≡ within low high n
  within_above l h = simp (le-leb low n l, lt-leb n high h)

  pub within_range : within low high n ≡ true → (low ≤ n) × (n ≤ high)
  within_range e =
      let parts : (leb low n ≡ true) × (leb n high ≡ true) = both_true (leb low n) (leb n high) e in
      (leb-true low n parts.0, leb-true n high parts.1)

  pub within_out : (low ≤ n → high < n) → false ≡ within low high n
  within_out h = ⊎_elim (λ (below : n < low). within_below below) (λ (l : low ≤ n). within_above l (h l)) (below_or_not n low)

-- The codes of labels that we gave: 1, 2, 8 and 9.
module _ (c : ℕ) where
  abbrev pub InGiven : Type 0
  InGiven = ((1 ≤ c) × (c ≤ 2)) ⊎ ((8 ≤ c) × (c ≤ 9))

  pub given_in : InGiven → true ≡ on_side Given c
  unfolding on_side
  given_in =
      ⊎_elim
      (λ (r : (1 ≤ c) × (c ≤ 2)). simp (sym (within_in 1 2 c r.0 r.1)))
      (λ (r : (8 ≤ c) × (c ≤ 9)). simp (sym (within_above 1 2 c (omega arith) (omega arith)), sym (within_in 8 9 c r.0 r.1)))

  pub given_out : (1 ≤ c → 2 < c) → (8 ≤ c → 9 < c) → false ≡ on_side Given c
  unfolding on_side
  given_out low high = simp (sym (within_out 1 2 c low), sym (within_out 8 9 c high))

  pub given_range : on_side Given c ≡ true → InGiven
  unfolding on_side
  given_range e = by_test (within 1 2 c) (λ t. inl (within_range 1 2 c t)) (λ f. inr (within_range 8 9 c (rw f at e)))

  -- and of labels that we use: 3 to 6
  pub used_in : 3 ≤ c → c ≤ 6 → true ≡ on_side Used c
  unfolding on_side
  used_in l h = within_in 3 6 c l h

  pub used_out : (3 ≤ c → 6 < c) → false ≡ on_side Used c
  unfolding on_side
  used_out h = within_out 3 6 c h

  pub used_range : on_side Used c ≡ true → (3 ≤ c) × (c ≤ 6)
  unfolding on_side
  used_range e = within_range 3 6 c e

-- A code that is none of 1 to 6, 8 and 9 stands on no side.
pub off_sides : (s : Side) (c : ℕ) → (1 ≤ c → 6 < c) → (8 ≤ c → 9 < c) → false ≡ on_side s c
off_sides Given c low high = given_out c (λ l. omega (arith, low l)) high
off_sides Used c low high = used_out c (λ l. low (omega arith))

-- So a code of a side is not 0, which stands for an absent label.
pub side-listed : (s : Side) (c : ℕ) → on_side s c ≡ true → c ≢ 0
side-listed s c on z = false≢true (off_sides s c (omega arith) (omega arith) ∙ on)

-- nor 7, an open Request's, and at most 9
pub side-plain : (s : Side) (c : ℕ) → on_side s c ≡ true → c ≢ request_code
side-plain s c on z = false≢true (off_sides s c (λ l. omega arith) (λ l. omega arith) ∙ on)

pub side_low : (s : Side) (c : ℕ) → on_side s c ≡ true → c ≤ 9
side_low s c on = ⊎_elim (λ (high : 9 < c). absurd (false≢true (off_sides s c (λ l. omega arith) (λ l. omega arith) ∙ on))) (λ (low : c ≤ 9). low) (below_or_not 9 c)

-- A code stands on one side at most.
not_used : (c : ℕ) → on_side Given c ≡ true → on_side Used c ≡ true → ⊥
not_used c p q =
    let used : (3 ≤ c) × (c ≤ 6) = used_range c q in
    ⊎_elim (λ (r : (1 ≤ c) × (c ≤ 2)). omega arith) (λ (r : (8 ≤ c) × (c ≤ 9)). omega arith) (given_range c p)

pub one_side : (s t : Side) (c : ℕ) → on_side s c ≡ true → on_side t c ≡ true → s ≡ t
one_side Given Given c p q = refl
one_side Used Used c p q = refl
one_side Given Used c p q = absurd (not_used c p q)
one_side Used Given c p q = absurd (not_used c q p)

-- A word stands for a label on a side exactly if its code is of that side and the label is its own.
pub stands_parts : (s : Side) (l w : ℕ) → stands_for s l w ≡ true → (on_side s (code_of w) ≡ true) × (label_of w ≡ l)
unfolding stands_for
stands_parts s l w e =
    let parts : (on_side s (code_of w) ≡ true) × (eqb (label_of w) l ≡ true) = both_true (on_side s (code_of w)) (eqb (label_of w) l) e in
    (parts.0, eqb-true (label_of w) l parts.1)

pub parts_stands : (s : Side) (l w : ℕ) → on_side s (code_of w) ≡ true → label_of w ≡ l → stands_for s l w ≡ true
unfolding stands_for
parts_stands s l w p q = simp (p, eq-eqb (label_of w) l q)

-- Of a word that bears the label the side decides; another stands for it on no side.
pub bears_stands : (s : Side) (l w : ℕ) → bears_label l w ≡ true → stands_for s l w ≡ on_side s (code_of w)
unfolding stands_for bears_label
bears_stands s l w e = rw (both_commutes (on_side s (code_of w)) (eqb (label_of w) l), e)

pub other_stands : (s : Side) (l w : ℕ) → bears_label l w ≡ false → stands_for s l w ≡ false
unfolding stands_for bears_label
other_stands s l w e = rw (both_commutes (on_side s (code_of w)) (eqb (label_of w) l), e)

pub free_stands : (s : Side) (l : ℕ) → stands_for s l 0 ≡ false
unfolding stands_for on_side
free_stands Given l = refl
free_stands Used l = refl

-- An open Request's word lists no label.
pub request_stands : (s : Side) (l w : ℕ) → w ≡ request_word → stands_for s l w ≡ false
unfolding stands_for on_side
request_stands Given l w e = rw e
request_stands Used l w e = rw e

pub request_word_lem : (w : ℕ) → is_request w ≡ true → w ≡ request_word
unfolding is_request
request_word_lem w e = eqb-true w request_word e
