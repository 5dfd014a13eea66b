-- The laws of `laid`: the length, one part behind another, beside what it does not reach, what is read back, and the language's stores. Assumes nothing.
use Prim.Native.Nat.{ℕ, zero, suc, ◌+◌, ◌-◌, ◌≤◌, ◌<◌}
use mathlib.Core.List.{List, [], ◌∷◌, ◌++◌, append_assoc, append-nil}
use mathlib.Core.Logic.{◌≢◌}
use mathlib.Core.Path.{◌≡◌, refl, sym, ap, ◌∙◌}
use native.Mathlib.Nat.{add-zero, zero-add, suc-add}
use native.Mathlib.Numerals.{add-one}
use native.Mathlib.Omega.{arith}
use lib.ListN.{length, get_or, set, take, drop, length-set}
use lib.Seq.{get_or-set_same, get_or-set_other, sets, sets-eq, set-append_left, drop-drop, drop-length, length-take-le, take-append_seam, take-suc}
use borrow.Rule.Slice.PartMut.{put_mid}
use Rattle.octets.specs.Laid.{laid}

pub laid_none : (s : List ℕ) (at : ℕ) → laid s at [] ≡ s
unfolding laid
laid_none s at = refl

pub length-laid : (s : List ℕ) (at : ℕ) (p : List ℕ) → length (laid s at p) ≡ length s
unfolding laid
length-laid s at [] = refl
length-laid s at (x ∷ p) = length-laid (set s at x) (suc at) p ∙ length-set s at x

-- a part behind another: both of them joined
pub laid-laid : (s : List ℕ) (at : ℕ) (p q : List ℕ) → laid (laid s at p) (at + length p) q ≡ laid s at (p ++ q)
unfolding laid
laid-laid s at [] q = rw add-zero refl
laid-laid s at (x ∷ p) q =
    let next : at + suc (length p) ≡ suc at + length p = omega arith in
    rw next (laid-laid (set s at x) (suc at) p q)

pub laid_then : (s : List ℕ) (at : ℕ) (p q : List ℕ) (n : ℕ) → n ≡ at + length p → laid (laid s at p) n q ≡ laid s at (p ++ q)
laid_then s at p q n e = rw e (laid-laid s at p q)

-- ---- element by element
-- one that the part does not reach is as it was
pub laid_elsewhere : (s : List ℕ) (at : ℕ) (p : List ℕ) (j : ℕ) → ((k : ℕ) → k < length p → j ≢ at + k) → get_or (laid s at p) j 0 ≡ get_or s j 0
unfolding laid
laid_elsewhere s at [] j out = refl
laid_elsewhere s at (x ∷ p) j out =
    laid_elsewhere (set s at x) (suc at) p j (λ k l e. out (suc k) (omega arith) (e ∙ omega arith))
    ∙ get_or-set_other s at j x 0 (λ e. out 0 (omega arith) (e ∙ omega arith))

-- one that it reaches is the part's
pub laid_inside : (s : List ℕ) (at : ℕ) (p : List ℕ) (i : ℕ) → at + length p ≤ length s → i < length p → get_or (laid s at p) (at + i) 0 ≡ get_or p i 0
unfolding laid
laid_inside s at [] i room l = absurd (omega arith)
laid_inside s at (x ∷ p) zero room l =
    laid_elsewhere (set s at x) (suc at) p (at + 0) (λ k h e. omega arith)
    ∙ ap (λ (k : ℕ). get_or (set s at x) k 0) (add-zero at)
    ∙ get_or-set_same s at x 0 (omega arith)
laid_inside s at (x ∷ p) (suc i) room l =
    let there : at + suc i ≡ suc at + i = omega arith in
    rw there (laid_inside (set s at x) (suc at) p i (rw length-set (omega arith)) (omega arith))

-- ---- the language's stores
-- the next element of a part that is written one by one, where what it is is the part's
pub laid_next : (s : List ℕ) (at : ℕ) (p : List ℕ) (i : ℕ) → i < length p → set (laid s at (take i p)) (at + i) (get_or p i 0) ≡ laid s at (take (i + 1) p)
unfolding laid
laid_next s at p i l =
    let n : length (take i p) ≡ i = length-take-le i p (omega arith) in
    ap (λ (k : ℕ). set (laid s at (take i p)) (at + k) (get_or p i 0)) (sym n)
    ∙ laid-laid s at (take i p) (get_or p i 0 ∷ [])
    ∙ ap (laid s at) (sym (take-suc p i 0 l))
    ∙ ap (λ (k : ℕ). laid s at (take k p)) (sym (add-one i))

pub laid_two : (s : List ℕ) (at x y : ℕ) → laid s at (x ∷ y ∷ []) ≡ set (set s at x) (at + 1) y
unfolding laid
laid_two s at x y = ap (λ (i : ℕ). set (set s at x) i y) (omega arith)

-- ---- a part that lies within
laid_sets : (s : List ℕ) (at : ℕ) (p : List ℕ) → laid s at p ≡ sets s at p
unfolding laid
laid_sets s at [] = refl
laid_sets s at (x ∷ p) = laid_sets (set s at x) (suc at) p

-- what stands before it, the part, and what stands behind it
pub laid_split : (s : List ℕ) (at : ℕ) (p : List ℕ) → at + length p ≤ length s → laid s at p ≡ take at s ++ (p ++ drop (at + length p) s)
laid_split s at p room = laid_sets s at p ∙ sets-eq p s at room ∙ append_assoc (take at s) p (drop (at + length p) s)

-- what the language's `&mut s[a..e]` leaves
pub laid-between : (s : List ℕ) (a e : ℕ) (p : List ℕ) → a ≤ e → e ≤ length s → length p ≡ e - a → take a s ++ (p ++ drop (e - a) (drop a s)) ≡ laid s a p
laid-between s a e p h g l =
    let end : a + (e - a) ≡ a + length p = omega arith in
    sym (laid_split s a p (omega arith) ∙ ap (λ (x : List ℕ). take a s ++ (p ++ x)) (ap (λ (k : ℕ). drop k s) (sym end) ∙ sym (drop-drop (e - a) a s)))

-- the same, for a search
pub laid_put : (s : List ℕ) (a k : ℕ) (p : List ℕ) → a + k ≤ length s → length p ≡ k → put_mid a k s p ≡ laid s a p
laid_put s a k p h l =
    let size : a + k - a ≡ k = omega arith in
    rw size at (laid-between s a (a + k) p (omega arith) h (omega arith))

-- written from the start, it is found there
pub laid_front : (s p : List ℕ) → length p ≤ length s → laid s 0 p ≡ p ++ drop (length p) s
laid_front s p room = laid_split s 0 p (omega arith) ∙ ap (λ (k : ℕ). p ++ drop k s) (zero-add (length p))

pub take-laid : (s p : List ℕ) → length p ≤ length s → take (length p) (laid s 0 p) ≡ p
take-laid s p room = rw (laid_front s p room) (take-append_seam p (drop (length p) s))

-- written over all of a list
pub laid_all : (s p : List ℕ) → length p ≡ length s → laid s 0 p ≡ p
laid_all s p e = laid_front s p (omega arith) ∙ ap (λ (k : ℕ). p ++ drop k s) e ∙ ap (λ (x : List ℕ). p ++ x) (drop-length s) ∙ append-nil p

-- ---- in joined lists
laid-suc : (y : ℕ) (s : List ℕ) (at : ℕ) (p : List ℕ) → laid (y ∷ s) (suc at) p ≡ y ∷ laid s at p
unfolding laid
laid-suc y s at [] = refl
laid-suc y s at (x ∷ p) = laid-suc y (set s at x) (suc at) p

-- in the second
pub laid_behind : (s t : List ℕ) (at : ℕ) (p : List ℕ) → laid (s ++ t) (length s + at) p ≡ s ++ laid t at p
laid_behind [] t at p = rw (zero-add at) refl
laid_behind (y ∷ s) t at p = rw (suc-add (length s) at) (laid-suc y (s ++ t) (length s + at) p ∙ ap (λ (x : List ℕ). y ∷ x) (laid_behind s t at p))

-- in the first
pub laid-before : (s t : List ℕ) (at : ℕ) (p : List ℕ) → at + length p ≤ length s → laid (s ++ t) at p ≡ laid s at p ++ t
unfolding laid
laid-before s t at [] room = refl
laid-before s t at (x ∷ p) room =
    rw (set-append_left s t at x (omega arith)) (laid-before (set s at x) t (suc at) p (rw length-set (omega arith)))

-- over the first
pub laid-over : (s t p : List ℕ) → length p ≡ length s → laid (s ++ t) 0 p ≡ p ++ t
laid-over s t p e = laid-before s t 0 p (omega arith) ∙ ap (λ (x : List ℕ). x ++ t) (laid_all s p e)

-- ---- x is s with p written from `at` on: parts written one behind the other
pub record Laid (s : List ℕ) (at : ℕ) (p x : List ℕ) : Type 0 where
  pub is : x ≡ laid s at p

pub laid-start : (s : List ℕ) (at : ℕ) → Laid s at [] s
laid-start s at = record { is = sym (laid_none s at) }

pub then_part : {s p x y : List ℕ} {at : ℕ} → Laid s at p x → (q : List ℕ) (to : ℕ) → y ≡ laid x to q → to ≡ at + length p → Laid s at (p ++ q) y
then_part {s} {p} {x} {y} {at} l q to e toq = record { is = e ∙ rw l.is (laid_then s at p q to toq) }
