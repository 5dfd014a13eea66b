-- Bytes looked at by parts, each as one number. Assumes nothing.
use Prim.Native.Nat.{ℕ, zero, suc, ◌+◌, ◌-◌, ◌*◌, ◌^◌, ◌≤◌, ◌<◌}
use mathlib.Core.Bool.{true, false, false≢true}
use mathlib.Core.List.{List, [], ◌∷◌, ◌++◌}
use mathlib.Core.Logic.{⊎_elim}
use mathlib.Core.Path.{◌≡◌, refl, sym, ap, ◌∙◌}
use native.Mathlib.Nat.{suc-mul}
use native.Mathlib.Omega.{arith}
use lib.Bits.{bit_or, or_add_and, and_le_l, and_le_r}
use lib.Dec.{eqb}
use lib.ListN.{length, get_or, take, drop, length-take, length-drop}
use lib.Seq.{take-add, take-suc, drop-drop, get_or-take, get_or-drop}
use borrow.Author.Tests.{eq-eqb, ne_eqb, eqb-true, eqb-false}
use Rattle.octets.specs.Pick.{both}
use Rattle.octets.proofs.Be.{pos}
use Rattle.octets.proofs.Choice.{by_test, below_or_not}
use Rattle.block.specs.Rows.{le_at}
use Rattle.block.specs.Zeros.{all_zero}
use Rattle.block.proofs.Le.{le_at-suc}
use Rattle.block.proofs.ZeroBytes.{all_zero_none, all_zero_one, zero-bytes, bytes-zero}

all_zero_join : (s t : List ℕ) → all_zero (s ++ t) ≡ both (all_zero s) (all_zero t)
all_zero_join [] t = rw all_zero_none
all_zero_join (x ∷ s) t = rw (all_zero_one x (s ++ t), all_zero_one x s, all_zero_join s t) (by_test (eqb x 0) (λ e. rw e) (λ e. rw e))

-- ---- a number that is zero where both of two are
both_zero : (x y z : ℕ) → (z ≡ 0 → (x ≡ 0) × (y ≡ 0)) → (x ≡ 0 → y ≡ 0 → z ≡ 0) → eqb z 0 ≡ both (eqb x 0) (eqb y 0)
both_zero x y z p q =
    by_test (eqb x 0)
    (λ e. rw e (by_test (eqb y 0) (λ f. rw f (eq-eqb z 0 (q (eqb-true x 0 e) (eqb-true y 0 f)))) (λ f. rw f (ne_eqb z 0 (λ (g : z ≡ 0). eqb-false y 0 f (p g).1)))))
    (λ e. rw e (ne_eqb z 0 (λ (g : z ≡ 0). eqb-false x 0 e (p g).0)))

or-zero : (x y : ℕ) → eqb (bit_or x y) 0 ≡ both (eqb x 0) (eqb y 0)
or-zero x y =
    let a = or_add_and x y in
    let l = and_le_l x y in
    let r = and_le_r x y in
    both_zero x y (bit_or x y) (λ e. (omega arith, omega arith)) (λ e f. omega arith)

-- ---- the numbers of a part
none_of : (b k : ℕ) → 0 < k → b * k ≡ 0 → b ≡ 0
none_of zero k h e = refl
none_of (suc b) k h e = absurd (omega (arith, rw suc-mul at e))

le-zero : (s : List ℕ) (at w : ℕ) → at + w ≤ length s → eqb (le_at w s at) 0 ≡ all_zero (take w (drop at s))
le-zero s at zero h = sym all_zero_none
le-zero s at (suc w) h =
    let inside : w < length (drop at s) = simp length-drop (omega arith) in
    let b : ℕ = get_or s (at + w) 0 in
    ap (λ (k : ℕ). eqb k 0) (le_at-suc w s at)
    ∙ both_zero (le_at w s at) b (le_at w s at + b * 256 ^ w)
    (λ e. (low _ _ e, none_of b (256 ^ w) (pos w) (high _ _ e)))
    (λ e f. rw (e, f) (omega arith))
    ∙ rw (le-zero s at w (omega arith), take-suc (drop at s) w 0 inside, all_zero_join, all_zero_one, all_zero_none, get_or-drop) (by_test (eqb b 0) (λ e. rw e) (λ e. rw e))
  where
    low : (x y : ℕ) → x + y ≡ 0 → x ≡ 0
    low x y e = omega arith

    high : (x y : ℕ) → x + y ≡ 0 → y ≡ 0
    high x y e = omega arith

-- two parts, one behind the other
or_parts : (s : List ℕ) (at n m x y : ℕ) → eqb x 0 ≡ all_zero (take n (drop at s)) → eqb y 0 ≡ all_zero (take m (drop (at + n) s))
    → eqb (bit_or x y) 0 ≡ all_zero (take (n + m) (drop at s))
or_parts s at n m x y p q = or-zero x y ∙ rw (p, q, take-add n m (drop at s), all_zero_join, drop-drop n at s)

-- eight bytes more, joined bit by bit
pub joined_more : (s : List ℕ) (at i x y : ℕ) → eqb x 0 ≡ all_zero (take (8 * i) (drop at s))
    → y ≡ le_at 8 s (at + 8 * i) → at + 8 * (i + 1) ≤ length s
    → eqb (bit_or x y) 0 ≡ all_zero (take (8 * (i + 1)) (drop at s))
joined_more s at i x y p e h =
    let more : 8 * (i + 1) ≡ 8 * i + 8 = omega arith in
    rw more (or_parts s at (8 * i) 8 x y p (rw e (le-zero s (at + 8 * i) 8 (omega arith))))

-- ---- parts of a list
module _ (s : List ℕ) (at n : ℕ) where
  -- a part that is not zero
  pub part-set : all_zero (take n (drop at s)) ≡ false → false ≡ all_zero s
  part-set f = by_test (all_zero s) (λ e. absurd (false≢true (sym f ∙ bytes-zero (take n (drop at s)) (λ i l. byte e i (omega (arith, simp length-take at l)))))) (λ e. sym e)
    where
      byte : all_zero s ≡ true → (i : ℕ) → i < n → get_or (take n (drop at s)) i 0 ≡ 0
      byte e i l = get_or-take n (drop at s) i 0 l ∙ get_or-drop at s i 0 ∙ zero-bytes s e (at + i)

  part_bytes : all_zero (take n (drop at s)) ≡ true → (j : ℕ) → at ≤ j → j < at + n → get_or s j 0 ≡ 0
  part_bytes t j l m =
      let place : at + (j - at) ≡ j = omega arith in
      rw place at (sym (get_or-drop at s (j - at) 0) ∙ sym (get_or-take n (drop at s) (j - at) 0 (omega arith)) ∙ zero-bytes (take n (drop at s)) t (j - at))

-- the bytes before n are zero
abbrev pub ZeroTo : List ℕ → ℕ → Type 0
ZeroTo s n = (j : ℕ) → j < n → get_or s j 0 ≡ 0

-- with a part that starts among them
zero_to : (s : List ℕ) (k at n : ℕ) → ZeroTo s k → at ≤ k → all_zero (take n (drop at s)) ≡ true → ZeroTo s (at + n)
zero_to s k at n z h t j l = ⊎_elim (λ (b : j < at). z j (omega arith)) (λ (b : at ≤ j). part_bytes s at n t j b l) (below_or_not j at)

pub zero-on : (s : List ℕ) (i : ℕ) → ZeroTo s (i * 128) → all_zero (take 128 (drop (i * 128) s)) ≡ true → ZeroTo s ((i + 1) * 128)
zero-on s i z t = let next : i * 128 + 128 ≡ (i + 1) * 128 = omega arith in rw next at (zero_to s (i * 128) (i * 128) 128 z (omega arith) t)

-- with the last n they are all
pub zero_all : (s : List ℕ) (k n : ℕ) → n ≤ length s → length s ≤ k + n → ZeroTo s k → all_zero (take n (drop (length s - n) s)) ≡ all_zero s
zero_all s k n h m z =
    by_test (all_zero (take n (drop (length s - n) s)))
    (λ t. t ∙ sym (bytes-zero s (λ j l. zero_to s k (length s - n) n z (omega arith) t j (omega arith))))
    (λ f. f ∙ part-set s (length s - n) n f)

-- the first n and the last
pub ends_all : (s : List ℕ) (n x y : ℕ) → n ≤ length s → length s ≤ n + n → eqb x 0 ≡ all_zero (take n s)
    → eqb y 0 ≡ all_zero (take n (drop (length s - n) s))
    → eqb (bit_or x y) 0 ≡ all_zero s
ends_all s n x y h m p q =
    or-zero x y
    ∙ by_test (eqb x 0)
    (λ t. rw t (q ∙ zero_all s n n h m (λ j l. part_bytes s 0 n (sym p ∙ t) j (omega arith) (omega arith))))
    (λ f. rw f (part-set s 0 n (sym p ∙ f)))
