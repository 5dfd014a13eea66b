-- Bytes that are all zero, one by one. Assumes nothing.
use Rattle.std.proofs.Common.{◌↔◌, IsTrue}
use Prim.Native.Nat.{ℕ, zero, suc, ◌+◌, ◌-◌, ◌≤◌, ◌<◌}
use mathlib.Core.Bool.{Bool, true, false}
use mathlib.Core.List.{List, [], ◌∷◌}
use mathlib.Core.Path.{◌≡◌, refl, sym, ◌∙◌}
use native.Mathlib.Omega.{arith}
use lib.Dec.{eqb}
use lib.ListN.{length, get_or, take, drop, replicate, length-take, length-drop, drop_of_length-le}
use lib.Seq.{get_or-drop, get_or-take}
use borrow.Author.Tests.{eqb-true, eq-eqb}
use Rattle.octets.specs.Laid.{laid}
use Rattle.octets.specs.Part.{part}
use Rattle.octets.specs.Pick.{both}
use Rattle.octets.proofs.Choice.{both_true, by_test}
use Rattle.octets.proofs.Fill.{length_zeros, zeros_at}
use Rattle.octets.proofs.Part.{part-at, part_same}
use Rattle.block.specs.Check.{check_at}
use Rattle.block.specs.Zeros.{all_zero}

pub all_zero_none : all_zero [] ≡ true
unfolding all_zero
all_zero_none = refl

pub all_zero_one : (x : ℕ) (rest : List ℕ) → all_zero (x ∷ rest) ≡ both (eqb x 0) (all_zero rest)
unfolding all_zero
all_zero_one x rest = refl

pub zero-bytes : (s : List ℕ) → all_zero s ≡ true → (i : ℕ) → get_or s i 0 ≡ 0
zero-bytes [] h i = refl
zero-bytes (x ∷ rest) h zero = eqb-true _ _ (both_true (eqb x 0) (all_zero rest) (rw all_zero_one at h)).0
zero-bytes (x ∷ rest) h (suc i) = zero-bytes rest (both_true (eqb x 0) (all_zero rest) (rw all_zero_one at h)).1 i

pub bytes-zero : (s : List ℕ) → ((i : ℕ) → i < length s → get_or s i 0 ≡ 0) → all_zero s ≡ true
bytes-zero [] z = all_zero_none
bytes-zero (x ∷ rest) z = simp (all_zero_one, eq-eqb x 0 (z 0 (omega arith)), bytes-zero rest (λ i l. z (suc i) (omega arith)))

-- a test of each byte
pub zero_by : (s : List ℕ) (r : Bool) → (IsTrue r ↔ ((i : ℕ) → i < length s → get_or s i 0 ≡ 0)) → r ≡ all_zero s
zero_by s true h = sym (bytes-zero s (h.0 refl))
zero_by s false h = by_test (all_zero s) (λ t. absurd (no (h.1 (λ i l. zero-bytes s t i)))) (λ f. sym f)
  where
    no : IsTrue false → ⊥
    no e = cc

-- zeros from some byte on
pub zero_from : (s : List ℕ) (k : ℕ) → all_zero (drop k s) ≡ true → (i : ℕ) → k ≤ i → get_or s i 0 ≡ 0
zero_from s k z i l =
    let place : k + (i - k) ≡ i = omega arith in
    rw place at (sym (get_or-drop k s (i - k) 0) ∙ zero-bytes (drop k s) z (i - k))

-- and so from any later one
pub zero_further : (s : List ℕ) (k m : ℕ) → k ≤ m → all_zero (drop k s) ≡ true → all_zero (drop m s) ≡ true
zero_further s k m h z = bytes-zero (drop m s) (λ i l. get_or-drop m s i 0 ∙ zero_from s k z (m + i) (omega arith))

-- past the end there are only zeros
pub zero_past : (s : List ℕ) (k : ℕ) → length s ≤ k → all_zero (drop k s) ≡ true
zero_past s k l = rw (drop_of_length-le s {i = k} l) all_zero_none

-- bytes that were cleared
pub zeros_zero : (n : ℕ) → all_zero (replicate n 0) ≡ true
zeros_zero n = bytes-zero (replicate n 0) (λ i l. zeros_at n i)

pub cleared-zero : (s : List ℕ) (at n e : ℕ) → at + n ≤ length s → e ≡ at + n → all_zero (part (laid s at (replicate n 0)) at e) ≡ true
cleared-zero s at n e room h = rw (part_same s at e (replicate n 0) (omega arith) (omega arith) (length_zeros n ∙ omega arith)) (zeros_zero n)

-- of a block's bytes up to its check
pub body_zero : (b : List ℕ) (end : ℕ) → all_zero (part b end check_at) ≡ true
    → all_zero (drop end (take check_at b)) ≡ true
body_zero b end z =
    bytes-zero (drop end (take check_at b)) (λ i l.
    let inside : end + i < 508 = omega (arith, simp (length-take, length-drop) at l) in
    get_or-drop end (take check_at b) i 0
    ∙ get_or-take 508 b (end + i) 0 inside
    ∙ sym (part-at b end check_at i (omega arith))
    ∙ zero-bytes (part b end check_at) z i)
