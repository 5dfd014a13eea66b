-- The check as one sum and one weighted sum of the block's words with their bytes swapped. Assumes nothing.
use Prim.Native.Nat.{ℕ, zero, suc, ◌+◌, ◌*◌, ◌%◌, ◌≤◌}
use mathlib.Core.List.{List}
use mathlib.Core.Path.{◌≡◌, refl, ap, ◌∙◌}
use native.Mathlib.Nat.{zero-add, suc-add, suc-mul}
use native.Mathlib.Omega.{arith}
use lib.ListN.{length, get_or, drop}
use Rattle.block.specs.Check.{sums, check_of, check_at}
use Rattle.block.specs.Rows.{le_at, sum_by, run_by}
use Rattle.block.proofs.Sums.{sums-turn, sums_last}

sums_same : (s : List ℕ) {a b c d at to : ℕ} → a ≡ c → b ≡ d → at ≡ to → sums a b (drop at s) ≡ sums c d (drop to s)
sums_same s p q r = λ i. sums (p i) (q i) (drop (r i) s)

-- a word with its bytes swapped is 256 times the word
swap : (z x y : ℕ) → (z + (x * 256 + y)) % 65535 ≡ (z + 256 * (x + y * 256)) % 65535
swap z x y = omega arith

-- the check after n words
check_after : (s : List ℕ) (n : ℕ) → n * 2 ≤ length s
    → check_of s ≡ sums ((1 + 256 * sum_by 2 (le_at 2 s) n) % 65535) ((n + 256 * run_by 2 (le_at 2 s) n) % 65535) (drop (n * 2) s)
unfolding sum_by run_by check_of
check_after s zero h = refl
check_after s (suc n) h =
    let a : ℕ = 1 + 256 * sum_by 2 (le_at 2 s) n in
    let b : ℕ = n + 256 * run_by 2 (le_at 2 s) n in
    let x : ℕ = get_or s (n * 2) 0 in
    let y : ℕ = get_or s (n * 2 + 1) 0 in
    let next : n * 2 + 2 ≡ suc n * 2 = omega arith in
    check_after s n (omega arith)
    ∙ sums-turn s a b (n * 2) (omega arith)
    ∙ sums_same s (swap a x y ∙ same _ _ (omega arith)) (same _ _ (omega arith) ∙ swap (b + a) x y ∙ same _ _ (omega arith)) next
  where
    same : (i j : ℕ) → i ≡ j → i % 65535 ≡ j % 65535
    same i j e = ap (λ (k : ℕ). k % 65535) e

-- the check is one sum of the words and one by weight, with the words' bytes swapped
pub check_is : (s : List ℕ) → length s ≡ check_at
    → check_of s ≡ (1 + 256 * sum_by 2 (le_at 2 s) 254) % 65535 * 65536 + (254 + 256 * run_by 2 (le_at 2 s) 254) % 65535
check_is s long = check_after s 254 (omega arith) ∙ sums_last s (1 + 256 * sum_by 2 (le_at 2 s) 254) (254 + 256 * run_by 2 (le_at 2 s) 254) 508 (omega arith)

-- words that are zero from place k on; w is the word at a byte
module _ (w : ℕ → ℕ) (k : ℕ) (none : (i : ℕ) → k ≤ i → w (i * 2) ≡ 0) where
  pub sum_zeros : (d : ℕ) → sum_by 2 w (d + k) ≡ sum_by 2 w k
  unfolding sum_by
  sum_zeros zero = rw zero-add
  sum_zeros (suc d) = rw suc-add (omega (arith, sum_zeros d, none (d + k) (omega arith)))

  pub run_zeros : (d : ℕ) → run_by 2 w (d + k) ≡ run_by 2 w k + d * sum_by 2 w k
  unfolding run_by
  run_zeros zero = rw zero-add (omega arith)
  run_zeros (suc d) = rw (suc-add, suc-mul) (omega (arith, run_zeros d, rw suc-add at (sum_zeros (suc d))))
