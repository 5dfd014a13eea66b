-- The sums of a block's words in rows: how they grow, what they make of the check. Assumes nothing.
use Prim.Native.Nat.{ℕ, zero, suc, ◌+◌, ◌-◌, ◌*◌, ◌/◌, ◌%◌, ◌^◌, ◌≤◌, ◌<◌}
use mathlib.Core.Bool.{true}
use mathlib.Core.List.{List}
use mathlib.Core.Path.{◌≡◌, refl, sym, ap, ◌∙◌}
use native.Mathlib.Nat.{mul-suc, suc-mul, mul-add, mul-le-mul}
use native.Mathlib.Numerals.{add-one}
use native.Mathlib.Omega.{arith}
use lib.ListN.{length, drop}
use Rattle.octets.specs.Bytes.{Bytes}
use Rattle.block.specs.Check.{check_of, check_at}
use Rattle.block.specs.Rows.{le_at, paired, four, later, odds, sum_by, run_by, InRows}
use Rattle.block.specs.Zeros.{all_zero}
use Rattle.block.proofs.Le.{word_low}
use Rattle.block.proofs.Weights.{sum_zeros, run_zeros, check_is}
use Rattle.block.proofs.ZeroBytes.{zero_from, zero_past}

-- ---- one row more, two sums in a number
sum_more : (f g : ℕ → ℕ) (n x r : ℕ) → x ≡ paired (sum_by 16 f n) (sum_by 16 g n) → r ≡ paired (f (n * 16)) (g (n * 16))
    → x + r ≡ paired (sum_by 16 f (n + 1)) (sum_by 16 g (n + 1))
unfolding sum_by
sum_more f g n x r h e = rw (add-one n) (omega arith)

run_more : (f g : ℕ → ℕ) (n x r : ℕ) → x ≡ paired (run_by 16 f n) (run_by 16 g n) → r ≡ paired (sum_by 16 f (n + 1)) (sum_by 16 g (n + 1))
    → x + r ≡ paired (run_by 16 f (n + 1)) (run_by 16 g (n + 1))
unfolding run_by
run_more f g n x r h e = rw (add-one n) (omega (arith, rw (add-one n) at e))

pub rows_none : (w : ℕ → ℕ) → InRows w 0 0 0 0 0
unfolding sum_by run_by
rows_none w = record { all = refl; second = refl; odd = refl; running = refl }

-- the words at `at` and four bytes on, as the row has them
two : (w : ℕ → ℕ) (n o x : ℕ) → x ≡ paired (w (n * 16 + o)) (w (n * 16 + o + 4)) → x ≡ paired (w (n * 16 + o)) (w (n * 16 + (o + 4)))
two w n o x e = let place : n * 16 + o + 4 ≡ n * 16 + (o + 4) = omega arith in rw place at e

module _ (w : ℕ → ℕ) (n : ℕ) {all second odd running e o f p all' second' odd' running' : ℕ}
    (e-is : e ≡ paired (w (n * 16)) (w (n * 16 + 4)))
    (o_is : o ≡ paired (w (n * 16 + 2)) (w (n * 16 + 2 + 4)))
    (f-is : f ≡ paired (w (n * 16 + 8)) (w (n * 16 + 8 + 4)))
    (p-is : p ≡ paired (w (n * 16 + 10)) (w (n * 16 + 10 + 4))) where
  pub rows_more : InRows w n all second odd running
      → (all' ≡ all + (e + o + (f + p))) × (second' ≡ second + (f + p)) × (odd' ≡ odd + (o + p)) × (running' ≡ running + all')
      → InRows w (n + 1) all' second' odd' running'
  rows_more h g =
      let start : n * 16 + 0 ≡ n * 16 = omega arith in
      let e' : e ≡ paired (w (n * 16 + 0)) (w (n * 16 + 4)) = rw start e-is in
      let o' = two w n 2 o o_is in
      let f' = two w n 8 f f-is in
      let p' = two w n 10 p p-is in
      let a = sum_more (four w 0) (four w 4) n all (e + o + (f + p)) h.all (omega arith) in
      let a' = g.0 ∙ a in
      record {
        all = a';
        second = g.1 ∙ sum_more (later w 0) (later w 4) n second (f + p) h.second (omega arith);
        odd = g.2 ∙ sum_more (odds w 0) (odds w 4) n odd (o + p) h.odd (omega arith);
        running = g.3 ∙ run_more (four w 0) (four w 4) n running all' h.running a';
      }

-- ---- the sums are small, if what is summed is at most `most`
module _ (k : ℕ) (f : ℕ → ℕ) (most : ℕ) (low : (at : ℕ) → f at ≤ most) where
  sum_low : (n : ℕ) → sum_by k f n ≤ most * n
  unfolding sum_by
  sum_low zero = omega arith
  sum_low (suc n) = rw mul-suc (omega (arith, sum_low n, low (n * k)))

  run_low : (n : ℕ) → 2 * run_by k f n ≤ most * (n * suc n)
  unfolding run_by
  run_low zero = omega arith
  run_low (suc n) =
      let next : suc n * suc (suc n) ≡ n * suc n + (suc n + suc n) = rw (mul-suc (suc n) (suc n), suc-mul n (suc n)) (omega arith) in
      rw (next, mul-add most (n * suc n) (suc n + suc n), mul-add most (suc n) (suc n)) (omega (arith, run_low n, sum_low (suc n)))

module _ (w : ℕ → ℕ) (low : (at : ℕ) → w at ≤ 65535) (o : ℕ) where
  four_low : (at : ℕ) → four w o at ≤ 262140
  four_low at = omega (arith, low (at + o), low (at + (2 + o)), low (at + (8 + o)), low (at + (10 + o)))

  later_low : (at : ℕ) → later w o at ≤ 262140
  later_low at = omega (arith, low (at + (8 + o)), low (at + (10 + o)))

  odds_low : (at : ℕ) → odds w o at ≤ 262140
  odds_low at = omega (arith, low (at + (2 + o)), low (at + (10 + o)))

-- 32 rows of at most 8 words, each of which counts in each sum after it
runs_low : (f : ℕ → ℕ) → ((at : ℕ) → f at ≤ 262140) → (n : ℕ) → n ≤ 32 → run_by 16 f n ≤ 138409920
runs_low f low n few =
    let turns : n * suc n ≤ 32 * 33 = mul-le-mul {m₂ = 33} few (omega arith) in
    omega (arith, run_low 16 f 262140 low n)

module _ (f g : ℕ → ℕ) (f-low : (at : ℕ) → f at ≤ 262140) (g-low : (at : ℕ) → g at ≤ 262140) (n : ℕ) (few : n ≤ 32) (x : ℕ) where
  pair_room : x ≡ paired (sum_by 16 f n) (sum_by 16 g n) → x ≤ 2 ^ 60
  pair_room e = omega (arith, sum_low 16 f 262140 f-low n, sum_low 16 g 262140 g-low n)

  pair_halves : x ≡ paired (sum_by 16 f n) (sum_by 16 g n) → (x / 4294967296 ≡ sum_by 16 g n) × (x / 4294967296 + x % 4294967296 ≡ sum_by 16 f n + sum_by 16 g n)
  pair_halves e = let l = sum_low 16 f 262140 f-low n in (omega arith, omega arith)

  run_room : x ≡ paired (run_by 16 f n) (run_by 16 g n) → x ≤ 2 ^ 60
  run_room e = omega (arith, runs_low f f-low n few, runs_low g g-low n few)

-- the row's words are in the sum after it, and their places are at most 5
module _ (w : ℕ → ℕ) (o : ℕ) where
  sum-places : (n : ℕ) → sum_by 16 (odds w o) n + 4 * sum_by 16 (later w o) n ≤ 8 * sum_by 16 (four w o) n
  unfolding sum_by
  sum-places zero = omega arith
  sum-places (suc n) = omega (arith, sum-places n)

  run-places : (n : ℕ) → sum_by 16 (odds w o) n + 4 * sum_by 16 (later w o) n ≤ 8 * run_by 16 (four w o) n
  unfolding run_by sum_by
  run-places zero = omega arith
  run-places (suc n) = omega (arith, sum-places (suc n))

halves_add : (x c d : ℕ) → x ≡ paired c d → c < 4294967296 → x / 4294967296 + x % 4294967296 ≡ c + d
halves_add x c d e l = omega arith

-- both halves of a difference, neither of which is less than 0
halves_less : (o₀ o₁ l₀ l₁ r₀ r₁ : ℕ) {o l r x : ℕ} → o ≡ paired o₀ o₁ → l ≡ paired l₀ l₁ → r ≡ paired r₀ r₁
    → o₀ + 4 * l₀ ≤ 8 * r₀ → o₁ + 4 * l₁ ≤ 8 * r₁ → r₀ ≤ 138409920 → x ≡ (8 * r - (o + 4 * l)) / 4294967296 + (8 * r - (o + 4 * l)) % 4294967296
    → x + (o₀ + o₁ + 4 * (l₀ + l₁)) ≡ 8 * (r₀ + r₁)
halves_less o₀ o₁ l₀ l₁ r₀ r₁ {o} {l} {r} e f g p q small x-is =
    let c = 8 * r₀ - (o₀ + 4 * l₀) in
    let d = 8 * r₁ - (o₁ + 4 * l₁) in
    let t = x-is ∙ halves_add (8 * r - (o + 4 * l)) c d (omega arith) (omega arith) in
    joined _ t p q
  where
    joined : (x : ℕ) → x ≡ 8 * r₀ - (o₀ + 4 * l₀) + (8 * r₁ - (o₁ + 4 * l₁)) → o₀ + 4 * l₀ ≤ 8 * r₀ → o₁ + 4 * l₁ ≤ 8 * r₁ → x + (o₀ + o₁ + 4 * (l₀ + l₁)) ≡ 8 * (r₀ + r₁)
    joined x e p q = omega arith

-- a row more has room
pub rows_room : (s : List ℕ) → Bytes s → (n a b o r : ℕ) → n ≤ 32 → InRows (le_at 2 s) n a b o r → (a ≤ 2 ^ 60) × (b ≤ 2 ^ 60) × (o ≤ 2 ^ 60) × (r ≤ 2 ^ 60)
rows_room s byte n a b o r few h =
    let w = le_at 2 s in
    let low = word_low s byte in (
      pair_room (four w 0) (four w 4) (four_low w low 0) (four_low w low 4) n few a h.all,
      pair_room (later w 0) (later w 4) (later_low w low 0) (later_low w low 4) n few b h.second,
      pair_room (odds w 0) (odds w 4) (odds_low w low 0) (odds_low w low 4) n few o h.odd,
      run_room (four w 0) (four w 4) (four_low w low 0) (four_low w low 4) n few r h.running,
    )

pub two_low : (s : List ℕ) → Bytes s → (at x : ℕ) → x ≡ paired (le_at 2 s at) (le_at 2 s (at + 4)) → x ≤ 2 ^ 48
two_low s byte at x e = small _ _ (word_low s byte at) (word_low s byte (at + 4)) e
  where
    small : (a b : ℕ) → a ≤ 65535 → b ≤ 65535 → x ≡ paired a b → x ≤ 2 ^ 48
    small a b p q r = omega arith

-- words that are zero
word_zero : (s : List ℕ) (k : ℕ) → all_zero (drop k s) ≡ true → (at : ℕ) → k ≤ at → le_at 2 s at ≡ 0
word_zero s k z at l = rw (zero_from s k z at l, zero_from s k z (at + 1) (omega arith)) refl

-- the last two words of the last row are past the end
pub last_word : (s : List ℕ) → length s ≡ check_at → (at x : ℕ) → 504 ≤ at → x ≡ le_at 2 s at → x ≡ paired (le_at 2 s at) (le_at 2 s (at + 4))
last_word s long at x l e = let none = word_zero s 508 (zero_past s 508 (omega arith)) (at + 4) (omega arith) in omega arith

-- ---- the rows' words, one by one
-- what the words of a row lack of eight times the row's weight
abbrev lack : (ℕ → ℕ) → ℕ → ℕ
lack w n = sum_by 16 (odds w 0) n + sum_by 16 (odds w 4) n + 2 * sum_by 16 (four w 4) n + 4 * (sum_by 16 (later w 0) n + sum_by 16 (later w 4) n)

module _ (w : ℕ → ℕ) where
  word : (n j k : ℕ) → k ≡ j + n * 8 → w (k * 2) ≡ w (n * 16 + j * 2)
  word n j k e = ap w (omega arith)

  rows_words : (n : ℕ) → (sum_by 2 w (n * 8) ≡ sum_by 16 (four w 0) n + sum_by 16 (four w 4) n) × (run_by 2 w (n * 8) + lack w n ≡ 8 * (run_by 16 (four w 0) n + run_by 16 (four w 4) n))
  unfolding sum_by run_by
  rows_words zero = (refl, refl)
  rows_words (suc n) =
      let k : ℕ = n * 8 in
      let next : suc n * 8 ≡ suc (suc (suc (suc (suc (suc (suc (suc k))))))) = omega arith in
      let e₀ = word n 0 k (omega arith) in
      let e₁ = word n 1 (suc k) (omega arith) in
      let e₂ = word n 2 (suc (suc k)) (omega arith) in
      let e₃ = word n 3 (suc (suc (suc k))) (omega arith) in
      let e₄ = word n 4 (suc (suc (suc (suc k)))) (omega arith) in
      let e₅ = word n 5 (suc (suc (suc (suc (suc k))))) (omega arith) in
      let e₆ = word n 6 (suc (suc (suc (suc (suc (suc k)))))) (omega arith) in
      let e₇ = word n 7 (suc (suc (suc (suc (suc (suc (suc k))))))) (omega arith) in
      let before = rows_words n in
      rw next (omega (arith, before.0), omega (arith, before.0, before.1))

-- ---- what the code reads off the sums of n rows, after which there are zeros
module _ (s : List ℕ) (byte : Bytes s) (long : length s ≡ check_at) (n : ℕ) (few : n ≤ 32) (clear : all_zero (drop (n * 16) s) ≡ true)
    {a b o r : ℕ} (h : InRows (le_at 2 s) n a b o r) where
  abbrev w : ℕ → ℕ
  w = le_at 2 s

  -- no half of the running sum is less than the places in it
  pub places_less : o + 4 * b ≤ 8 * r
  places_less = omega (arith, h.odd, h.second, h.running, run-places w 0 n, run-places w 4 n)

  module _ {all high weighed : ℕ} (all-is : all ≡ a / 4294967296 + a % 4294967296) (high_is : high ≡ a / 4294967296)
      (weighed-is : weighed ≡ (8 * r - (o + 4 * b)) / 4294967296 + (8 * r - (o + 4 * b)) % 4294967296) where
    run_halves : weighed + (sum_by 16 (odds w 0) n + sum_by 16 (odds w 4) n + 4 * (sum_by 16 (later w 0) n + sum_by 16 (later w 4) n)) ≡ 8 * (run_by 16 (four w 0) n + run_by 16 (four w 4) n)
    run_halves =
        halves_less _ _ _ _ _ _ h.odd h.second h.running (run-places w 0 n) (run-places w 4 n) (runs_low (four w 0) (four_low w (word_low s byte) 0) n few) weighed-is

    summed : (all ≡ sum_by 2 w (n * 8)) × (weighed ≡ run_by 2 w (n * 8) + 2 * high)
    summed =
        let low = word_low s byte in
        let a' = pair_halves (four w 0) (four w 4) (four_low w low 0) (four_low w low 4) n few a h.all in
        let t = rows_words w n in
        (all-is ∙ a'.1 ∙ sym t.0, omega (arith, a'.0, run_halves, t.1))

    whole : (sum_by 2 w 254 ≡ all) × (weighed + (256 - 8 * n) * all ≡ run_by 2 w 254 + 2 * (all + high))
    whole =
        let end : 256 - 8 * n + n * 8 ≡ 256 = omega arith in
        let rest = word_zero s (n * 16) clear in
        let past = word_zero s 508 (zero_past s 508 (omega arith)) in
        let t = rw end at (sum_zeros w (n * 8) (λ i l. rest (i * 2) (omega arith)) (256 - 8 * n)) in
        let v = rw end at (run_zeros w (n * 8) (λ i l. rest (i * 2) (omega arith)) (256 - 8 * n)) in
        let t' = sum_zeros w 254 (λ i l. past (i * 2) (omega arith)) 2 in
        let v' = run_zeros w 254 (λ i l. past (i * 2) (omega arith)) 2 in
        let e = sym t' ∙ t ∙ sym summed.0 in
        (e, joined _ _ _ _ _ summed.1 (sym v' ∙ v ∙ rw (← summed.0) refl) e)
      where
        joined : (x y z k u : ℕ) → x ≡ y + 2 * high → z + 2 * u ≡ y + k → u ≡ all → x + k ≡ z + 2 * (all + high)
        joined x y z k u e f g = omega arith

    pub rows_less : 2 * (all + high) ≤ weighed + (256 - 8 * n) * all
    rows_less = below _ _ _ whole.1
      where
        below : (x y z : ℕ) → x ≡ y + z → z ≤ x
        below x y z e = omega arith

    weights : weighed + (256 - 8 * n) * all - 2 * (all + high) ≡ run_by 2 w 254
    weights = less _ _ _ whole.1
      where
        less : (x y z : ℕ) → x ≡ y + z → x - z ≡ y
        less x y z e = omega arith

    -- 254 words of 16 bits, and the sum of the weights 1 to 254 of them
    pub rows_bounds : (all ≤ 254 * 65535) × (weighed + (256 - 8 * n) * all - 2 * (all + high) ≤ 32385 * 65535)
    rows_bounds =
        let low = word_low s byte in
        (omega (arith, whole.0, sum_low 2 w 65535 low 254), rw weights (omega (arith, run_low 2 w 65535 low 254)))

    pub rows_check : (1 + 256 * all) % 65535 * 65536 + (254 + 256 * (weighed + (256 - 8 * n) * all - 2 * (all + high))) % 65535 ≡ check_of s
    rows_check = rw (weights, ← whole.0) (sym (check_is s long))

-- the sums have room
pub rest_fits : (n x : ℕ) → x < 8589934592 → (256 - 8 * n) * x ≤ 2199023255296
rest_fits n x l = mul-le-mul (rest n) (room l)
  where
    rest : (k : ℕ) → 256 - 8 * k ≤ 256
    rest k = omega arith

    room : x < 8589934592 → x ≤ 8589934591
    room h = omega arith
