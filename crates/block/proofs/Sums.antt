-- The sums of a block's words: the clauses of `sums` as laws, and their width. Assumes nothing.
use Prim.Native.Nat.{ℕ, zero, suc, ◌+◌, ◌*◌, ◌%◌, ◌≤◌, ◌<◌}
use mathlib.Core.List.{List, [], ◌∷◌}
use mathlib.Core.Path.{◌≡◌, refl, ◌∙◌}
use native.Mathlib.Nat.{mod-add-mod, add-mod-mod, suc-mul}
use native.Mathlib.Numerals.{add-one}
use native.Mathlib.Omega.{arith}
use lib.ListN.{length, get_or, drop, drop_of_length-le, replicate}
use lib.Seq.{drop-cons}
use Rattle.octets.specs.Be.{be_at, bytes}
use Rattle.block.specs.Check.{sums, check_of, check_at}

pub sums_end : (a b : ℕ) → sums a b [] ≡ a * 65536 + b
unfolding sums
sums_end a b = refl

pub sums_odd : (a b x : ℕ) → sums a b (x ∷ []) ≡ a * 65536 + b
unfolding sums
sums_odd a b x = refl

pub sums_word : (a b x y : ℕ) (rest : List ℕ) → sums a b (x ∷ y ∷ rest) ≡ sums ((a + (x * 256 + y)) % 65535) ((b + (a + (x * 256 + y)) % 65535) % 65535) rest
unfolding sums
sums_word a b x y rest = refl

-- the word at a place, and the rest; the sums before it may lack their remainders
pub sums-turn : (s : List ℕ) (a b at : ℕ) → at + 2 ≤ length s
    → sums (a % 65535) (b % 65535) (drop at s) ≡ sums ((a + be_at 2 s at) % 65535) ((b + (a + be_at 2 s at)) % 65535) (drop (at + 2) s)
sums-turn s a b at h =
    let first : at < length s = omega arith in
    let second : suc at < length s = omega arith in
    let next : at + 2 ≡ suc (suc at) = omega arith in
    rw (next, add-one, drop-cons s at 0, drop-cons s (suc at) 0, sums_word) (simp (mod-add-mod, add-mod-mod))

-- the last word
pub sums_last : (s : List ℕ) (a b at : ℕ) → length s ≤ at → sums (a % 65535) (b % 65535) (drop at s) ≡ a % 65535 * 65536 + b % 65535
sums_last s a b at h = rw (drop_of_length-le s {i = at} h, sums_end)

-- zeros: A stays, and B grows by A for each word
pub sums_zeros : (s : List ℕ) (k a b at : ℕ) → at + k * 2 ≡ length s → ((i : ℕ) → at ≤ i → get_or s i 0 ≡ 0)
    → sums (a % 65535) (b % 65535) (drop at s) ≡ a % 65535 * 65536 + (b + k * a) % 65535
sums_zeros s zero a b at h z =
    let none : b + 0 * a ≡ b = omega arith in
    rw none (sums_last s a b at (omega arith))
sums_zeros s (suc k) a b at h z =
    let word : be_at 2 s at ≡ 0 = rw (z at (omega arith), z (at + 1) (omega arith)) in
    let same : a + 0 ≡ a = omega arith in
    let more : b + a + k * a ≡ b + suc k * a = rw suc-mul (omega arith) in
    sums-turn s a b at (omega arith)
    ∙ rw (word, same, ← more) (sums_zeros s k a (b + a) (at + 2) (omega arith) (λ i l. z i (omega arith)))

-- two sums below 65,535 spell a number of 32 bits
pub sums_lt : (a b : ℕ) (s : List ℕ) → a < 65535 → b < 65535 → sums a b s < 4294967296
sums_lt a b [] ha hb = rw sums_end (omega arith)
sums_lt a b (x ∷ []) ha hb = rw sums_odd (omega arith)
sums_lt a b (x ∷ y ∷ rest) ha hb = rw sums_word (sums_lt ((a + (x * 256 + y)) % 65535) _ rest (omega arith) (omega arith))

pub check_of-lt : (s : List ℕ) → check_of s < 4294967296
unfolding check_of
check_of-lt s = sums_lt 1 0 s (omega arith) (omega arith)

-- "(P12) Check of a zero block: 00 01 00 FE."
pub check_zeros : bytes 4 (check_of (replicate check_at 0)) ≡ 0 ∷ 1 ∷ 0 ∷ 254 ∷ []
unfolding check_of sums
check_zeros = refl
