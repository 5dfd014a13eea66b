-- The laws of `le_at`, each once over the width. Assumes nothing.
use Prim.Native.Nat.{ℕ, zero, suc, ◌+◌, ◌*◌, ◌/◌, ◌%◌, ◌^◌, ◌≤◌, ◌<◌}
use mathlib.Core.List.{List}
use mathlib.Core.Path.{◌≡◌, refl, ap, ◌∙◌}
use native.Mathlib.Nat.{add-zero}
use native.Mathlib.Omega.{arith}
use lib.Bits.{bit_and, and_block, and_mask}
use lib.ListN.{get_or}
use Rattle.octets.specs.Bytes.{Bytes}
use Rattle.block.specs.Rows.{le_at, paired}

-- each step is uniform, the first too
pub le_at-suc : (w : ℕ) (s : List ℕ) (at : ℕ) → le_at (suc w) s at ≡ le_at w s at + get_or s (at + w) 0 * 256 ^ w
le_at-suc zero s at = rw add-zero (omega arith)
le_at-suc (suc w) s at = refl

-- the low 16 bits of each half of 64
abbrev low_words : ℕ
low_words = 0x0000FFFF0000FFFF

low_words_lem : (x : ℕ) → bit_and x low_words ≡ x / 4294967296 % 65536 * 4294967296 + x % 65536
low_words_lem x =
    let halves : x ≡ x / 4294967296 * 2 ^ 32 + x % 4294967296 = omega arith in
    let low : x % 4294967296 < 2 ^ 32 = omega arith in
    let masks : 65535 < 2 ^ 32 = omega arith in
    ap (λ (y : ℕ). bit_and y (65535 * 2 ^ 32 + 65535)) halves
    ∙ and_block 32 (x / 4294967296) 65535 (x % 4294967296) 65535 low masks
    ∙ rw (and_mask (x / 4294967296) 16, and_mask (x % 4294967296) 16) (omega arith)

pub word_low : (s : List ℕ) → Bytes s → (at : ℕ) → le_at 2 s at ≤ 65535
word_low s byte at = omega (arith, byte at, byte (at + 1))

-- the first and the third word of four
pub two_words : (s : List ℕ) → Bytes s → (at x : ℕ) → x ≡ le_at 8 s at → bit_and x low_words ≡ paired (le_at 2 s at) (le_at 2 s (at + 4))
two_words s byte at x e =
    let place : at + 4 + 1 ≡ at + 5 = omega arith in
    let third : le_at 2 s (at + 4) ≡ get_or s (at + 4) 0 + get_or s (at + 5) 0 * 256 = rw place refl in
    low_words_lem x
    ∙ apart (le_at 2 s at) (get_or s (at + 2) 0 + get_or s (at + 3) 0 * 256) (le_at 2 s (at + 4)) (get_or s (at + 6) 0 + get_or s (at + 7) 0 * 256)
    (word_low s byte at) (omega (arith, byte (at + 2), byte (at + 3))) (word_low s byte (at + 4)) (omega arith)
  where
    apart : (a b c d : ℕ) → a ≤ 65535 → b ≤ 65535 → c ≤ 65535 → x ≡ a + b * 65536 + c * 4294967296 + d * 281474976710656
        → x / 4294967296 % 65536 * 4294967296 + x % 65536 ≡ paired a c
    apart a b c d p q r e = omega arith
