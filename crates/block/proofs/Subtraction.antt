-- The remainder by repeated subtraction of the shifted modulus, and that of a word with its bytes swapped. Assumes nothing.
use Prim.Native.Nat.{ℕ, zero, suc, ◌+◌, ◌-◌, ◌*◌, ◌/◌, ◌%◌, ◌^◌, ◌≤◌, ◌<◌}
use mathlib.Core.Logic.{⊎_elim}
use mathlib.Core.Path.{◌≡◌, refl, sym, ap, ◌∙◌}
use native.Mathlib.Nat.{mul_assoc, pow-suc, mod-eq_of_lt, add-mul-mod_self_left}
use native.Mathlib.Omega.{arith}
use lib.Bits.{bit_and, and_mask, and_block}
use lib.Dec.{ltb}
use lib.Pow.{shl_exact}
use borrow.Author.Tests.{lt-ltb, le-ltb}
use Rattle.octets.specs.Pick.{pick}
use Rattle.octets.proofs.Choice.{below_or_not}

-- what is left of x after y is taken off, where x is not less
abbrev pub taken : ℕ → ℕ → ℕ
taken x y = pick (ltb x y) x (x - y)

-- what is left of x after m is taken off by k shifts, the largest first
unfoldable pub left : ℕ → ℕ → ℕ → ℕ
left m zero x = x
left m (suc k) x = left m k (taken x (m * 2 ^ k))

pub left_none : (m x : ℕ) → left m 0 x ≡ x
unfolding left
left_none m x = refl

pub left_step : (m k x : ℕ) → left m (suc k) x ≡ left m k (taken x (m * 2 ^ k))
unfolding left
left_step m k x = refl

-- it is the remainder, whatever the modulus and the count of shifts, of each number below the modulus at the next shift
pub left_is : (m k x : ℕ) → x < m * 2 ^ k → left m k x ≡ x % m
unfolding left
left_is m zero x l = sym (mod-eq_of_lt (omega arith))
left_is m (suc k) x l =
    ⊎_elim
    (λ (h : x < m * 2 ^ k). rw (lt-ltb x (m * 2 ^ k) h) (left_is m k x h))
    (λ (h : m * 2 ^ k ≤ x).
    let twice : m * 2 ^ suc k ≡ m * 2 ^ k * 2 = rw pow-suc (sym (mul_assoc m (2 ^ k) 2)) in
    let back : x - m * 2 ^ k + m * 2 ^ k ≡ x = omega arith in
    rw (le-ltb x (m * 2 ^ k) h) (left_is m k (x - m * 2 ^ k) (omega arith) ∙ sym (add-mul-mod_self_left (x - m * 2 ^ k) m (2 ^ k)) ∙ ap (λ (y : ℕ). y % m) back))
    (below_or_not x (m * 2 ^ k))

-- 65,535 shifted within 32 bits
pub shifted : (k : ℕ) → k ≤ 16 → 65535 * 2 ^ k % 2 ^ 32 ≡ 65535 * 2 ^ k
shifted k l = shl_exact 16 k 32 (omega arith) (omega arith)

-- the low bytes of two words
low_bytes : (x y : ℕ) → y < 65536 → bit_and (x * 65536 + y) 0x00FF00FF ≡ x % 256 * 65536 + y % 256
low_bytes x y l = and_block 16 x 255 y 255 l (omega arith) ∙ rw (and_mask x 8, and_mask y 8)

-- two words side by side, with their bytes swapped
pub both_swapped : (x y : ℕ) → x < 65536 → y < 65536
    → bit_and (x * 65536 + y) 0x00FF00FF * 256 % 4294967296 + bit_and ((x * 65536 + y) / 256) 0x00FF00FF ≡ (x % 256 * 256 + x / 256) * 65536 + (y % 256 * 256 + y / 256)
both_swapped x y p q =
    let down : (x * 65536 + y) / 256 ≡ x / 256 * 65536 + (x % 256 * 256 + y / 256) = omega arith in
    let fits : (x % 256 * 65536 + y % 256) * 256 % 4294967296 ≡ (x % 256 * 65536 + y % 256) * 256 = mod-eq_of_lt (omega arith) in
    let high : x / 256 % 256 ≡ x / 256 = mod-eq_of_lt (omega arith) in
    let low : (x % 256 * 256 + y / 256) % 256 ≡ y / 256 = omega arith in
    rw (low_bytes x y q, down, low_bytes (x / 256) (x % 256 * 256 + y / 256) (omega arith), fits, high, low) (omega arith)

-- Swapped back, the remainder of swapped words is that of 256 times as much. `start` is swapped too, for `back`.
pub swap_back : (start back turns x : ℕ) → 256 * start ≡ back + 65535 * turns
    → (start + x) % 65535 % 256 * 256 + (start + x) % 65535 / 256 ≡ (back + 256 * x) % 65535
swap_back start back turns x e = omega arith
