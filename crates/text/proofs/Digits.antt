-- The laws of `decimal` and `hex`. Assumes nothing.
use Prim.Native.Nat.{ℕ, zero, suc, ◌+◌, ◌-◌, ◌*◌, ◌/◌, ◌%◌, ◌^◌, ◌≤◌, ◌<◌}
use mathlib.Core.Bool.{Bool, true, false}
use mathlib.Core.List.{List, [], ◌∷◌, ◌++◌}
use mathlib.Core.Path.{◌≡◌, refl, sym, ap, ◌∙◌}
use native.Mathlib.Nat.{mod-eq_of_lt, pow-suc}
use native.Mathlib.Numerals.{add-one}
use native.Mathlib.Omega.{arith}
use lib.Dec.{ltb}
use lib.ListN.{length, take, get_or, set}
use lib.Seq.{take-suc, take_all, length-take-le}
use borrow.Author.Tests.{lt-ltb, le-ltb, ltb-false}
use Rattle.io.specs.Digits.{hex_digit_ascii, last_digits, IsDigitCount}
use Rattle.octets.specs.Laid.{laid}
use Rattle.octets.proofs.Fix.{Shrinks, fix-step}
use Rattle.octets.proofs.Laid.{laid-laid, laid_two}
use Rattle.text.specs.Text.{decimal_step, decimal, hex, Put}

-- a number of at least one digit more has a smaller tenth
decimal_shrinks : Shrinks (λ k. k) decimal_step
decimal_shrinks g h n same = go (ltb n 10) refl
  where
    go : (b : Bool) → ltb n 10 ≡ b → decimal_step g n ≡ decimal_step h n
    go true q = simp q
    go false q = simp (q, same (n / 10) (omega (arith, ltb-false n 10 q)))

pub decimal_step_lem : (n : ℕ) → decimal n ≡ decimal_step decimal n
unfolding decimal
decimal_step_lem n = fix-step (λ k. k) decimal_step [] decimal_shrinks n

pub decimal_one : (n : ℕ) → n < 10 → decimal n ≡ hex_digit_ascii n ∷ []
decimal_one n h = decimal_step_lem n ∙ simp (lt-ltb n 10 h)

pub decimal-more : (n : ℕ) → 10 ≤ n → decimal n ≡ decimal (n / 10) ++ (hex_digit_ascii (n % 10) ∷ [])
decimal-more n h = decimal_step_lem n ∙ simp (le-ltb n 10 h)

-- the fewest digits that hold a number are its decimal text
pub digits_decimal : (k n : ℕ) → IsDigitCount 10 1 n k → last_digits 10 k n ≡ decimal n
digits_decimal zero n f = absurd (omega (arith, f.0))
digits_decimal (suc zero) n f =
    let small : n < 10 = omega (arith, f.1) in
    rw (decimal_one n small, mod-eq_of_lt small) refl
digits_decimal (suc (suc j)) n f =
    let one_less : suc (suc j) - 1 ≡ suc j = omega arith in
    let least : 10 ^ suc j ≤ n = rw one_less at (f.2 (omega arith)) in
    let tens : 10 ^ suc j ≡ 10 ^ j * 10 = pow-suc 10 j in
    let most : n < 10 ^ suc j * 10 = rw pow-suc at f.1 in
    let some : 1 ≤ 10 ^ j = positive j in
    let shorter : suc j - 1 ≡ j = omega arith in
    rw (decimal-more n (omega arith))
    (ap (λ (l : List ℕ). l ++ (hex_digit_ascii (n % 10) ∷ []))
    (digits_decimal (suc j) (n / 10) (omega arith, omega arith, λ h. rw shorter (omega arith))))
  where
    positive : (i : ℕ) → 1 ≤ 10 ^ i
    positive zero = omega arith
    positive (suc i) = rw pow-suc (omega (arith, positive i))

pub hex-append : (s t : List ℕ) → hex (s ++ t) ≡ hex s ++ hex t
hex-append [] t = refl
hex-append (b ∷ s) t = ap (λ (l : List ℕ). hex_digit_ascii (b / 16) ∷ hex_digit_ascii (b % 16) ∷ l) (hex-append s t)

pub length-hex : (s : List ℕ) → length (hex s) ≡ 2 * length s
length-hex [] = refl
length-hex (b ∷ s) = omega (arith, length-hex s)

-- one byte more in hexadecimal
hex-next : (s : List ℕ) (i : ℕ) → i < length s → hex (take (i + 1) s) ≡ hex (take i s) ++ (hex_digit_ascii (get_or s i 0 / 16) ∷ hex_digit_ascii (get_or s i 0 % 16) ∷ [])
hex-next s i h = rw (add-one i, take-suc s i 0 h) (hex-append (take i s) (get_or s i 0 ∷ []))

pub hex-put : (o : List ℕ) (at : ℕ) (s : List ℕ) (i high low : ℕ) → i < length s → high ≡ hex_digit_ascii (get_or s i 0 / 16) → low ≡ hex_digit_ascii (get_or s i 0 % 16)
    → set (set (laid o at (hex (take i s))) (at + 2 * i) high) (at + 2 * i + 1) low ≡ laid o at (hex (take (i + 1) s))
hex-put o at s i high low h p q =
    let size : length (hex (take i s)) ≡ 2 * i = length-hex (take i s) ∙ ap (λ (n : ℕ). 2 * n) (length-take-le i s (omega arith)) in
    let moved : laid (laid o at (hex (take i s))) (at + 2 * i) (high ∷ low ∷ []) ≡ laid o at (hex (take i s) ++ (high ∷ low ∷ [])) =
    ap (λ (n : ℕ). laid (laid o at (hex (take i s))) (at + n) (high ∷ low ∷ [])) (sym size)
    ∙ laid-laid o at (hex (take i s)) (high ∷ low ∷ []) in
    sym (laid_two (laid o at (hex (take i s))) (at + 2 * i) high low)
    ∙ moved
    ∙ rw (hex-next s i h, p, q) refl

pub hex-done : (o : List ℕ) (at : ℕ) (s out : List ℕ) (i : ℕ) → length s ≤ i → out ≡ laid o at (hex (take i s)) → Put o at (hex s) out (at + 2 * length s)
hex-done o at s out i h e = record { bytes = e ∙ rw (take_all i s h) refl; ends = rw length-hex refl }
