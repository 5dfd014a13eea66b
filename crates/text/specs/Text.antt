-- Numbers, bytes and words as text in ASCII, and text put into bytes.
use Rattle.std.specs.Prelude.{ℕ, ◌+◌, ◌/◌, ◌%◌, List, [], ◌∷◌, ◌++◌, ◌≡◌, ltb, length}
use Prim.Native.Char.{code}
use Prim.Native.String as S
use Prim.Native.String.{String}
use Rattle.io.specs.Digits.{hex_digit_ascii}
use Rattle.octets.specs.Fix.{fix}
use Rattle.octets.specs.Laid.{laid}
use Rattle.octets.specs.Pick.{pick}

-- the codes of a word's characters
abbrev pub ascii : String → List ℕ
ascii S.[] = []
ascii (S.◌∷◌ c s) = code c ∷ ascii s

-- a number in decimal, with no zero in front of it: the digits of its tenth, if it has any, and then its last digit
abbrev pub decimal_step : (ℕ → List ℕ) → ℕ → List ℕ
decimal_step rest n = pick (ltb n 10) (hex_digit_ascii n ∷ []) (rest (n / 10) ++ (hex_digit_ascii (n % 10) ∷ []))

unfoldable pub decimal : ℕ → List ℕ
decimal n = fix (λ k. k) decimal_step [] n

-- bytes in hexadecimal, two lower-case digits each
abbrev pub hex : List ℕ → List ℕ
hex [] = []
hex (b ∷ bs) = hex_digit_ascii (b / 16) ∷ hex_digit_ascii (b % 16) ∷ hex bs

-- a text that is put from `at` on: the bytes afterwards, every other byte as it was, and where the text ends
pub record Put (before : List ℕ) (at : ℕ) (text after : List ℕ) (end : ℕ) : Type 0 where
  pub bytes : after ≡ laid before at text
  pub ends : end ≡ at + length text
