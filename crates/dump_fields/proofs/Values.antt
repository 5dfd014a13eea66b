-- Bytes as the value of a field: in hexadecimal, or a dash where there is none. Assumes nothing.
use Prim.Native.Nat.{ℕ}
use mathlib.Core.List.{List, [], ◌∷◌}
use mathlib.Core.Path.{◌≡◌, refl}
use native.Mathlib.Omega.{arith}
use lib.ListN.{length}
use Rattle.text.specs.Text.{ascii, hex, Put}
use Rattle.dump_fields.specs.Field.{bytes_text}

module _ {b c : List ℕ} {mid end : ℕ} where
  pub put_dash : (v : List ℕ) → length v ≡ 0 → Put b mid (ascii "-") c end → Put b mid (bytes_text v) c end
  put_dash [] h p = p
  put_dash (x ∷ v) h p = absurd (omega arith)

  pub put_digits : (v : List ℕ) → (length v ≡ 0 → ⊥) → Put b mid (hex v) c end → Put b mid (bytes_text v) c end
  put_digits [] h p = absurd (h refl)
  put_digits (x ∷ v) h p = p

pub ruleset values = (put_dash, put_digits)
