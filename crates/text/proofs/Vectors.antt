-- Texts that compute: numbers of one digit and more, the largest label and the largest number of 32 bits, and bytes. Assumes nothing.
use mathlib.Core.List.{[], ◌∷◌, map}
use mathlib.Core.Path.{◌≡◌, refl}
use Rattle.octets.specs.Fix.{fix, steps}
use Rattle.text.specs.Text.{ascii, decimal, hex}

decimal_texts : map decimal (0 ∷ 9 ∷ 10 ∷ 1048575 ∷ 4294967295 ∷ []) ≡ map ascii ("0" ∷ "9" ∷ "10" ∷ "1048575" ∷ "4294967295" ∷ [])
unfolding decimal fix steps
decimal_texts = refl

hex_text : hex (0x02 ∷ 0x0f ∷ 0xa0 ∷ 0xff ∷ []) ≡ ascii "020fa0ff"
hex_text = refl
