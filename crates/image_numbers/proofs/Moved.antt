-- A conversion names no block but one of the image, and is shown as numbers. Assumes nothing.
use Rattle.std.specs.Prelude.{Result}
use Prim.Native.Nat.{ℕ, ◌<◌}
use mathlib.Core.List.{List}
use mathlib.Core.Logic.{◌≢◌}
use mathlib.Core.Path.{◌≡◌, ap}
use lib.ListN.{length}
use borrow.Author.Tests.{eq-eqb, ne_eqb}
use Rattle.block0.specs.declared.Version.{Version}
use Rattle.image.specs.Sizes.{image_size, block_count}
use Rattle.convert.specs.declared.ConversionFault.{ConversionFault}
use Rattle.convert.specs.Convert.{converted, convert_of, conversion_number, conversion_block}
use Rattle.convert.proofs.Converted.{answer_below}
use Rattle.image_numbers.specs.declared.ConvertedNumbers.{ConvertedNumbers}
use Rattle.image_numbers.specs.Converting.{converted_numbers, converted_shown, conversion_shown}

-- ---- the numbers of an answer
module _ (c : Result Unit ConversionFault) {n b : ℕ} (en : n ≡ conversion_number c) (eb : b ≡ conversion_block c) where
  pub converted_refused : n ≢ 0 → ◌≡◌ {A = ConvertedNumbers} (record { answer = n; block = b; length = 0 }) (converted_numbers c)
  converted_refused h = rw (← en, ← eb, ne_eqb n 0 h)

  pub converted-done : n ≡ 0 → ◌≡◌ {A = ConvertedNumbers} (record { answer = n; block = b; length = image_size }) (converted_numbers c)
  converted-done z = rw (← en, ← eb, eq-eqb n 0 z)

-- ---- the call
module _ (v : Version) (im out : List ℕ) {c : Result Unit ConversionFault} {o : List ℕ} (e : converted c o ≡ convert_of v im out) where
  pub converted_low : conversion_block c < block_count
  converted_low = rw (← e) at (answer_below v im out)

  pub converted_is : {r : ConvertedNumbers} → r ≡ converted_numbers c → converted_shown r o ≡ conversion_shown (convert_of v im out)
  converted_is p = rw p (ap conversion_shown e)
