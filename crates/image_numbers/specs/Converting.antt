-- A conversion as numbers: "answer 0, 12, 10, 11 (block names it), 16, 9; length: bytes written, LDP_FT_IMAGE_SIZE with 0, else 0".
use Rattle.std.specs.Prelude.{ℕ, List, eqb, Result}
use Rattle.octets.specs.Pick.{pick}
use Rattle.image.specs.Sizes.{image_size}
use Rattle.convert.specs.declared.ConversionFault.{ConversionFault}
use Rattle.convert.specs.Convert.{Converted, conversion_number, conversion_block}
use Rattle.image_numbers.specs.declared.ConvertedNumbers.{ConvertedNumbers}

abbrev pub converted_numbers : Result Unit ConversionFault → ConvertedNumbers
converted_numbers c = record { answer = conversion_number c; block = conversion_block c; length = pick (eqb (conversion_number c) 0) image_size 0 }

-- what the call leaves: the numbers returned, and the output
pub record ConvertedShown : Type 0 where
  pub numbers : ConvertedNumbers
  pub out : List ℕ

abbrev pub converted_shown : ConvertedNumbers → List ℕ → ConvertedShown
converted_shown r out = record { numbers = r; out = out }

abbrev pub conversion_shown : Converted → ConvertedShown
conversion_shown x = converted_shown (converted_numbers x.answer) x.out
