-- A conversion's answer and output. 02: "Refusals: 16 ..; it comes after 10, 11 and 12, before 9": restore's checks of
-- the version that is read come first.
use Rattle.std.specs.Prelude.{Result, Ok, Err, ℕ, not, List, ltb, length}
use Rattle.octets.specs.Laid.{laid}
use Rattle.octets.specs.Pick.{pick}
use Rattle.block0.specs.declared.Version.{Version}
use Rattle.image.specs.declared.ImageFault.{ImageFault}
use Rattle.image.specs.Sizes.{image_size}
use Rattle.image.specs.State.{decode_by}
use Rattle.image.specs.Verdict.{verdict_by, verdict_number, verdict_block}
use Rattle.convert.specs.declared.ConversionFault.{ConversionFault}
use Rattle.convert.specs.Move.{movable, image_moved}

-- what a conversion leaves: its answer, and the output
pub record Converted : Type 0 where
  pub answer : Result Unit ConversionFault
  pub out : List ℕ

abbrev pub converted : Result Unit ConversionFault → List ℕ → Converted
converted answer out = record { answer = answer; out = out }

-- restore's checks, and then the rest: what they find is answered, and the output stays
abbrev pub unless_faulty : Result Unit ImageFault → List ℕ → Converted → Converted
unless_faulty (Ok tt) out rest = rest
unless_faulty (Err fault) out rest = converted (Err (ConversionFault.Image fault)) out

-- an image of version v, moved to the other: "12, 10, 11", then "16", then "9: no room"; with any of these the output
-- stays
unfoldable pub convert_of : Version → List ℕ → List ℕ → Converted
convert_of v image out =
    unless_faulty (verdict_by v image) out
    (pick (not (movable v (decode_by v image).header (decode_by v image).labels))
    (converted (Err ConversionFault.Immovable) out)
    (pick (ltb (length out) image_size) (converted (Err ConversionFault.NoRoom) out)
    (converted (Ok tt) (laid out 0 (image_moved v image)))))

-- the answer's number, and the block that it names: "block 0 where none applies"
abbrev pub conversion_number : Result Unit ConversionFault → ℕ
conversion_number (Ok tt) = 0
conversion_number (Err (ConversionFault.Image fault)) = verdict_number (Err fault)
conversion_number (Err ConversionFault.Immovable) = 16
conversion_number (Err ConversionFault.NoRoom) = 9

abbrev pub conversion_block : Result Unit ConversionFault → ℕ
conversion_block (Ok tt) = 0
conversion_block (Err (ConversionFault.Image fault)) = verdict_block (Err fault)
conversion_block (Err ConversionFault.Immovable) = 0
conversion_block (Err ConversionFault.NoRoom) = 0
