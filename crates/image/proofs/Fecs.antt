-- The entry of a message's FEC is right, so that it may be stored. Assumes nothing.
use Rattle.std.specs.Prelude.{Option, Some, None}
use Prim.Native.Nat.{ℕ}
use mathlib.Core.Bool.{true}
use mathlib.Core.List.{List}
use mathlib.Core.Path.{◌≡◌, refl}
use Rattle.octets.specs.Bytes.{Bytes}
use Rattle.octets.proofs.Choice.{no}
use Rattle.tlv.specs.declared.Found.{Found}
use Rattle.tlv.specs.Element.{entry_by}
use Rattle.fec_index.specs.Entries.{entry_ok}
use Rattle.fec_index.proofs.Counted.{none_right}
use Rattle.fec_index.proofs.Fecs.{at_right}
use Rattle.message.specs.declared.Message.{Message}
use Rattle.message.specs.Reading.{message_of, places_of, reading_by, reading_of}
use Rattle.message.specs.Submission.{entry_by_reading, entry_in}

module _ (m : List ℕ) (byte : Bytes m) where
  -- of a message that is read
  pub read_right : (g : Message) → reading_of m ≡ Some g → entry_ok (entry_by g.fec) ≡ true
  unfolding reading_of message_of
  read_right g e = by (places_of m) e
    where
      by : (w : Option Found) → reading_by m w ≡ Some g → entry_ok (entry_by g.fec) ≡ true
      by None e = no (cc)
      by (Some f) e =
          let same : message_of m f ≡ g = cc in
          rw (← same) (at_right m byte f.fec)

  -- of a message that is submitted
  pub entry_in_right : entry_ok (entry_in m) ≡ true
  unfolding entry_in
  entry_in_right = by (reading_of m) read_right
    where
      by : (rd : Option Message) → ((g : Message) → rd ≡ Some g → entry_ok (entry_by g.fec) ≡ true) → entry_ok (entry_by_reading rd) ≡ true
      by None right = none_right
      by (Some g) right = right g refl
