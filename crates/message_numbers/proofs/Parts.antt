-- A message's parts, and those of a PDU, as numbers. Assumes nothing.
use Rattle.std.specs.Prelude.{Some}
use Prim.Native.Nat.{ℕ, ◌≤◌}
use mathlib.Core.List.{List}
use mathlib.Core.Path.{◌≡◌}
use native.Mathlib.Omega.{arith}
use Rattle.octets.specs.Bytes.{Bytes}
use Rattle.octets.proofs.Be.{be_at-lt}
use Rattle.pdu.specs.Pdu.{message_place}
use Rattle.pdu.proofs.Message.{place-within}
use Rattle.tlv.specs.declared.Found.{Found}
use Rattle.tlv.specs.declared.Part.{Part}
use Rattle.tlv.specs.Value.{part_at}
use Rattle.tlv.proofs.Values.{InMessage}
use Rattle.message.specs.declared.Message.{Message}
use Rattle.message.specs.Reading.{message_of, reading_of}
use Rattle.message.proofs.Laws.{whole_length, whole_fec}
use Rattle.message_numbers.specs.Reading.{NarrowMessage}

-- a message is no longer than its length field can say
pub message_narrow : (m : List ℕ) → Bytes m → (g : Message) → reading_of m ≡ Some g → NarrowMessage g
message_narrow m byte g e =
    let size = whole_length m g e in
    let small = be_at-lt 2 m 2 byte in
    let in-it : InMessage m g.fecvalue = whole_fec m g e in
    record { start = omega (arith, size, small, in-it.starts, in-it.ends); end = omega (arith, size, small, in-it.ends) }

-- so are the ends of its FEC, read where it stands
pub part_narrow : (m : List ℕ) (f : Found) → NarrowMessage (message_of m f) → (p : Part) → p ≡ part_at m f.fec → (p.start ≤ 65539) × (p.end ≤ 65539)
unfolding message_of
part_narrow m f n p e = (rw e n.start, rw e n.end)

pub place_ordered : (pdu : List ℕ) (at start end : ℕ) → message_place pdu at ≡ Some (record { start = start; end = end }) → start ≤ end
place_ordered pdu at start end e = let w = place-within pdu at start end e in omega (arith, w.starts, w.least)
