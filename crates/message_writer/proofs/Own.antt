-- Our Init and KeepAlive are read back as they were written. Assumes nothing.
use Rattle.std.specs.Prelude.{Option, Some, None}
use Prim.Native.Nat.{ℕ, ◌^◌, ◌<◌}
use mathlib.Core.Path.{◌≡◌}
use native.Mathlib.Omega.{arith}
use borrow.Author.Tests.{le-leb, lt-leb}
use Rattle.octets.specs.Be.{be_at}
use Rattle.octets.specs.Fix.{fix, steps}
use Rattle.ft_number.specs.declared.FtNumber.{FtNumber}
use Rattle.ft_number.specs.declared.MessageId.{MessageId}
use Rattle.ft_number.specs.declared.Timeout.{Timeout}
use Rattle.tlv.specs.Tlv.{tlv_of}
use Rattle.tlv.specs.Value.{part_at, fec_at, field_at, number_at, id_at, parameters_at, session_at, top_bit_weight}
use Rattle.tlv.specs.Walk.{noted_of, turn_of, walk_of, tlvs_of}
use Rattle.message.specs.Reading.{type_of, message_of, places_of, reading_of}
use Rattle.message_writer.specs.declared.OwnParameters.{OwnParameters}
use Rattle.message_writer.specs.Forms.{session_value, init_bytes, keepalive_bytes}
use Rattle.message_writer.specs.ReadBack.{AckFits, InitFits, init_message, keepalive_message}
use Rattle.message_writer.proofs.Raised.{bytes_read}

-- our KeepAlive is read back as what was written
pub keepalive_reads : (id : MessageId) (ack : Option FtNumber) → id.0 < 256 ^ 4 → AckFits ack → reading_of (keepalive_bytes id ack) ≡ Some (keepalive_message id ack)
unfolding reading_of places_of message_of tlvs_of walk_of turn_of noted_of tlv_of type_of fix steps part_at fec_at field_at number_at id_at parameters_at session_at
keepalive_reads id None small fits = simp (bytes_read 4 id.0 small)
keepalive_reads id (Some a) small fits = simp (bytes_read 4 id.0 small, bytes_read 4 a.0 fits)

-- so is our Init, in either form: R stands first, the timeout where the form has it
pub init_reads : (id : MessageId) (p : OwnParameters) (t : Timeout) (ack : Option FtNumber) → InitFits id p t ack
    → reading_of (init_bytes id p t ack) ≡ Some (init_message id p t ack)
unfolding reading_of places_of message_of tlvs_of walk_of turn_of noted_of tlv_of type_of fix steps part_at fec_at field_at number_at id_at parameters_at session_at
init_reads id p (Timeout.Seconds s) None fits =
    let value : ℕ = be_at 4 (session_value None (Timeout.Seconds s)) 0 in
    simp (
      bytes_read 4 id.0 fits.id,
      bytes_read 2 p.keepalive fits.keepalive,
      bytes_read 2 p.pdulength fits.pdulength,
      lt-leb top_bit_weight value (omega (arith, fits.timeout)),
      bytes_read 2 s fits.timeout,
    )
init_reads id p (Timeout.Seconds s) (Some a) fits =
    let value : ℕ = be_at 4 (session_value (Some a) (Timeout.Seconds s)) 0 in
    simp (
      bytes_read 4 id.0 fits.id,
      bytes_read 2 p.keepalive fits.keepalive,
      bytes_read 2 p.pdulength fits.pdulength,
      le-leb top_bit_weight value (omega arith),
      bytes_read 2 s fits.timeout,
      bytes_read 4 a.0 fits.ack,
    )
init_reads id p (Timeout.Milliseconds n) None fits =
    simp (
      bytes_read 4 id.0 fits.id,
      bytes_read 2 p.keepalive fits.keepalive,
      bytes_read 2 p.pdulength fits.pdulength,
      bytes_read 4 n fits.timeout,
    )
init_reads id p (Timeout.Milliseconds n) (Some a) fits =
    simp (
      bytes_read 4 id.0 fits.id,
      bytes_read 2 p.keepalive fits.keepalive,
      bytes_read 2 p.pdulength fits.pdulength,
      bytes_read 4 n fits.timeout,
      bytes_read 4 a.0 fits.ack,
    )
