-- The numbers that a message of bytes bears have their widths. Assumes nothing.
use Rattle.std.specs.Prelude.{Option, Some, None}
use Prim.Native.Nat.{ℕ, ◌<◌}
use mathlib.Core.Bool.{Bool}
use mathlib.Core.List.{List}
use mathlib.Core.Path.{◌≡◌, refl}
use native.Mathlib.Omega.{arith}
use Rattle.octets.specs.Bytes.{Bytes}
use Rattle.octets.proofs.Be.{be_at-lt}
use Rattle.octets.proofs.Choice.{no}
use Rattle.ft_number.specs.declared.FtNumber.{FtNumber}
use Rattle.ft_number.specs.declared.MessageId.{MessageId}
use Rattle.ft_number.specs.declared.Timeout.{Timeout}
use Rattle.ft_number.specs.Timeout.{TimeoutFits}
use Rattle.tlv.specs.declared.Found.{Found}
use Rattle.tlv.specs.Element.{entry_by}
use Rattle.tlv.proofs.Values.{number_width, id_width, parameters_width, session_width, entry_width}
use Rattle.message.specs.declared.Message.{Message}
use Rattle.message.specs.Reading.{places_of, message_of, reading_by, reading_of}
use Rattle.message.specs.Submission.{entry_by_reading, entry_in}

pub record Widths (g : Message) : Type 0 where
  pub id : g.id.0 < 4294967296
  pub ack : (a : FtNumber) → g.ack ≡ Some a → a.0 < 4294967296
  pub protection : (a : FtNumber) → g.protection ≡ Some a → a.0 < 4294967296
  pub parameters : (ka mp : ℕ) → g.parameters ≡ Some (record { keepalive = ka; pdulength = mp }) → (ka < 65536) × (mp < 65536)
  pub session : (r : Bool) (t : Timeout) → g.session ≡ Some (record { reconnect = r; timeout = t }) → TimeoutFits t
  pub requestid : (id : MessageId) → g.requestid ≡ Some id → id.0 < 4294967296
  pub statusid : (id : MessageId) → g.statusid ≡ Some id → id.0 < 4294967296
  pub entry : entry_by g.fec < 18446744073709551616

message_widths : (m : List ℕ) → Bytes m → (f : Found) → Widths (message_of m f)
unfolding message_of
message_widths m byte f = record {
  id = be_at-lt 4 m 4 byte;
  ack = number_width m byte f.ack;
  protection = number_width m byte f.protection;
  parameters = parameters_width m byte f.parameters;
  session = session_width m byte f.session;
  requestid = id_width m byte f.requestid 0;
  statusid = id_width m byte f.status 4;
  entry = entry_width m byte f.fec;
}

pub read_widths : (m : List ℕ) → Bytes m → (g : Message) → reading_of m ≡ Some g → Widths g
unfolding reading_of
read_widths m byte g e = by (places_of m) e
  where
    by : (w : Option Found) → reading_by m w ≡ Some g → Widths g
    by None e = no (cc)
    by (Some f) e =
        let same : message_of m f ≡ g = cc in
        rw (← same) (message_widths m byte f)

pub entry_in_width : (m : List ℕ) → Bytes m → entry_in m < 18446744073709551616
unfolding entry_in
entry_in_width m byte = by (reading_of m) (read_widths m byte)
  where
    by : (rd : Option Message) → ((g : Message) → rd ≡ Some g → Widths g) → entry_by_reading rd < 18446744073709551616
    by None w = omega arith
    by (Some g) w = (w g refl).entry
