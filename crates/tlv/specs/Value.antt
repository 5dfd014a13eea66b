-- What the TLV at a place of a message says; the place is 0 where the TLV does not stand. A value begins 4 bytes after the place.
use Rattle.std.specs.Prelude.{Option, Some, None, ℕ, ◌+◌, ◌≤◌, Bool, List, ◌≡◌, eqb, leb, length}
use Rattle.octets.specs.Be.{be_at}
use Rattle.octets.specs.Part.{part}
use Rattle.octets.specs.Pick.{pick}
use Rattle.ft_number.specs.declared.FtNumber.{FtNumber}
use Rattle.ft_number.specs.declared.MessageId.{MessageId}
use Rattle.ft_number.specs.declared.Timeout.{Timeout}
use Rattle.tlv.specs.declared.Fec.{Fec}
use Rattle.tlv.specs.declared.Found.{Found}
use Rattle.tlv.specs.declared.Parameters.{Parameters}
use Rattle.tlv.specs.declared.Part.{Part}
use Rattle.tlv.specs.declared.Session.{Session}
use Rattle.tlv.specs.Element.{fec_of}
use Rattle.tlv.specs.Tlv.{label_length, status_length, parameters_length, draft_length, published_length, protection_length, ack_length, request_id_length}
use Rattle.tlv.specs.Walk.{head_size}

-- n bytes of the value lie within the message
abbrev pub Within : List ℕ → ℕ → ℕ → Type 0
Within m place n = (place ≡ 0 → ⊥) → place + 4 + n ≤ length m

-- the TLVs that were found lie within the message, each with its length; FT Session with the lesser of its two
pub record Places (m : List ℕ) (f : Found) : Type 0 where
  pub head : head_size ≤ length m
  pub fec : Within m f.fec (be_at 2 m (f.fec + 2))
  pub label : Within m f.label label_length
  pub status : Within m f.status status_length
  pub parameters : Within m f.parameters parameters_length
  pub parametersvalue : Within m f.parameters (be_at 2 m (f.parameters + 2))
  pub session : Within m f.session draft_length
  pub sessionvalue : Within m f.session (be_at 2 m (f.session + 2))
  pub protection : Within m f.protection protection_length
  pub ack : Within m f.ack ack_length
  pub requestid : Within m f.requestid request_id_length

-- the value's part of the message
unfoldable pub part_at : List ℕ → ℕ → Part
part_at m place = pick (eqb place 0) (record { start = 0; end = 0 }) (record { start = place + 4; end = place + 4 + be_at 2 m (place + 2) })

-- the FEC of the value's bytes
unfoldable pub fec_at : List ℕ → ℕ → Option Fec
fec_at m place = pick (eqb place 0) None (Some (fec_of (part m (place + 4) (place + 4 + be_at 2 m (place + 2)))))

-- the first 32 bits: a label, a status
unfoldable pub field_at : List ℕ → ℕ → Option ℕ
field_at m place = pick (eqb place 0) None (Some (be_at 4 m (place + 4)))

-- an FT number
unfoldable pub number_at : List ℕ → ℕ → Option FtNumber
number_at m place = pick (eqb place 0) None (Some (record { 0 = be_at 4 m (place + 4) }))

-- a message ID, n bytes into the value: of Label Request Message ID the whole; in Status it stands behind the code, RFC 3036: "code (4), message ID (4), message type (2)"
unfoldable pub id_at : List ℕ → ℕ → ℕ → Option MessageId
id_at m place n = pick (eqb place 0) None (Some (record { 0 = be_at 4 m (place + 4 + n) }))

-- 01: "of the peer's parameters only these are read": KeepAlive time, maximum PDU length; before them stands the protocol version (2),
-- between them the A and D bits (1) and PVLim (1)
unfoldable pub parameters_at : List ℕ → ℕ → Option Parameters
parameters_at m place = pick (eqb place 0) None (Some (record { keepalive = be_at 2 m (place + 6); pdulength = be_at 2 m (place + 10) }))

-- the top bit of 32, and whether it is set
abbrev pub top_bit_weight : ℕ
top_bit_weight = 2147483648

abbrev pub top_bit : ℕ → Bool
top_bit v = leb top_bit_weight v

-- 01: "FT Session 0x0503 (4: top bit R, then seconds in the last 2 bytes)"; RFC 3479: flags, of which the top bit is R (2), reserved (2), FT reconnect timeout in
-- milliseconds (4), recovery time (4). 02: "heeding R alone"
abbrev pub timeout_at : List ℕ → ℕ → Timeout
timeout_at m place =
    pick (eqb (be_at 2 m (place + 2)) published_length) (Timeout.Milliseconds (be_at 4 m (place + 8))) (Timeout.Seconds (be_at 2 m (place + 6)))

unfoldable pub session_at : List ℕ → ℕ → Option Session
session_at m place = pick (eqb place 0) None (Some (record { reconnect = top_bit (be_at 4 m (place + 4)); timeout = timeout_at m place }))
