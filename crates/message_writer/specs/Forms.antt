-- The messages that we write, byte by byte.
-- 01: "Our Init: parameters (protocol version 1, KeepAlive time, A, D and PVLim zero, maximum PDU length, receiver identifier), FT Session,
-- then FT ACK if R is 1: 34 or 42 bytes. KeepAlive .. carries FT ACK in UpFT, 16 bytes, and none in UpPlain, 8 bytes."
-- 02: "bit A of our Init, as Open says"; "the session writes the one its owner names", the draft's FT Session or RFC 3479's, "setting S alone of its new flags, Recovery Time to 0":
-- 34 or 42 bytes, or 42 or 50.
-- "adds at its end FT Protection, then FT ACK if asked, raising its length"; "on writing FT Session begins 85 03".
use Rattle.std.specs.Prelude.{Option, Some, None, ℕ, ◌+◌, ◌-◌, Bool, true, false, List, [], ◌++◌, length}
use Rattle.octets.specs.Be.{bytes}
use Rattle.octets.specs.Laid.{laid}
use Rattle.ft_number.specs.declared.FtNumber.{FtNumber}
use Rattle.ft_number.specs.declared.MessageId.{MessageId}
use Rattle.ft_number.specs.declared.Timeout.{Timeout}
use Rattle.tlv.specs.Tlv.{parameters_type, session_type, protection_type, ack_type}
use Rattle.message.specs.Reading.{initialization_type, keepalive_type}
use Rattle.message_writer.specs.declared.OwnParameters.{OwnParameters}

-- a TLV: type (2), length of the value (2), value
abbrev pub tlv_bytes : ℕ → List ℕ → List ℕ
tlv_bytes number value = bytes 2 number ++ (bytes 2 (length value) ++ value)

-- a message's head: type (2), length of what follows (2), message ID (4)
abbrev pub head_bytes : ℕ → ℕ → ℕ → List ℕ
head_bytes number size id = bytes 2 number ++ (bytes 2 size ++ bytes 4 id)

abbrev pub message_bytes : ℕ → MessageId → List ℕ → List ℕ
message_bytes number id tlvs = head_bytes number (4 + length tlvs) id.0 ++ tlvs

-- FT ACK where a number is given
abbrev pub ack_tlv : Option FtNumber → List ℕ
ack_tlv None = []
ack_tlv (Some a) = tlv_bytes ack_type (bytes 4 a.0)

-- the byte of the A and D bits: A, downstream on demand, is the top one
abbrev pub mode_byte : Bool → ℕ
mode_byte true = 0x80
mode_byte false = 0

-- protocol version 1 (2), KeepAlive time (2), the A and D bits (1), PVLim (1), maximum PDU length (2), receiver's LSR ID (4) and label space (2)
abbrev pub parameters_tlv : OwnParameters → List ℕ
parameters_tlv p =
    tlv_bytes parameters_type
    (bytes 2 1 ++ (bytes 2 p.keepalive ++ (bytes 1 (mode_byte p.ondemand) ++ (bytes 1 0 ++ (bytes 2 p.pdulength ++ (bytes 4 p.lsr ++ bytes 2 p.space))))))

-- the flags of FT Session: R, set where there is an ACK
abbrev pub reconnect_flag : Option FtNumber → ℕ
reconnect_flag None = 0
reconnect_flag (Some a) = 0x8000

-- RFC 3479's flag S
abbrev pub save_flag : ℕ
save_flag = 0x0008

-- the value of the draft's FT Session: flags (2), seconds (2)
abbrev pub draft_value : ℕ → ℕ → List ℕ
draft_value flags seconds = bytes 2 flags ++ bytes 2 seconds

-- that of RFC 3479's: flags (2), reserved (2), FT reconnect timeout in milliseconds (4), recovery time (4)
abbrev pub published_value : ℕ → ℕ → List ℕ
published_value flags milliseconds = bytes 2 flags ++ (bytes 2 0 ++ (bytes 4 milliseconds ++ bytes 4 0))

abbrev pub session_value : Option FtNumber → Timeout → List ℕ
session_value ack (Timeout.Seconds s) = draft_value (reconnect_flag ack) s
session_value ack (Timeout.Milliseconds n) = published_value (reconnect_flag ack + save_flag) n

-- the U bit, the top one of a TLV's first 16: who does not know the type passes the TLV over
abbrev pub unknown_bit : ℕ
unknown_bit = 0x8000

-- FT Session, its U bit set
abbrev pub session_tlv : Option FtNumber → Timeout → List ℕ
session_tlv ack t = tlv_bytes (unknown_bit + session_type) (session_value ack t)

-- where an Init's FT Session ends, in the form of its timeout
abbrev pub session_end : Timeout → ℕ
session_end (Timeout.Seconds s) = 34
session_end (Timeout.Milliseconds n) = 42

-- an Init up to its FT Session, with the length of the whole
abbrev pub init_head : ℕ → MessageId → OwnParameters → Option FtNumber → Timeout → List ℕ
init_head size id p ack t = head_bytes initialization_type size id.0 ++ (parameters_tlv p ++ session_tlv ack t)

abbrev pub init_bytes : MessageId → OwnParameters → Timeout → Option FtNumber → List ℕ
init_bytes id p t ack = message_bytes initialization_type id (parameters_tlv p ++ (session_tlv ack t ++ ack_tlv ack))

abbrev pub keepalive_bytes : MessageId → Option FtNumber → List ℕ
keepalive_bytes id ack = message_bytes keepalive_type id (ack_tlv ack)

-- the message m with another number in its length
abbrev pub raised_to : List ℕ → ℕ → List ℕ
raised_to m size = laid m 2 (bytes 2 size)

-- the message m with TLVs behind it, its length raised
unfoldable pub raised : List ℕ → List ℕ → List ℕ
raised m tlvs = raised_to m (length m + length tlvs - 4) ++ tlvs

-- FT Protection, then FT ACK
abbrev pub ft_tlvs : FtNumber → Option FtNumber → List ℕ
ft_tlvs n ack = tlv_bytes protection_type (bytes 4 n.0) ++ ack_tlv ack

abbrev pub protected_bytes : List ℕ → FtNumber → Option FtNumber → List ℕ
protected_bytes m n ack = raised m (ft_tlvs n ack)
