-- The listed TLVs: their numbers, the lengths of their values, and the largest label.
-- 01: "TLV: U, F, 14-bit type (2), length (2), value. TLVs: FEC 0x0100, Generic Label 0x0200 (length 4), Status 0x0300 (10, ..),
-- Common Session Parameters 0x0500 (14), FT Session 0x0503 (4: ..), FT Protection 0x0203 (4), FT ACK 0x0504 (4). The last three are the FT TLVs."
-- 02: "TLV 0x0600, length 4": RFC 3036's Label Request Message ID.
-- 02: "The draft became RFC 3479. Its FT Session TLV has length 12 ..; Both TLV forms are read".
use Rattle.std.specs.Prelude.{ℕ, ◌+◌, ◌%◌, Bool, true, List, [], ◌∷◌, eqb}
use Rattle.octets.specs.Be.{be_at}
use Rattle.octets.specs.Pick.{pick}
use Rattle.tlv.specs.declared.walk.Tlv.{Tlv}
use Rattle.tlv.specs.Table.{lookup}

abbrev pub fec_type : ℕ
fec_type = 0x0100

abbrev pub label_type : ℕ
label_type = 0x0200

abbrev pub status_type : ℕ
status_type = 0x0300

abbrev pub parameters_type : ℕ
parameters_type = 0x0500

abbrev pub session_type : ℕ
session_type = 0x0503

abbrev pub protection_type : ℕ
protection_type = 0x0203

abbrev pub ack_type : ℕ
ack_type = 0x0504

abbrev pub request_id_type : ℕ
request_id_type = 0x0600

abbrev pub listed : List (ℕ × Tlv)
listed =
    (fec_type, Tlv.Fec)
    ∷ (label_type, Tlv.Label)
    ∷ (status_type, Tlv.Status)
    ∷ (parameters_type, Tlv.Parameters)
    ∷ (session_type, Tlv.Session)
    ∷ (protection_type, Tlv.Protection)
    ∷ (ack_type, Tlv.Ack)
    ∷ (request_id_type, Tlv.RequestId)
    ∷ []

-- the TLV of a number, U and F masked off
unfoldable pub tlv_of : ℕ → Tlv
tlv_of n = lookup Tlv.Other listed n

-- the lengths of the values that have one
abbrev pub label_length : ℕ
label_length = 4

abbrev pub status_length : ℕ
status_length = 10

abbrev pub parameters_length : ℕ
parameters_length = 14

-- FT Session has one of two lengths, by which its form is known
abbrev pub draft_length : ℕ
draft_length = 4

abbrev pub published_length : ℕ
published_length = 12

abbrev pub protection_length : ℕ
protection_length = 4

abbrev pub ack_length : ℕ
ack_length = 4

abbrev pub request_id_length : ℕ
request_id_length = 4

-- a value of n bytes has the TLV's length; FEC and TLVs that are not listed have any
abbrev pub length_fits : Tlv → ℕ → Bool
length_fits Tlv.Fec n = true
length_fits Tlv.Label n = eqb n label_length
length_fits Tlv.Status n = eqb n status_length
length_fits Tlv.Parameters n = eqb n parameters_length
length_fits Tlv.Session n = pick (eqb n draft_length) true (eqb n published_length)
length_fits Tlv.Protection n = eqb n protection_length
length_fits Tlv.Ack n = eqb n ack_length
length_fits Tlv.RequestId n = eqb n request_id_length
length_fits Tlv.Other n = true

-- "14-bit type": the numbers below this one; U and F are the two bits above
abbrev pub type_range : ℕ
type_range = 16384

-- the TLV that the bytes ts begin with, and its size: 2 bytes of U, F and type, 2 of length, the value
abbrev pub head_of : List ℕ → Tlv
head_of ts = tlv_of (be_at 2 ts 0 % type_range)

abbrev pub size_of : List ℕ → ℕ
size_of ts = 4 + be_at 2 ts 2

-- "a label above 1,048,575": the value of Generic Label as a whole 32-bit number; 0 in every other TLV
abbrev pub largest_label : ℕ
largest_label = 1048575

abbrev pub label_value : Tlv → List ℕ → ℕ
label_value Tlv.Fec ts = 0
label_value Tlv.Label ts = be_at 4 ts 4
label_value Tlv.Status ts = 0
label_value Tlv.Parameters ts = 0
label_value Tlv.Session ts = 0
label_value Tlv.Protection ts = 0
label_value Tlv.Ack ts = 0
label_value Tlv.RequestId ts = 0
label_value Tlv.Other ts = 0
