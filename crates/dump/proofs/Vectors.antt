-- The examples of docs/LDP_DUMP.md compute: a Mapping with FT Protection, an Abort, an Init in the published form, and a malformed Withdraw. Assumes nothing.
use Prim.Native.Nat.{ℕ}
use mathlib.Core.List.{List, [], ◌∷◌}
use mathlib.Core.Path.{◌≡◌, refl}
use Rattle.octets.specs.Fix.{fix, steps}
use Rattle.text.specs.Text.{ascii, decimal}
use Rattle.tlv.specs.Element.{fec_of, is_wildcard, is_prefix}
use Rattle.tlv.specs.Tlv.{tlv_of}
use Rattle.tlv.specs.Value.{part_at, fec_at, field_at, number_at, id_at, parameters_at, session_at}
use Rattle.tlv.specs.Walk.{noted_of, turn_of, walk_of, tlvs_of}
use Rattle.message.specs.Reading.{type_of, message_of, places_of, reading_of}
use Rattle.dump.specs.Line.{head_text, line_of}

abbrev mapping : List ℕ
mapping =
    0x04 ∷ 0x00 ∷ 0 ∷ 31 ∷ 0 ∷ 0 ∷ 0 ∷ 7
    ∷ 0x01 ∷ 0x00 ∷ 0 ∷ 7 ∷ 0x02 ∷ 0x00 ∷ 0x01 ∷ 0x18 ∷ 0x0a ∷ 0x00 ∷ 0x00
    ∷ 0x02 ∷ 0x00 ∷ 0 ∷ 4 ∷ 0 ∷ 0 ∷ 0 ∷ 16
    ∷ 0x02 ∷ 0x03 ∷ 0 ∷ 4 ∷ 0 ∷ 0 ∷ 0 ∷ 27
    ∷ []

mapping-line : line_of 0 0 mapping ≡ ascii "0 0 0x0400 7 fec 020001180a0000 label 16 ft-protection 27\n"
unfolding line_of head_text decimal fix steps reading_of places_of message_of type_of tlvs_of walk_of turn_of noted_of tlv_of part_at fec_at fec_of is_wildcard is_prefix field_at number_at id_at parameters_at session_at
mapping-line = refl

abbrev abort : List ℕ
abort =
    0x04 ∷ 0x04 ∷ 0 ∷ 23 ∷ 0 ∷ 0 ∷ 0 ∷ 9
    ∷ 0x01 ∷ 0x00 ∷ 0 ∷ 7 ∷ 0x02 ∷ 0x00 ∷ 0x01 ∷ 0x18 ∷ 0x0a ∷ 0x00 ∷ 0x00
    ∷ 0x06 ∷ 0x00 ∷ 0 ∷ 4 ∷ 0 ∷ 0 ∷ 0 ∷ 7
    ∷ []

abort-line : line_of 0 1 abort ≡ ascii "0 1 0x0404 9 fec 020001180a0000 request-id 7\n"
unfolding line_of head_text decimal fix steps reading_of places_of message_of type_of tlvs_of walk_of turn_of noted_of tlv_of part_at fec_at fec_of is_wildcard is_prefix field_at number_at id_at parameters_at session_at
abort-line = refl

abbrev init : List ℕ
init =
    0x02 ∷ 0x00 ∷ 0 ∷ 46 ∷ 0 ∷ 0 ∷ 0 ∷ 1
    ∷ 0x05 ∷ 0x00 ∷ 0 ∷ 14 ∷ 0 ∷ 1 ∷ 0 ∷ 60 ∷ 0 ∷ 0 ∷ 0x10 ∷ 0x00 ∷ 0x0a ∷ 0 ∷ 0 ∷ 1 ∷ 0 ∷ 0
    ∷ 0x85 ∷ 0x03 ∷ 0 ∷ 12 ∷ 0x80 ∷ 0x08 ∷ 0 ∷ 0 ∷ 0 ∷ 0 ∷ 0x75 ∷ 0x30 ∷ 0 ∷ 0 ∷ 0 ∷ 0
    ∷ 0x05 ∷ 0x04 ∷ 0 ∷ 4 ∷ 0 ∷ 0 ∷ 0 ∷ 27
    ∷ []

init-line : line_of 0 2 init ≡ ascii "0 2 0x0200 1 params 0001003c000010000a0000010000 ft-session-ms 1 30000 ft-ack 27\n"
unfolding line_of head_text decimal fix steps reading_of places_of message_of type_of tlvs_of walk_of turn_of noted_of tlv_of part_at fec_at fec_of is_wildcard is_prefix field_at number_at id_at parameters_at session_at
init-line = refl

withdraw-line : line_of 0 3 (0x84 ∷ 0x02 ∷ 0 ∷ 4 ∷ 0 ∷ 0 ∷ 0 ∷ 8 ∷ []) ≡ ascii "0 3 0x0402 8 malformed\n"
unfolding line_of head_text decimal fix steps reading_of places_of message_of type_of tlvs_of walk_of turn_of noted_of tlv_of
withdraw-line = refl
