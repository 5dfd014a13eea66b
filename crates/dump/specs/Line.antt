-- The line of a message, and the text of a PDU.
-- docs/LDP_DUMP.md: "one line for each message, fields parted by single spaces: PDU number from 0, message number in it from 0, type (`0x0400`, U masked off),
-- message ID (decimal), then each listed TLV".
use Rattle.std.specs.Prelude.{Option, Some, None, ℕ, ◌+◌, ◌*◌, Bool, true, false, List, [], ◌∷◌, ◌++◌}
use Rattle.pdu.specs.Pdu.{opened_of}
use Rattle.pdu.specs.Split.{handed_out}
use Rattle.text.specs.Text.{ascii, decimal}
use Rattle.dump_fields.specs.Field.{type_text}
use Rattle.message.specs.declared.Message.{Message}
use Rattle.message.specs.Reading.{number_in, id_in, reading_of}
use Rattle.dump.specs.Fields.{fields_text}

unfoldable pub head_text : ℕ → ℕ → List ℕ → List ℕ
head_text number k m = decimal number ++ (ascii " " ++ decimal k) ++ type_text (number_in m) ++ (ascii " " ++ decimal (id_in m).0)

-- "A malformed message has `malformed` after its ID and no TLV."
abbrev pub reading_text : List ℕ → Option Message → List ℕ
reading_text m None = ascii " malformed"
reading_text m (Some g) = fields_text m g

unfoldable pub line_of : ℕ → ℕ → List ℕ → List ℕ
line_of number k m = head_text number k m ++ reading_text m (reading_of m) ++ ascii "\n"

-- the lines of messages, numbered from k on
abbrev pub lines_of : ℕ → ℕ → List (List ℕ) → List ℕ
lines_of number k [] = []
lines_of number k (m ∷ ms) = line_of number k m ++ lines_of number (k + 1) ms

-- "Where a PDU doesn't split: `N malformed pdu` with its number"
abbrev pub opened_text : ℕ → List ℕ → Option ℕ → List ℕ
opened_text number pdu (Some n) = lines_of number 0 (handed_out pdu n 10)
opened_text number pdu None = decimal number ++ ascii " malformed pdu\n"

unfoldable pub pdu_text : ℕ → List ℕ → List ℕ
pdu_text number pdu = opened_text number pdu (opened_of pdu)

abbrev pub is_whole : Option ℕ → Bool
is_whole (Some n) = true
is_whole None = false

-- the largest PDU: its length field's 65,535 bytes after version and length
abbrev pub largest_pdu : ℕ
largest_pdu = 65539

-- room for a line: two digits for each byte of the message, and 311 bytes for all else
abbrev pub line_room : ℕ → ℕ
line_room size = 2 * size + 311

-- room for the lines of the largest PDU, which has at most 8,191 messages
abbrev pub pdu_text_room : ℕ
pdu_text_room = 2700000
