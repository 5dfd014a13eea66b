-- What a PDU is and where its messages lie.
-- "PDU: version 1 (2), PDU length (2, bytes after it), LDP identifier (6), messages.
-- Message: U bit and type (2), length (2, bytes after it), message ID (4), TLVs."
use Rattle.std.specs.Prelude.{Option, Some, None, ℕ, ◌+◌, ◌-◌, not, List, [], ltb, eqb, length}
use Rattle.octets.specs.Be.{be_at}
use Rattle.octets.specs.Fix.{fix}
use Rattle.octets.specs.Part.{part}
use Rattle.octets.specs.Pick.{pick}
use Rattle.pdu.specs.declared.Place.{Place}

-- the message that starts at `at`: its type and length, at least the message ID after them, and as many bytes as its length says
unfoldable pub message_place : List ℕ → ℕ → Option Place
message_place pdu at =
    pick (ltb (length pdu) (at + 4)) None
    (pick (ltb (be_at 2 pdu (at + 2)) 4) None
    (pick (ltb (length pdu) (at + 4 + be_at 2 pdu (at + 2))) None
    (Some (record { start = at; end = at + 4 + be_at 2 pdu (at + 2) }))))

-- the bytes that lie at a place; none where there is no message
abbrev pub place_bytes : List ℕ → Option Place → List ℕ
place_bytes pdu (Some place) = part pdu place.start place.end
place_bytes pdu None = []

-- the index in the PDU at which they start; the PDU's own start where there is no message
abbrev pub message_start : Option Place → ℕ
message_start (Some place) = place.start
message_start None = 0

-- 01's number: "4: malformed submission or PDU"
abbrev pub place_number : Option Place → ℕ
place_number (Some place) = 0
place_number None = 4

abbrev pub opened_number : Option ℕ → ℕ
opened_number (Some count) = 0
opened_number None = 4

-- a place in the PDU, and how many messages lie before it
pub record Spot : Type 0 where
  pub at : ℕ
  pub count : ℕ

-- "lengths that don't add up exactly": the messages end where the PDU ends
abbrev pub on_place : (Spot → Option ℕ) → ℕ → Option Place → Option ℕ
on_place rest count (Some place) = rest (record { at = place.end; count = count + 1 })
on_place rest count None = None

abbrev pub count_step : List ℕ → (Spot → Option ℕ) → Spot → Option ℕ
count_step pdu rest spot =
    pick (eqb spot.at (length pdu)) (Some spot.count)
    (on_place rest spot.count (message_place pdu spot.at))

abbrev pub bytes_left : List ℕ → Spot → ℕ
bytes_left pdu spot = length pdu - spot.at

-- the messages from `at` to the PDU's end, each right after the one before, counted on from `count`
unfoldable pub counted_from : List ℕ → ℕ → ℕ → Option ℕ
counted_from pdu at count = fix (bytes_left pdu) (count_step pdu) None (record { at = at; count = count })

-- "Malformed: a PDU version other than 1; lengths that don't add up exactly"
unfoldable pub opened_of : List ℕ → Option ℕ
opened_of pdu =
    pick (ltb (length pdu) 10) None
    (pick (not (eqb (be_at 2 pdu 0) 1)) None
    (pick (not (eqb (be_at 2 pdu 2 + 4) (length pdu))) None
    (counted_from pdu 10 0)))
