-- Send next: "Send next (UpFT) gives the oldest not sent on this connection, after a break from the oldest held; it numbers it if it has no number and
-- adds at its end FT Protection, then FT ACK if asked, raising its length. Everything held is re-issued, net-zero pairs too"; 02: but for the Requests that are left
-- out (LeftOut.antt). Answers: 1, 8, 9.
use Rattle.std.specs.Prelude.{Option, Some, None, ℕ, ◌+◌, Bool, true, false, List, [], leb, ltb, get_or}
use Rattle.octets.specs.Pick.{pick}
use Rattle.ft_number.specs.declared.FtNumber.{FtNumber}
use Rattle.ft_number.specs.Circle.{after}
use Rattle.message_writer.specs.Forms.{protected_bytes}
use Rattle.protocol.specs.declared.Answer.{Answer}
use Rattle.protocol.specs.declared.Phase.{Phase}
use Rattle.protocol.specs.LeftOut.{left_out_from, next_place}
use Rattle.protocol.specs.Phases.{up_with, is_up_ft, issued_count, resumed_of, sent_of}
use Rattle.protocol.specs.State.{State, held, with_issued}
use Rattle.protocol.specs.Step.{Step, admitted, room_for, settle, stepped_past, where_open}

-- the message at that place of the queue
abbrev pub queue_message : State → ℕ → List ℕ
queue_message s place = get_or s.queue place []

-- "The oldest held bears the number after R": the message at that place of the queue bears the one as many after it, whatever is left out before it
unfoldable pub queue_number : State → ℕ → FtNumber
queue_number s place = record { 0 = after (place + 1) s.released.0 }

-- FT ACK, if asked, says what is secured
unfoldable pub ack_asked : Bool → State → Option FtNumber
ack_asked true s = Some s.secured
ack_asked false s = None

unfoldable pub send_bytes : State → ℕ → Bool → List ℕ
send_bytes s place ask = protected_bytes (queue_message s place) (queue_number s place) (ack_asked ask s)

-- "1: wrong phase"; "8: nothing unsent"; only then the test of the room, which says `room`
unfoldable pub send_rule : State → Phase → Answer → Answer
send_rule s ph room =
    where_open (is_up_ft ph)
    (pick (leb (held s) (sent_of ph)) Answer.NothingUnsent room)

-- the message at that place of the queue is the last that has a number
unfoldable pub numbered : State → ℕ → State
numbered s place = with_issued s (queue_number s place)

-- "it numbers it if it has no number": those that have one keep it
unfoldable pub sent_state : State → ℕ → State
sent_state s place = pick (ltb place (issued_count s)) s (numbered s place)

-- the place of what is sent in that phase
unfoldable pub place_sent : State → Phase → ℕ
place_sent s ph = next_place s (sent_of ph)

-- "9: output too short"
abbrev pub send_room : State → Phase → Bool → ℕ → Answer
send_room s ph ask room = room_for (send_bytes s (place_sent s ph) ask) room

-- those left out count as sent with it
abbrev pub send_deed : State → Phase → Bool → Step
send_deed s ph ask =
    stepped_past (left_out_from s (sent_of ph)) Answer.Done (sent_state s (place_sent s ph)) (up_with (resumed_of ph) (place_sent s ph + 1))
    (send_bytes s (place_sent s ph) ask)

-- `room`: so many bytes are lent for the output
unfoldable pub send_next : State → Phase → Bool → ℕ → Step
send_next s ph ask room = settle (admitted s ph (send_rule s ph (send_room s ph ask room))) s ph (send_deed s ph ask)
