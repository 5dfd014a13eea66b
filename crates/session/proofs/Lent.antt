-- What a call writes where it is done has room in the bytes that it is lent: "9: output too short" was passed. Assumes nothing.
use Rattle.std.specs.Prelude.{Option, Some, None}
use Prim.Native.Nat.{ℕ, ◌≤◌}
use mathlib.Core.Bool.{Bool, not}
use mathlib.Core.List.{List}
use mathlib.Core.Path.{◌≡◌}
use native.Mathlib.Omega.{arith}
use lib.Dec.{leb, ltb}
use lib.ListN.{length}
use borrow.Author.Tests.{ltb-false}
use Rattle.octets.proofs.Choice.{cleared, pick_all}
use Rattle.message.specs.declared.Message.{Message}
use Rattle.message.specs.Reading.{reading_of}
use Rattle.protocol.specs.declared.Answer.{Answer}
use Rattle.protocol.specs.declared.Phase.{Phase}
use Rattle.protocol.specs.Calls.{Call, formats, restores, fails, opens, greets, passes, submits, sends, keeps-alive, receives}
use Rattle.protocol.specs.Judged.{judged, done}
use Rattle.protocol.specs.KeepAlive.{alive_bytes}
use Rattle.protocol.specs.Open.{open_bytes}
use Rattle.protocol.specs.Phases.{is_up, is_up_ft, may_open, phase_fits, sent_of}
use Rattle.protocol.specs.Receive.{taken_as}
use Rattle.protocol.specs.Send.{send_bytes, send_rule, place_sent}
use Rattle.protocol.specs.State.{State, held}
use Rattle.protocol.specs.Step.{Step, admitted, room_for, where_open}
use Rattle.protocol.specs.TimePassed.{expired}
use Rattle.protocol.specs.Writer.{writer_rule}
use Rattle.session.specs.Call.{lent}

-- the tests that were passed
opened : (may : Bool) (a : Answer) → where_open may a ≡ Answer.Done → a ≡ Answer.Done
opened may a e = (cleared (not may) Answer.WrongPhase a Answer.Done (λ z. cc) e).1

admits : (s : State) (ph : Phase) (a : Answer) → admitted s ph a ≡ Answer.Done → a ≡ Answer.Done
unfolding admitted
admits s ph a e = opened (phase_fits ph s) a e

sends_done : (s : State) (ph : Phase) (a : Answer) → send_rule s ph a ≡ Answer.Done → a ≡ Answer.Done
unfolding send_rule
sends_done s ph a e = (cleared (leb (held s) (sent_of ph)) Answer.NothingUnsent a Answer.Done (λ z. cc) (opened (is_up_ft ph) _ e)).1

has_room : (bytes : List ℕ) (room : ℕ) → room_for bytes room ≡ Answer.Done → length bytes ≤ room
has_room bytes room e = ltb-false room (length bytes) (cleared (ltb room (length bytes)) Answer.OutputTooShort Answer.Done Answer.Done (λ z. cc) e).0

-- nothing is written to what is received
taken_none : (s : State) (ph : Phase) (r : Option Message) → length (taken_as s ph r).output ≤ 0
taken_none s Phase.Idle r = omega arith
taken_none s (Phase.InitWait v) r = omega arith
taken_none s (Phase.UpFT u) None = omega arith
taken_none s (Phase.UpFT u) (Some g) = omega arith
taken_none s Phase.UpPlain r = omega arith
taken_none s Phase.Failed r = omega arith

pub done-room : (c : Call) (s : State) (ph : Phase) (out : List ℕ) → judged c s ph (length out) ≡ Answer.Done → length (done c s ph).output ≤ length (lent c out)
unfolding judged done
done-room formats s ph out e = omega arith
done-room restores s ph out e = omega arith
done-room fails s ph out e = omega arith
done-room (opens id own proposal) s ph out e =
    let bytes : List ℕ = open_bytes s id own proposal in
    has_room bytes (length out) (opened (may_open ph) (room_for bytes (length out)) (admits s ph (writer_rule (may_open ph) bytes (length out)) e))
done-room (greets m) s ph out e = omega arith
done-room (passes elapsed) s ph out e = pick_all (λ (x : Step). length x.output ≤ 0) (expired s elapsed) (omega arith) (omega arith)
done-room (submits m) s ph out e = omega arith
done-room (sends ask) s ph out e =
    let bytes : List ℕ = send_bytes s (place_sent s ph) ask in
    let room : Answer = room_for bytes (length out) in
    has_room bytes (length out) (sends_done s ph room (admits s ph (send_rule s ph room) e))
done-room (keeps-alive id) s ph out e =
    let bytes : List ℕ = alive_bytes s ph id in
    has_room bytes (length out) (opened (is_up ph) (room_for bytes (length out)) (admits s ph (writer_rule (is_up ph) bytes (length out)) e))
done-room (receives m) s ph out e = taken_none s ph (reading_of m)
