-- What a call writes is a message of at most 496 bytes. Assumes nothing.
use Rattle.std.specs.Prelude.{Option, Some, None}
use Prim.Native.Nat.{ℕ, ◌≤◌}
use mathlib.Core.Bool.{Bool}
use mathlib.Core.List.{List}
use mathlib.Core.Path.{◌≡◌, ap}
use native.Mathlib.Omega.{arith}
use lib.ListN.{length}
use Rattle.octets.proofs.Choice.{pick_all}
use Rattle.ft_number.specs.declared.FtNumber.{FtNumber}
use Rattle.ft_number.specs.declared.MessageId.{MessageId}
use Rattle.ft_number.specs.declared.Timeout.{Timeout}
use Rattle.ft_number.specs.Timeout.{proposed_of}
use Rattle.message.specs.declared.Message.{Message}
use Rattle.message.specs.Reading.{reading_of}
use Rattle.message.specs.Storable.{Storable}
use Rattle.message_writer.specs.declared.OwnParameters.{OwnParameters}
use Rattle.message_writer.specs.Forms.{ack_tlv, ft_tlvs, init_bytes, keepalive_bytes}
use Rattle.message_writer.proofs.Puts.{length-raised}
use Rattle.image.specs.Verdict.{IsSound}
use Rattle.image.proofs.Queue.{queue_length, queue_storable}
use Rattle.protocol.specs.declared.Answer.{Answer}
use Rattle.protocol.specs.declared.Phase.{Phase}
use Rattle.protocol.specs.Answers.{is_done}
use Rattle.protocol.specs.Calls.{Call, formats, restores, fails, opens, greets, passes, submits, sends, keeps-alive, receives, step}
use Rattle.protocol.specs.Judged.{judged, done}
use Rattle.protocol.specs.KeepAlive.{alive_ack}
use Rattle.protocol.specs.Open.{kept_ack}
use Rattle.protocol.specs.Phases.{is_up_ft}
use Rattle.protocol.specs.Receive.{taken_in_ft, taken_as}
use Rattle.protocol.specs.Send.{queue_message, queue_number, ack_asked, place_sent, send_bytes, send_rule}
use Rattle.protocol.specs.State.{State}
use Rattle.protocol.specs.Step.{Step, room_for}
use Rattle.protocol.specs.TimePassed.{expired}
use Rattle.protocol.proofs.Sends.{Sendable, sendable}
use Rattle.protocol.proofs.Settles.{ends}
use Rattle.protocol.proofs.Settling.{admitted-done}
use Rattle.calls.specs.State.{state_of}
use Rattle.session_numbers.specs.Outcome.{longest_written}

ack_short : (ack : Option FtNumber) → length (ack_tlv ack) ≤ 8
ack_short None = omega arith
ack_short (Some a) = omega arith

init-short : (id : MessageId) (p : OwnParameters) (t : Timeout) (ack : Option FtNumber) → length (init_bytes id p t ack) ≤ longest_written
init-short id p (Timeout.Seconds n) None = omega arith
init-short id p (Timeout.Seconds n) (Some a) = omega arith
init-short id p (Timeout.Milliseconds n) None = omega arith
init-short id p (Timeout.Milliseconds n) (Some a) = omega arith

alive-short : (id : MessageId) (ack : Option FtNumber) → length (keepalive_bytes id ack) ≤ longest_written
alive-short id None = omega arith
alive-short id (Some a) = omega arith

-- nothing is written to what is received
taken-short : (s : State) (ph : Phase) (r : Option Message) → length (taken_as s ph r).output ≤ longest_written
taken-short s ph r = pick_all (λ (x : Step). length x.output ≤ longest_written) (is_up_ft ph) (by r) (omega arith)
  where
    by : (r : Option Message) → length (taken_in_ft s ph r).output ≤ longest_written
    by None = omega arith
    by (Some g) = omega arith

module _ (im : List ℕ) (ph : Phase) (sound : IsSound im) where
  -- a held message has 480 bytes at most, and two TLVs of 8 are added
  sent-short : (ask : Bool) → Sendable (state_of im) ph → length (send_bytes (state_of im) (place_sent (state_of im) ph) ask) ≤ longest_written
  unfolding send_bytes
  sent-short ask d =
      let place : ℕ = place_sent (state_of im) ph in
      let f : Storable (queue_message (state_of im) place) = queue_storable im sound place (omega (arith, d.place, queue_length im)) in
      let t : List ℕ = ft_tlvs (queue_number (state_of im) place) (ack_asked ask (state_of im)) in
      omega (arith, f.short, length-raised (queue_message (state_of im) place) f.low t, ack_short (ack_asked ask (state_of im)))

  done-short : (c : Call) (room : ℕ) → judged c (state_of im) ph room ≡ Answer.Done → length (done c (state_of im) ph).output ≤ longest_written
  unfolding judged done
  done-short formats room e = omega arith
  done-short restores room e = omega arith
  done-short fails room e = omega arith
  done-short (opens id own proposal) room e = init-short id own (proposed_of proposal) (kept_ack (state_of im))
  done-short (greets m) room e = omega arith
  done-short (passes elapsed) room e = pick_all (λ (x : Step). length x.output ≤ longest_written) (expired (state_of im) elapsed) (omega arith) (omega arith)
  done-short (submits m) room e = omega arith
  done-short (sends ask) room e =
      let own = room_for (send_bytes (state_of im) (place_sent (state_of im) ph) ask) room in
      sent-short ask (sendable (state_of im) ph own (admitted-done (state_of im) ph (send_rule (state_of im) ph own) (ap is_done e)))
  done-short (keeps-alive id) room e = alive-short id (alive_ack ph (state_of im).secured)
  done-short (receives m) room e = taken-short (state_of im) ph (reading_of m)

  -- the output of every call on a sound image
  pub step-short : (c : Call) (room : ℕ) → length (step c (state_of im) ph room).output ≤ longest_written
  step-short c room =
      ends c (state_of im) ph room (λ (x : Step). length x.output ≤ longest_written) (λ e. omega arith) (λ e. omega arith) (λ e. omega arith) (done-short c room)
