-- What Send next writes and stores; the premises are what the callees ensure. Assumes nothing.
use Rattle.std.specs.Prelude.{Option, Some, None}
use Prim.Native.Nat.{ℕ, ◌+◌, ◌≤◌, ◌<◌}
use mathlib.Core.Bool.{Bool, true, false}
use mathlib.Core.List.{List, []}
use mathlib.Core.Path.{◌≡◌, refl, sym, ap, ◌∙◌}
use lib.Dec.{ltb}
use lib.ListN.{length, get_or}
use borrow.Author.Tests.{lt-ltb, le-ltb}
use Rattle.octets.specs.Bytes.{Bytes}
use Rattle.octets.specs.Differ.{differ}
use Rattle.octets.specs.Laid.{laid}
use Rattle.octets.proofs.Differ.{differ_self}
use Rattle.ft_number.specs.declared.FtNumber.{FtNumber}
use Rattle.ft_number.specs.Circle.{after}
use Rattle.block0.specs.declared.Header.{Header}
use Rattle.block0.specs.Updates.{header_issued}
use Rattle.message.specs.Storable.{shortest, longest, Storable}
use Rattle.message_writer.specs.Forms.{protected_bytes}
use Rattle.message_writer.specs.Written.{written_of}
use Rattle.message_writer.proofs.Room.{too_short, long_enough}
use Rattle.image.specs.Sizes.{block}
use Rattle.image.specs.State.{decode, store0}
use Rattle.image.specs.Verdict.{IsSound}
use Rattle.image.proofs.Queue.{queue_storable}
use Rattle.protocol.specs.declared.Answer.{Answer}
use Rattle.protocol.specs.declared.Phase.{Phase}
use Rattle.protocol.specs.Answers.{effect_of, is_done}
use Rattle.protocol.specs.LeftOut.{left_out_from}
use Rattle.protocol.specs.Phases.{issued_count, resumed_of, sent_of, up_with}
use Rattle.protocol.specs.Send.{queue_number, ack_asked, send_bytes, send_rule, numbered, sent_state, send_next, place_sent, send_deed}
use Rattle.protocol.specs.State.{State}
use Rattle.protocol.specs.Step.{Step, room_for}
use Rattle.calls.specs.declared.Outcome.{Outcome}
use Rattle.calls.specs.Outcomes.{After, after_with, refusal, admitted_on, settle_of, step_stored}
use Rattle.calls.specs.State.{state_of, state_of_numbers}
use Rattle.calls.specs.Storing.{stay, stored, same}
use Rattle.calls.proofs.Called.{call_is}
use Rattle.calls.proofs.Ends.{settle-done}
use Rattle.calls.proofs.FurtherBits.{further_none}
use Rattle.calls.proofs.Putting.{header_same, put_same}
use Rattle.call_meaning.proofs.Calling.{own_refused}
use Rattle.send.specs.Send.{send_of}
use Rattle.send.proofs.Judged.{Sendable, judged_refused, sendable_rule, sendable_sound}

-- ---- the number and the ACK
pub number_is : (s : State) (sent : ℕ) {n : FtNumber} → n.0 ≡ after (sent + 1) s.released.0 → n ≡ queue_number s sent
unfolding queue_number
number_is s sent e = λ i. record { 0 = e i }

-- block 0's numbers say it alone
ack_alone : (im : List ℕ) (ask : Bool) → ack_asked ask (state_of_numbers (decode im).header) ≡ ack_asked ask (state_of im)
unfolding ack_asked
ack_alone im true = refl
ack_alone im false = refl

-- ---- the message written
-- a held message has a length that the writer takes
pub next_fits : (im : List ℕ) (sent : ℕ) {m : List ℕ} → IsSound im → sent < (decode im).header.held → m ≡ get_or (decode im).queue sent []
    → (shortest ≤ length m) × (length m ≤ longest)
next_fits im sent s l e = let f : Storable (get_or (decode im).queue sent []) = queue_storable im s sent l in rw e (f.low, f.short)

pub next-written : (im : List ℕ) (sent : ℕ) (ask : Bool) (o : List ℕ) {h : Header} {m o' : List ℕ} {n : FtNumber} {a : Option FtNumber} {w : Option ℕ}
    → h ≡ (decode im).header → m ≡ get_or (decode im).queue sent [] → n ≡ queue_number (state_of_numbers h) sent → a ≡ ack_asked ask (state_of_numbers h)
    → (w, o') ≡ written_of o (protected_bytes m n a) → (w, o') ≡ written_of o (send_bytes (state_of im) sent ask)
unfolding send_bytes queue_number
next-written im sent ask o eh em en ea e = e ∙ (rw (ea, en, em, eh, ack_alone im ask))

-- ---- the number stored
module _ (im : List ℕ) (sent : ℕ) (s : IsSound im) {h : Header} {k : ℕ} (eh : h ≡ (decode im).header) (ek : k ≡ issued_count (state_of_numbers h)) where
  issued : k ≡ issued_count (state_of im)
  unfolding issued_count
  issued = ek ∙ (rw eh)

  pub has_number : Bytes im → sent < k → (false ≡ differ (block im 0) (block im 0)) × (im ≡ stored im stay same (sent_state (state_of im) sent))
  unfolding sent_state
  has_number byte l = (sym (differ_self (block im 0)), rw (← issued, lt-ltb sent k l) (sym (put_same im s byte)))

  pub has_none : {im' : List ℕ} {n : FtNumber} {b : Bool} → k ≤ sent → n ≡ queue_number (state_of_numbers h) sent
      → (im' ≡ store0 im (header_issued h n) (decode im).labels) × (b ≡ differ (block im 0) (block im' 0))
      → (b ≡ differ (block im 0) (block im' 0)) × (im' ≡ stored im stay same (sent_state (state_of im) sent))
  unfolding sent_state numbered queue_number
  has_none l en e =
      (e.1, e.0 ∙ (rw (← issued, le-ltb sent k l, en, eh) (ap (λ (x : Header). store0 im (header_issued x (queue_number (state_of im) sent)) (decode im).labels) (sym (header_same im s)))))

-- ---- the call
module _ (im : List ℕ) (ph : Phase) (ask : Bool) (o : List ℕ) where
  abbrev bytes : List ℕ
  bytes = send_bytes (state_of im) (place_sent (state_of im) ph) ask

  abbrev step : Step
  step = send_deed (state_of im) ph ask

  send_settles : settle_of (admitted_on im ph (send_rule (state_of im) ph (room_for bytes (length o)))) ph im o (step_stored im stay same step o) ≡ send_of im ph ask o
  unfolding send_of send_next
  send_settles = sym (call_is im ph o stay same (send_rule (state_of im) ph (room_for bytes (length o))) step refl)

  pub send_refused : {r : Answer} {x : Outcome} → r ≡ admitted_on im ph (send_rule (state_of im) ph Answer.Done) → is_done r ≡ false → x ≡ refusal r ph
      → after_with x im o ≡ send_of im ph ask o
  send_refused e n ex = judged_refused im ph (room_for bytes (length o)) o (step_stored im stay same step o) e n ex ∙ send_settles

  module _ (d : Sendable im ph) {sent left : ℕ} {w : Option ℕ} {o' : List ℕ} (es : sent ≡ sent_of ph) (el : left ≡ left_out_from (state_of im) sent)
      (ew : (w, o') ≡ written_of o (send_bytes (state_of im) (sent + left) ask)) where
    place : sent + left ≡ place_sent (state_of im) ph
    unfolding place_sent
    place = rw (el, es)

    written : (w, o') ≡ written_of o bytes
    written = rw place at ew

    -- the answer that the room leads to
    answered : (a : Answer) {x : After} → room_for bytes (length o) ≡ a → x ≡ settle_of a ph im o (step_stored im stay same step o) → x ≡ send_of im ph ask o
    answered a e p = p ∙ (rw (← e, ← sendable_rule d (room_for bytes (length o))) send_settles)

    pub send-short : {x : Outcome} → w ≡ None → x ≡ refusal Answer.OutputTooShort ph → after_with x im o' ≡ send_of im ph ask o
    unfolding effect_of
    send-short t ex =
        let p : (ltb (length o) (length bytes) ≡ true) × (o' ≡ o) = too_short o bytes written t in
        rw p.1 (answered Answer.OutputTooShort (rw p.0) (own_refused Answer.OutputTooShort ph im o (step_stored im stay same step o) refl ex))

    pub send_acts : {n : ℕ} {b resumed : Bool} {im' : List ℕ} → w ≡ Some n → resumed ≡ resumed_of ph
        → (b ≡ differ (block im 0) (block im' 0)) × (im' ≡ stored im stay same (sent_state (state_of im) (sent + left)))
        → after_with (record { answer = Answer.Done; phase = up_with resumed (sent + left + 1); written = n; slot = 0; block0 = b; further = 0; leftout = left }) im' o' ≡ send_of im ph ask o
    send_acts {n} {b} {resumed} {im'} t er q =
        let p : (ltb (length o) (length bytes) ≡ false) × ((n ≡ length bytes) × (o' ≡ laid o 0 bytes)) = long_enough o bytes written t in
        let left_is : left ≡ left_out_from (state_of im) (sent_of ph) = el ∙ ap (left_out_from (state_of im)) es in
        answered Answer.Done (rw p.0) (rw (settle-done, further_none im (sendable_sound d).size _ _, q.0, q.1, p.1.0, p.1.1, er, place, ← left_is))
