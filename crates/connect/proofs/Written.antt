-- The returns of Open and KeepAlive. Assumes nothing.
use Rattle.std.specs.Prelude.{Option, Some, None}
use Prim.Native.Nat.{ℕ}
use mathlib.Core.Bool.{Bool, true, false}
use mathlib.Core.List.{List}
use mathlib.Core.Path.{◌≡◌, refl, sym, ap, ap₂, ◌∙◌}
use lib.Dec.{ltb}
use lib.ListN.{length}
use Rattle.octets.specs.Bytes.{Bytes}
use Rattle.octets.specs.Laid.{laid}
use Rattle.octets.specs.Pick.{pick}
use Rattle.octets.proofs.Differ.{differ_self}
use Rattle.ft_number.specs.declared.FtNumber.{FtNumber}
use Rattle.ft_number.specs.declared.MessageId.{MessageId}
use Rattle.ft_number.specs.declared.Proposal.{Proposal}
use Rattle.ft_number.specs.declared.Timeout.{Timeout}
use Rattle.ft_number.specs.Timeout.{proposed_of, millis_of}
use Rattle.block0.specs.declared.Header.{Header}
use Rattle.message_writer.specs.declared.OwnParameters.{OwnParameters}
use Rattle.message_writer.specs.Forms.{init_bytes, keepalive_bytes}
use Rattle.message_writer.specs.Written.{written_of}
use Rattle.image.specs.Sizes.{block}
use Rattle.image.specs.State.{decode}
use Rattle.image.specs.Verdict.{IsSound}
use Rattle.protocol.specs.declared.Answer.{Answer}
use Rattle.protocol.specs.declared.Phase.{Phase}
use Rattle.protocol.specs.Answers.{effect_of, is_done}
use Rattle.protocol.specs.KeepAlive.{alive_ack, alive_bytes, keepalive}
use Rattle.protocol.specs.Open.{kept_ack, open_bytes, open_session, awaiting}
use Rattle.protocol.specs.Phases.{is_up, may_open, waiting_for}
use Rattle.protocol.specs.State.{State}
use Rattle.protocol.specs.Step.{where_open, room_for, stepped}
use Rattle.protocol.specs.Writer.{writer}
use Rattle.calls.specs.declared.Outcome.{Outcome}
use Rattle.calls.specs.Outcomes.{After, after_with, refusal, admitted_on, call_of, settle_of, step_stored}
use Rattle.calls.specs.State.{state_of, state_of_numbers}
use Rattle.calls.specs.Storing.{stay, same}
use Rattle.calls.proofs.Called.{call_is}
use Rattle.calls.proofs.Ends.{settle-done}
use Rattle.calls.proofs.FurtherBits.{further_self}
use Rattle.calls.proofs.Putting.{put_same}
use Rattle.calls.proofs.Settled.{admit_passed, admitted-sound}
use Rattle.call_meaning.proofs.Calling.{call_refused, call_own, own_refused}
use Rattle.connect.specs.Answered.{written_as}
use Rattle.connect.specs.Writers.{open_of, keepalive_of}

-- the ACK of our Init
pub kept_set : (s : State) → s.kept ≡ true → Some s.secured ≡ kept_ack s
unfolding kept_ack
kept_set s e = rw e

pub kept_clear : (s : State) → s.kept ≡ false → None ≡ kept_ack s
unfolding kept_ack
kept_clear s e = rw e

-- ---- a writer
module _ (im : List ℕ) (ph : Phase) (next : Phase) (out bytes : List ℕ) where
  -- what is left where the bytes are written
  abbrev done : After
  done = step_stored im stay same (stepped Answer.Done (state_of im) next bytes) out

  -- what was written, by the room: the image says already what is stored
  wrote_by : {w : Option ℕ} {out' : List ℕ} {x : Outcome} → IsSound im → Bytes im → (w, out') ≡ written_of out bytes → x ≡ written_as w ph next
      → after_with x im out' ≡ settle_of (room_for bytes (length out)) ph im out done
  unfolding written_of effect_of
  wrote_by {w} {out'} {x} s byte e p = by (ltb (length out) (length bytes)) refl
    where
      by : (b : Bool) → ltb (length out) (length bytes) ≡ b → after_with x im out' ≡ settle_of (pick b Answer.OutputTooShort Answer.Done) ph im out done
      by true t =
          let z : ◌≡◌ {A = (Option ℕ) × List ℕ} (w, out') (None, out) = e ∙ rw t in
          rw (ap (λ (q : (Option ℕ) × List ℕ). q.1) z)
          (own_refused Answer.OutputTooShort ph im out done refl (p ∙ ap (λ (q : (Option ℕ) × List ℕ). written_as q.0 ph next) z))
      by false t =
          let z : ◌≡◌ {A = (Option ℕ) × List ℕ} (w, out') (Some (length bytes), laid out 0 bytes) = e ∙ rw t in
          rw (settle-done, put_same im s byte, differ_self (block im 0), further_self im, ap (λ (q : (Option ℕ) × List ℕ). q.1) z, p, ap (λ (q : (Option ℕ) × List ℕ). q.0) z)

  module _ (may : Bool) where
    abbrev rule : Answer
    rule = where_open may (room_for bytes (length out))

    abbrev left : After
    left = call_of im ph out stay same (writer (state_of im) ph may next bytes (length out))

    writer_settles : settle_of (admitted_on im ph rule) ph im out done ≡ left
    unfolding writer
    writer_settles = sym (call_is im ph out stay same rule (stepped Answer.Done (state_of im) next bytes) refl)

    module _ {r : Answer} (e : r ≡ admitted_on im ph Answer.Done) where
      writer_refused : {x : Outcome} → is_done r ≡ false → x ≡ refusal r ph → after_with x im out ≡ left
      writer_refused n p = call_refused im ph e out rule done n p ∙ writer_settles

      writer_barred : {x : Outcome} → is_done r ≡ true → may ≡ false → x ≡ refusal Answer.WrongPhase ph → after_with x im out ≡ left
      unfolding effect_of
      writer_barred t f p = call_own im ph e out rule done t (rw f (own_refused Answer.WrongPhase ph im out done refl p)) ∙ writer_settles

      writer-wrote : {x : Outcome} {w : Option ℕ} {out' : List ℕ} → Bytes im → is_done r ≡ true → may ≡ true → (w, out') ≡ written_of out bytes
          → x ≡ written_as w ph next → after_with x im out' ≡ left
      writer-wrote byte t f q p =
          call_own im ph e out rule done t (rw f (wrote_by (admitted-sound (admit_passed im ph e t)) byte q p)) ∙ writer_settles

-- ---- Open: the premises are what the callees ensure, and the tests
module _ (im : List ℕ) (ph : Phase) (id : MessageId) (o : OwnParameters) (t : Proposal) (out : List ℕ) {r : Answer} (e : r ≡ admitted_on im ph Answer.Done) where
  pub open_refused : {x : Outcome} → is_done r ≡ false → x ≡ refusal r ph → after_with x im out ≡ open_of im ph id o t out
  unfolding open_of open_session
  open_refused n p = writer_refused im ph (awaiting t) out (open_bytes (state_of im) id o t) (may_open ph) e n p

  pub open_barred : {x : Outcome} → is_done r ≡ true → may_open ph ≡ false → x ≡ refusal Answer.WrongPhase ph → after_with x im out ≡ open_of im ph id o t out
  unfolding open_of open_session
  open_barred d f p = writer_barred im ph (awaiting t) out (open_bytes (state_of im) id o t) (may_open ph) e d f p

  pub open_wrote : {x : Outcome} {s : Timeout} {n : ℕ} {h : Header} {ack : Option FtNumber} {w : Option ℕ} {out' : List ℕ} → Bytes im → is_done r ≡ true → may_open ph ≡ true
      → s ≡ proposed_of t → n ≡ millis_of s → h ≡ (decode im).header → ack ≡ kept_ack (state_of_numbers h) → (w, out') ≡ written_of out (init_bytes id o s ack)
      → x ≡ written_as w ph (waiting_for n) → after_with x im out' ≡ open_of im ph id o t out
  unfolding open_of open_session kept_ack
  open_wrote byte d f es en eh ea q p =
      writer-wrote im ph (awaiting t) out (open_bytes (state_of im) id o t) (may_open ph) e byte d f
      (q ∙ ap₂ (λ (u : Timeout) (k : Option FtNumber). written_of out (init_bytes id o u k)) es (ea ∙ ap (λ (g : Header). kept_ack (state_of_numbers g)) eh)) (rw (en, es) at p)

-- ---- KeepAlive
module _ (im : List ℕ) (ph : Phase) (id : MessageId) (out : List ℕ) {r : Answer} (e : r ≡ admitted_on im ph Answer.Done) where
  pub alive_refused : {x : Outcome} → is_done r ≡ false → x ≡ refusal r ph → after_with x im out ≡ keepalive_of im ph id out
  unfolding keepalive_of keepalive
  alive_refused n p = writer_refused im ph ph out (alive_bytes (state_of im) ph id) (is_up ph) e n p

  pub alive_barred : {x : Outcome} → is_done r ≡ true → is_up ph ≡ false → x ≡ refusal Answer.WrongPhase ph → after_with x im out ≡ keepalive_of im ph id out
  unfolding keepalive_of keepalive
  alive_barred d f p = writer_barred im ph ph out (alive_bytes (state_of im) ph id) (is_up ph) e d f p

  pub alive-wrote : {x : Outcome} {h : Header} {ack : Option FtNumber} {w : Option ℕ} {out' : List ℕ} → Bytes im → is_done r ≡ true → is_up ph ≡ true
      → h ≡ (decode im).header → ack ≡ alive_ack ph h.secured → (w, out') ≡ written_of out (keepalive_bytes id ack) → x ≡ written_as w ph ph
      → after_with x im out' ≡ keepalive_of im ph id out
  unfolding keepalive_of keepalive
  alive-wrote byte d f eh ea q p = writer-wrote im ph ph out (alive_bytes (state_of im) ph id) (is_up ph) e byte d f (rw (ea, eh) at q) p
