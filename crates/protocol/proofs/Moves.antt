-- What a call leaves of kept, of the peer's two parameters and of the store. Assumes nothing.
use Rattle.std.specs.Prelude.{Option, Some, None}
use Prim.Native.Nat.{◌≤◌, ℕ}
use mathlib.Core.Bool.{Bool, false, true, true≢false}
use mathlib.Core.List.{[], ◌++◌, List, append-nil, ◌∷◌}
use mathlib.Core.Logic.{inl, inr, ◌⊎◌}
use mathlib.Core.Path.{◌≡◌, refl, sym}
use lib.Dec.{ltb}
use lib.ListN.{drop}
use Rattle.octets.proofs.Choice.{by_test, pick_all}
use Rattle.ft_number.specs.declared.MessageId.{MessageId}
use Rattle.ft_number.specs.declared.Proposal.{Proposal}
use Rattle.message.specs.declared.Message.{Message}
use Rattle.message.specs.Reading.{reading_of}
use Rattle.message_writer.specs.declared.OwnParameters.{OwnParameters}
use Rattle.protocol.specs.declared.Answer.{Answer}
use Rattle.protocol.specs.declared.Phase.{Phase}
use Rattle.protocol.specs.Acked.{acked}
use Rattle.protocol.specs.Answers.{answer_number, is_done}
use Rattle.protocol.specs.Begin.{restore}
use Rattle.protocol.specs.ConnectionFailed.{connection_failed}
use Rattle.protocol.specs.KeepAlive.{alive_bytes, keepalive}
use Rattle.protocol.specs.Open.{open_bytes, open_session, awaiting}
use Rattle.protocol.specs.Phases.{connected, is_up, issued_count, may_open, waiting}
use Rattle.protocol.specs.Receive.{ack_count, ack_on, receive, received_state, taken_as, taken}
use Rattle.protocol.specs.Send.{numbered, send_bytes, send_next, send_rule, sent_state, place_sent}
use Rattle.protocol.specs.State.{State}
use Rattle.protocol.specs.Step.{Step, admitted, broken, room_for, settle, stepped, where_open}
use Rattle.protocol.specs.Submit.{submit, submit_rule, submitted}
use Rattle.protocol.specs.TimePassed.{expired, time_passed}
use Rattle.protocol.specs.Writer.{writer}
use Rattle.protocol.proofs.Leaving.{release_from, settle-cases}
use Rattle.protocol.proofs.Refusals.{may_harmless, room_harmless, send_harmless}
use Rattle.protocol.proofs.Settling.{Harmless, admitted-done, admitted_harmless, done_harmless, settle-does, settle-refusal}
use Rattle.protocol.proofs.Submits.{submit_harmless}

-- ---- kept and the parameters are as they were; so many of the oldest have left the store, and these messages stand behind the rest
pub record Moves (s t : State) (gone : ℕ) (news : List (List ℕ)) : Type 0 where
  pub kept : t.kept ≡ s.kept
  pub keepalive : t.terms.keepalive ≡ s.terms.keepalive
  pub maxpdu : t.terms.maxpdu ≡ s.terms.maxpdu
  pub queue : t.queue ≡ drop gone s.queue ++ news

stays : (s : State) → Moves s s 0 []
stays s = record { kept = refl; keepalive = refl; maxpdu = refl; queue = sym (append-nil s.queue) }

broken_moves : (s : State) → Moves s (broken s) 0 []
broken_moves s = record { kept = refl; keepalive = refl; maxpdu = refl; queue = sym (append-nil s.queue) }

-- ---- a call whose refusals change nothing
harmless_leaves : (P : State → Type 0) (a : Answer) (s : State) (ph : Phase) (d : Step) → Harmless a → P s → (is_done a ≡ true → P d.state) → P (settle a s ph d).state
harmless_leaves P a s ph d h same does =
    by_test (is_done a)
    (λ t. rw (settle-does a s ph d t) (does t))
    (λ n. rw (settle-refusal a s ph d (h n)) same)

module _ (s : State) (ph : Phase) where
  abbrev Still : State → Type 0
  Still t = Moves s t 0 []

  call_moves : (a : Answer) (d : Step) → Harmless a → (is_done a ≡ true → Still d.state) → Still (settle (admitted s ph a) s ph d).state
  call_moves a d h does = harmless_leaves Still (admitted s ph a) s ph d (admitted_harmless s ph a h) (stays s) (λ t. does (admitted-done s ph a t))

  pub submit_moves : (m : List ℕ) → Moves s (submit s ph m).state 0 [] ⊎ Moves s (submit s ph m).state 0 (m ∷ [])
  unfolding submit submitted
  submit_moves m =
      harmless_leaves (λ (t : State). Moves s t 0 [] ⊎ Moves s t 0 (m ∷ [])) (admitted s ph (submit_rule s ph m)) s ph (stepped Answer.Done (submitted s m) ph [])
      (admitted_harmless s ph (submit_rule s ph m) (submit_harmless s ph m)) (inl (stays s))
      (λ t. inr (record { kept = refl; keepalive = refl; maxpdu = refl; queue = refl }))

  pub send_moves : (ask : Bool) (room : ℕ) → Still (send_next s ph ask room).state
  unfolding send_next sent_state numbered
  send_moves ask room =
      call_moves (send_rule s ph (room_for (send_bytes s (place_sent s ph) ask) room)) _ (send_harmless s ph (send_bytes s (place_sent s ph) ask) room)
      (λ t. pick_all Still (ltb (place_sent s ph) (issued_count s)) (stays s) (record { kept = refl; keepalive = refl; maxpdu = refl; queue = sym (append-nil s.queue) }))

  writer_moves : (may : Bool) (next : Phase) (bytes : List ℕ) (room : ℕ) → Still (writer s ph may next bytes room).state
  unfolding writer
  writer_moves may next bytes room = call_moves _ _ (may_harmless may _ (room_harmless bytes room)) (λ t. stays s)

  pub alive_moves : (id : MessageId) (room : ℕ) → Still (keepalive s ph id room).state
  unfolding keepalive
  alive_moves id room = writer_moves (is_up ph) ph (alive_bytes s ph id) room

  pub open_moves : (id : MessageId) (p : OwnParameters) (q : Proposal) (room : ℕ) → Still (open_session s ph id p q room).state
  unfolding open_session
  open_moves id p q room = writer_moves (may_open ph) (awaiting q) (open_bytes s id p q) room

  pub notice_moves : Still (connection_failed s ph).state
  unfolding connection_failed
  notice_moves = call_moves _ _ (may_harmless (connected ph) Answer.Done done_harmless) (λ t. broken_moves s)

  pub restore_moves : Still (restore s).state
  restore_moves = broken_moves s

  -- only a timeout that has passed in Failed releases
  pub time_moves : (elapsed : ℕ) → (waiting ph ≡ true → expired s elapsed ≡ true → ⊥) → Still (time_passed s ph elapsed).state
  unfolding time_passed
  time_moves elapsed n =
      call_moves _ _ (may_harmless (waiting ph) Answer.Done done_harmless) (λ t.
      by_test (expired s elapsed) (λ e. absurd (n (waits (waiting ph) t) e)) (λ e. rw e (stays s)))
    where
      waits : (b : Bool) → is_done (where_open b Answer.Done) ≡ true → b ≡ true
      waits true d = refl
      waits false d = absurd (true≢false (sym d))

  -- ---- a received message that is answered below 30
  abbrev Frees : State → Type 0
  Frees t = (gone : ℕ) × Moves s t gone []

  taken-frees : (p : Phase) (r : Option Message) → Frees (taken_as s p r).state
  unfolding received_state taken acked
  taken-frees Phase.Idle r = (0, stays s)
  taken-frees (Phase.InitWait v) r = (0, stays s)
  taken-frees (Phase.UpFT u) None = (0, stays s)
  taken-frees (Phase.UpFT u) (Some g) =
      let k = ack_count (ack_on s g) in
      (k, record { kept = refl; keepalive = refl; maxpdu = refl; queue = sym (append-nil (drop k s.queue)) })
  taken-frees Phase.UpPlain r = (0, stays s)
  taken-frees Phase.Failed r = (0, stays s)

  pub receive-frees : (m : List ℕ) → (30 ≤ answer_number (receive s ph m).answer → ⊥) → Frees (receive s ph m).state
  unfolding receive
  receive-frees m =
      settle-cases (λ (x : Step). (30 ≤ answer_number x.answer → ⊥) → Frees x.state) _ s ph (taken_as s ph (reading_of m))
      (λ n low. (0, stays s)) (λ n low. (0, broken_moves s)) (λ n e low. absurd (low (release_from _ e))) (λ t low. taken-frees ph (reading_of m))
