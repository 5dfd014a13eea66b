-- What each call leaves of the queue and of the terms. Assumes nothing.
use Rattle.std.specs.Prelude.{Result, Ok, Err, Option, Some, None}
use Prim.Native.Nat.{ℕ, ◌≤◌}
use mathlib.Core.Bool.{Bool}
use mathlib.Core.List.{List, [], ◌∷◌, ◌++◌}
use mathlib.Core.Logic.{◌⊎◌, inl, inr}
use mathlib.Core.Path.{◌≡◌, refl, sym, ◌∙◌}
use native.Mathlib.Omega.{arith}
use lib.Dec.{ltb}
use lib.ListN.{drop}
use Rattle.octets.proofs.Choice.{pick_all}
use Rattle.ft_number.specs.declared.FtNumber.{FtNumber}
use Rattle.ft_number.specs.declared.MessageId.{MessageId}
use Rattle.ft_number.specs.declared.Proposal.{Proposal}
use Rattle.message.specs.declared.Message.{Message}
use Rattle.message.specs.Reading.{reading_of}
use Rattle.message_writer.specs.declared.OwnParameters.{OwnParameters}
use Rattle.protocol.specs.declared.Answer.{Answer}
use Rattle.protocol.specs.declared.Phase.{Phase}
use Rattle.protocol.specs.declared.Progress.{Progress}
use Rattle.protocol.specs.declared.Start.{Start}
use Rattle.protocol.specs.declared.Terms.{Terms}
use Rattle.protocol.specs.Acked.{ack_borne, acked}
use Rattle.protocol.specs.Begin.{restore}
use Rattle.protocol.specs.Calls.{fails, opens, passes, sends, keeps-alive, step}
use Rattle.protocol.specs.ConnectionFailed.{connection_failed}
use Rattle.protocol.specs.Init.{start_of, fresh, resumed, start_state, init_start, init_received}
use Rattle.protocol.specs.InitCases.{StartCase, unread, another_type, without-parameters, without_ack, without_session, peer_clear, ours_clear, parameters-changed, sequence_error, resumes}
use Rattle.protocol.specs.Judged.{done}
use Rattle.protocol.specs.KeepAlive.{keepalive}
use Rattle.protocol.specs.Lawful.{Window}
use Rattle.protocol.specs.Open.{open_session}
use Rattle.protocol.specs.Phases.{issued_count}
use Rattle.protocol.specs.Receive.{ack_on, ack_count, taken, received_state, receive}
use Rattle.protocol.specs.Send.{numbered, sent_state, send_next, place_sent}
use Rattle.protocol.specs.State.{State, held, released_state}
use Rattle.protocol.specs.Step.{Step, admitted}
use Rattle.protocol.specs.Submit.{submit_rule, submitted, submit}
use Rattle.protocol.specs.TimePassed.{expired, time_passed}
use Rattle.protocol.proofs.Answered.{submit_says, submit-does, init-does, receive-does}
use Rattle.protocol.proofs.Effects.{done_is}
use Rattle.protocol.proofs.Hearing.{unheard}
use Rattle.protocol.proofs.InitCases.{start-cases}
use Rattle.protocol.proofs.KeepingNumbers.{ack_held}
use Rattle.protocol.proofs.Settling.{admitted-done}
use Rattle.protocol.proofs.Submits.{Accepted, done_accepted}

-- ---- Submit: the message is queued as the newest
module _ (s : State) (ph : Phase) (m : List ℕ) (d : (submit s ph m).answer ≡ Answer.Done) where
  pub submit_accepted : Accepted s m
  submit_accepted =
      let e : admitted s ph (submit_rule s ph m) ≡ Answer.Done = sym (submit_says s ph m) ∙ d in
      done_accepted s ph m (done_is (submit_rule s ph m) (admitted-done s ph (submit_rule s ph m) (rw e)))

  pub submit_state : (submit s ph m).state ≡ submitted s m
  submit_state = rw (submit-does s ph m d)

  -- a submission that is Done leaves one more held
  pub submit_queue : (submit s ph m).state.queue ≡ s.queue ++ (m ∷ [])
  unfolding submitted
  submit_queue = rw submit_state

-- ---- the calls that leave the queue and the terms
abbrev pub Stays : State → Step → Type 0
Stays s x = (x.state.queue ≡ s.queue) × (x.state.terms ≡ s.terms)

module _ (s : State) where
  pub sent_stays : (sent : ℕ) → ((sent_state s sent).queue ≡ s.queue) × ((sent_state s sent).terms ≡ s.terms)
  unfolding sent_state numbered
  sent_stays sent = pick_all (λ (x : State). (x.queue ≡ s.queue) × (x.terms ≡ s.terms)) (ltb sent (issued_count s)) {x = s} {y = numbered s sent} (refl, refl) (refl, refl)

  pub restore_stays : Stays s (restore s)
  restore_stays = (refl, refl)

  module _ (ph : Phase) where
    pub send_stays : (ask : Bool) (room : ℕ) → Stays s (send_next s ph ask room)
    unfolding step done
    send_stays ask room = unheard (sends ask) s ph room refl (Stays s) (refl, refl) (λ d. sent_stays (place_sent s ph))

    pub open_stays : (id : MessageId) (own : OwnParameters) (proposal : Proposal) (room : ℕ) → (open_session s ph id own proposal room).state ≡ s
    unfolding step done
    open_stays id own proposal room = unheard (opens id own proposal) s ph room refl (λ (x : Step). x.state ≡ s) refl (λ d. refl)

    pub keepalive_stays : (id : MessageId) (room : ℕ) → (keepalive s ph id room).state ≡ s
    unfolding step done
    keepalive_stays id room = unheard (keeps-alive id) s ph room refl (λ (x : Step). x.state ≡ s) refl (λ d. refl)

    pub failed_stays : Stays s (connection_failed s ph)
    unfolding step done
    failed_stays = unheard fails s ph 0 refl (Stays s) (refl, refl) (λ d. (refl, refl))

    -- time that has passed leaves all, or nothing
    pub passed_stays : (elapsed : ℕ) → ((time_passed s ph elapsed).state ≡ s) ⊎ ((time_passed s ph elapsed).state ≡ released_state)
    unfolding step done
    passed_stays elapsed =
        unheard (passes elapsed) s ph 0 refl (λ (x : Step). (x.state ≡ s) ⊎ (x.state ≡ released_state)) (inl refl) (λ d.
        pick_all (λ (x : Step). (x.state ≡ s) ⊎ (x.state ≡ released_state)) (expired s elapsed) (inr refl) (inl refl))

-- ---- an ACK releases the oldest, no more than are held
pub acked_queue : (s : State) (k a : ℕ) → ((acked s k a).queue ≡ drop k s.queue) × ((acked s k a).terms ≡ s.terms)
unfolding acked
acked_queue s k a = (refl, refl)

pub count_held : (s : State) → Window s → (g : Message) → ack_count (ack_on s g) ≤ held s
unfolding ack_on
count_held s w g = by (ack_on s g) refl
  where
    by : (x : Option ℕ) → ack_on s g ≡ x → ack_count x ≤ held s
    by (Some k) e = ack_held s w (ack_borne s g.ack) k e
    by None e = omega arith

pub received_queue : (s : State) (g : Message) → ((received_state s g).queue ≡ drop (ack_count (ack_on s g)) s.queue) × ((received_state s g).terms ≡ s.terms)
unfolding received_state taken acked
received_queue s g = (refl, refl)

-- Receive in UpFT
module _ (s : State) (u : Progress) (m : List ℕ) (g : Message) (read : reading_of m ≡ Some g) (d : (receive s (Phase.UpFT u) m).answer ≡ Answer.Done) where
  pub receive_state : (receive s (Phase.UpFT u) m).state ≡ received_state s g
  receive_state = rw (receive-does s (Phase.UpFT u) m d, read)

  -- a message that is Done leaves those held less those that its ACK releases
  pub receive_queue : ((receive s (Phase.UpFT u) m).state.queue ≡ drop (ack_count (ack_on s g)) s.queue) × ((receive s (Phase.UpFT u) m).state.terms ≡ s.terms)
  receive_queue = rw receive_state (received_queue s g)

-- ---- an Init, by its start
-- its ACK releases no more than are held
abbrev pub StartWithin : ℕ → Result Start Answer → Type 0
StartWithin n (Err x) = Unit {0}
StartWithin n (Ok Start.Plain) = Unit {0}
StartWithin n (Ok (Start.Fresh t)) = Unit {0}
StartWithin n (Ok (Start.Resumed t k a)) = k ≤ n

case-within : (s : State) → Window s → {p : ℕ} {rd : Option Message} {st : Result Start Answer} → StartCase s p rd st → StartWithin (held s) st
case-within s w unread = tt
case-within s w (another_type i) = tt
case-within s w (without-parameters i q) = tt
case-within s w (without_ack i e q) = tt
case-within s w (without_session i e) = tt
case-within s w (peer_clear i e) = tt
case-within s w (ours_clear i e q k) = tt
case-within s w (parameters-changed b q) = tt
case-within s w (sequence_error b q r) = tt
case-within s w (resumes {k = k} {a = a} b q r) = ack_held s w a.0 k r

pub start-within : (s : State) → Window s → (p : ℕ) (rd : Option Message) → StartWithin (held s) (start_of s p rd)
start-within s w p rd = case-within s w (start-cases s p rd)

module _ (s : State) (ph : Phase) (m : List ℕ) (d : (init_received s ph m).answer ≡ Answer.Done) where
  pub init_state : (init_received s ph m).state ≡ start_state s (init_start s ph m)
  init_state = rw (init-does s ph m d)

  pub plain_queue : init_start s ph m ≡ Ok Start.Plain → (init_received s ph m).state ≡ released_state
  plain_queue e = rw (init_state, e)

  pub fresh_queue : {t : Terms} → init_start s ph m ≡ Ok (Start.Fresh t) → ((init_received s ph m).state.queue ≡ []) × ((init_received s ph m).state.terms ≡ t)
  unfolding fresh
  fresh_queue e = rw (init_state, e) (refl, refl)

  pub resumed_queue : {t : Terms} {k : ℕ} {a : FtNumber} → init_start s ph m ≡ Ok (Start.Resumed t k a) → (init_received s ph m).state.queue ≡ drop k s.queue
  unfolding resumed acked
  resumed_queue e = rw (init_state, e)
