-- The agreed timeout changes only where an Init is taken, which makes it the lesser of both, or the state is released; Restore and Open leave it. Assumes nothing.
use Rattle.std.specs.Prelude.{unwrap_or, Option, Some, None, Result, Ok, Err}
use Prim.Native.Nat.{ℕ}
use mathlib.Core.Bool.{Bool, not}
use mathlib.Core.List.{List}
use mathlib.Core.Logic.{⊎_elim}
use mathlib.Core.Path.{ap, sym, ◌∙◌, ◌≡◌, refl}
use lib.Dec.{ltb}
use Rattle.octets.proofs.Choice.{cleared, no, pick_all}
use Rattle.ft_number.specs.declared.Form.{Form}
use Rattle.ft_number.specs.declared.MessageId.{MessageId}
use Rattle.ft_number.specs.declared.Proposal.{Proposal}
use Rattle.ft_number.specs.declared.Timeout.{Timeout}
use Rattle.ft_number.specs.Timeout.{lesser_of, proposed_of, millis_of}
use Rattle.ft_number.proofs.Timeouts.{lesser_commutes}
use Rattle.tlv.specs.declared.Session.{Session}
use Rattle.message.specs.declared.Message.{Message}
use Rattle.message.specs.Reading.{reading_of}
use Rattle.message_writer.specs.declared.OwnParameters.{OwnParameters}
use Rattle.message_writer.specs.ReadBack.{InitFits}
use Rattle.message_writer.proofs.Own.{init_reads}
use Rattle.protocol.specs.declared.Answer.{Answer}
use Rattle.protocol.specs.declared.Phase.{Phase}
use Rattle.protocol.specs.declared.Start.{Start}
use Rattle.protocol.specs.declared.Terms.{Terms}
use Rattle.protocol.specs.Acked.{acked}
use Rattle.protocol.specs.Begin.{restore}
use Rattle.protocol.specs.Calls.{Call, formats, restores, fails, opens, greets, passes, submits, sends, keeps-alive, receives, step}
use Rattle.protocol.specs.Init.{init_start, init_received, fresh, resumed, start_answer, start_state}
use Rattle.protocol.specs.InitCases.{StartCase, another_type, without-parameters, without_ack, without_session, peer_clear, ours_clear, parameters-changed, sequence_error, resumes}
use Rattle.protocol.specs.Judged.{done}
use Rattle.protocol.specs.MeaningInit.{Agreed, BearsTerms}
use Rattle.protocol.specs.MeaningTimeout.{TakenInit, TimeoutFrom, stays, released, agreed}
use Rattle.protocol.specs.Open.{open_bytes, open_session, awaiting, kept_ack}
use Rattle.protocol.specs.Phases.{awaits, is_up_ft, issued_count, may_open, phase_fits, proposal_of}
use Rattle.protocol.specs.Receive.{received_state, taken, taken_as}
use Rattle.protocol.specs.Send.{numbered, sent_state, place_sent}
use Rattle.protocol.specs.State.{State}
use Rattle.protocol.specs.Step.{Step, admitted, where_open}
use Rattle.protocol.specs.Submit.{submitted}
use Rattle.protocol.specs.TimePassed.{expired}
use Rattle.protocol.proofs.Answered.{init-does, init_says}
use Rattle.protocol.proofs.InitCases.{start-cases}
use Rattle.protocol.proofs.MeaningInit.{start-agreed}
use Rattle.protocol.proofs.Quiet.{Quiet}
use Rattle.protocol.proofs.Settles.{ends}
use Rattle.protocol.proofs.Writers.{Wrote, writer_says}

module _ (s : State) (ph : Phase) where
  -- ---- what a call does where it is done
  -- an Init that is taken
  init_timeout : (m : List ℕ) → TimeoutFrom s ph (greets m) (done (greets m) s ph)
  unfolding done fresh resumed acked
  init_timeout m = by (init_start s ph m) refl
    where
      taken-init : (t : Terms) (st : Result Start Answer) → init_start s ph m ≡ st → BearsTerms st t → (start_state s st).terms.timeout ≡ t.timeout → TakenInit ph m (done (greets m) s ph)
      taken-init t st e bears same =
          let a : Agreed (proposal_of ph) (reading_of m) t = start-agreed s (proposal_of ph) (reading_of m) t (rw e bears) in
          record {
            answer = refl;
            message = a.message;
            reconnect = a.reconnect;
            peers = a.peers;
            read = a.read;
            session = a.session;
            timeout = rw e (same ∙ a.timeout);
          }

      by : (st : Result Start Answer) → init_start s ph m ≡ st → TimeoutFrom s ph (greets m) (done (greets m) s ph)
      by (Err a) e = stays {x = done (greets m) s ph} (rw e refl)
      by (Ok Start.Plain) e = released {x = done (greets m) s ph} (rw e refl)
      by (Ok (Start.Fresh t)) e = agreed (taken-init t (Ok (Start.Fresh t)) e refl refl)
      by (Ok (Start.Resumed t k a)) e = agreed (taken-init t (Ok (Start.Resumed t k a)) e refl refl)

  abbrev Same : State → Type 0
  Same t = t.terms.timeout ≡ s.terms.timeout

  receive_timeout : (r : Option Message) → Same (taken_as s ph r).state
  unfolding received_state taken acked
  receive_timeout None = pick_all (λ (x : Step). Same x.state) (is_up_ft ph) refl refl
  receive_timeout (Some g) = pick_all (λ (x : Step). Same x.state) (is_up_ft ph) refl refl

  send_timeout : (sent : ℕ) → Same (sent_state s sent)
  unfolding sent_state numbered
  send_timeout sent = pick_all Same (ltb sent (issued_count s)) refl refl

  done_timeout : (c : Call) → TimeoutFrom s ph c (done c s ph)
  unfolding done submitted
  done_timeout formats = released refl
  done_timeout restores = stays refl
  done_timeout fails = stays refl
  done_timeout (opens id own proposal) = stays refl
  done_timeout (greets m) = init_timeout m
  done_timeout (passes elapsed) = pick_all (TimeoutFrom s ph (passes elapsed)) (expired s elapsed) (released refl) (stays refl)
  done_timeout (submits m) = stays refl
  done_timeout (sends ask) = stays (send_timeout (place_sent s ph))
  done_timeout (keeps-alive id) = stays refl
  done_timeout (receives m) = stays (receive_timeout (reading_of m))

  -- ---- THE THEOREM: of every call, whatever it answers
  pub timeout_from : (c : Call) (room : ℕ) → TimeoutFrom s ph c (step c s ph room)
  timeout_from c room = ends c s ph room (TimeoutFrom s ph c) (λ e. stays refl) (λ e. stays refl) (λ e. released refl) (λ e. done_timeout c)

  -- Restore and Open leave it
  pub restore_timeout : (restore s).state.terms.timeout ≡ s.terms.timeout
  restore_timeout = refl

  pub open_timeout : (id : MessageId) (own : OwnParameters) (proposal : Proposal) (room : ℕ) → (open_session s ph id own proposal room).state.terms.timeout ≡ s.terms.timeout
  unfolding open_session
  open_timeout id own proposal room =
      ⊎_elim
      (λ (w : Wrote s (may_open ph) (awaiting proposal) (open_bytes s id own proposal) (open_session s ph id own proposal room)). ap (λ (x : Step). x.state.terms.timeout) w.is)
      (λ (q : Quiet s ph (open_session s ph id own proposal room)). ap (λ (x : State). x.terms.timeout) q.state)
      (writer_says s ph (may_open ph) (awaiting proposal) (open_bytes s id own proposal) room)

-- ---- an Init that is taken, of the call itself
peers_same : {x : Option Session} {r t : Bool} {k n : Timeout} → x ≡ Some (record { reconnect = r; timeout = k }) → x ≡ Some (record { reconnect = t; timeout = n }) → k ≡ n
peers_same {x} {r} {t} {k} {n} e q = ap (λ (o : Option Session). (unwrap_or o (record { reconnect = r; timeout = k })).timeout) (sym e ∙ q)

case_agrees : {s : State} {p : ℕ} {g : Message} {st : Result Start Answer} {r : Bool} {n : Timeout} → StartCase s p (Some g) st → g.session ≡ Some (record { reconnect = r; timeout = n }) → start_answer st ≡ Answer.Done
    → (start_state s st).terms.timeout ≡ lesser_of p (millis_of n)
unfolding fresh resumed acked
case_agrees (another_type i) e d = no (cc)
case_agrees (without-parameters i q) e d = no (cc)
case_agrees (without_ack i q a) e d = no (cc)
case_agrees (without_session i q) e d = no (cc)
case_agrees {p = p} (peer_clear i q) e d = ap (λ (t : Timeout). lesser_of p (millis_of t)) (peers_same q e)
case_agrees {p = p} (ours_clear i q a k) e d = ap (λ (t : Timeout). lesser_of p (millis_of t)) (peers_same q e)
case_agrees (parameters-changed b q) e d = no (cc)
case_agrees (sequence_error b q a) e d = no (cc)
case_agrees {p = p} (resumes b q a) e d = ap (λ (t : Timeout). lesser_of p (millis_of t)) (peers_same b.session e)

-- an Init with FT Session that is answered Done leaves the lesser of our proposal, which the phase bears, and the peer's, whatever was stored before
pub init_agrees : (s : State) (ph : Phase) (m : List ℕ) {g : Message} {r : Bool} {n : Timeout} → reading_of m ≡ Some g → g.session ≡ Some (record { reconnect = r; timeout = n })
    → (init_received s ph m).answer ≡ Answer.Done → (init_received s ph m).state.terms.timeout ≡ lesser_of (proposal_of ph) (millis_of n)
unfolding admitted
init_agrees s ph m {g} read e d =
    let own : Answer = start_answer (init_start s ph m) in
    let allowed : where_open (awaits ph) own ≡ Answer.Done = (cleared (not (phase_fits ph s)) Answer.WrongPhase (where_open (awaits ph) own) Answer.Done (λ z. cc) (sym (init_says s ph m) ∙ d)).1 in
    let accepted : own ≡ Answer.Done = (cleared (not (awaits ph)) Answer.WrongPhase own Answer.Done (λ z. cc) allowed).1 in
    let start : StartCase s (proposal_of ph) (Some g) (init_start s ph m) = rw (← read) (start-cases s (proposal_of ph) (reading_of m)) in
    rw (init-does s ph m d) (case_agrees start e accepted)

-- an Init of a peer that proposes 5 seconds still makes it 5, in whichever form it says so, where we gave no proposal of our own, whichever form our Init has
pub five-agreed : (s : State) (form : Form) (m : List ℕ) {g : Message} {r : Bool} {n : Timeout} → reading_of m ≡ Some g → g.session ≡ Some (record { reconnect = r; timeout = n }) → millis_of n ≡ 5000
    → (init_received s (awaiting (Proposal.NotGiven form)) m).answer ≡ Answer.Done → (init_received s (awaiting (Proposal.NotGiven form)) m).state.terms.timeout ≡ 5000
unfolding lesser_of
five-agreed s Form.Draft m read e five d = init_agrees s (awaiting (Proposal.NotGiven Form.Draft)) m read e d ∙ rw five
five-agreed s Form.Published m read e five d = init_agrees s (awaiting (Proposal.NotGiven Form.Published)) m read e d ∙ rw five

-- two ends agree on the same time, whichever form each has named: what each makes of the other's Init
pub agree_alike : (s t : State) (id id' : MessageId) (own own' : OwnParameters) (p q : Proposal) → InitFits id own (proposed_of p) (kept_ack s) → InitFits id' own' (proposed_of q) (kept_ack t)
    → (init_received s (awaiting p) (open_bytes t id' own' q)).answer ≡ Answer.Done → (init_received t (awaiting q) (open_bytes s id own p)).answer ≡ Answer.Done
    → (init_received s (awaiting p) (open_bytes t id' own' q)).state.terms.timeout ≡ (init_received t (awaiting q) (open_bytes s id own p)).state.terms.timeout
agree_alike s t id id' own own' p q f f' d e =
    init_agrees s (awaiting p) (open_bytes t id' own' q) (init_reads id' own' (proposed_of q) (kept_ack t) f') refl d
    ∙ lesser_commutes (millis_of (proposed_of p)) (millis_of (proposed_of q))
    ∙ sym (init_agrees t (awaiting q) (open_bytes s id own p) (init_reads id own (proposed_of p) (kept_ack s) f) refl e)
