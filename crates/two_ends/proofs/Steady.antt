-- Steady owners: what holds of both ends and both lines, and every call of an owner. Assumes nothing.
use Prim.Native.Nat.{◌<◌, ℕ}
use mathlib.Core.Bool.{Bool, false, true, true≢false}
use mathlib.Core.List.{[], List, ◌∷◌}
use mathlib.Core.Logic.{◌⊎◌, ⊎_elim}
use mathlib.Core.Path.{◌≡◌, refl, sym, ◌∙◌}
use native.Mathlib.Omega.{arith}
use lib.ListN.{drop}
use Rattle.octets.proofs.Choice.{by_test}
use Rattle.ft_number.specs.declared.MessageId.{MessageId}
use Rattle.ft_number.specs.declared.Proposal.{Proposal}
use Rattle.ft_number.specs.Timeout.{proposed_of}
use Rattle.message_writer.specs.declared.OwnParameters.{OwnParameters}
use Rattle.message_writer.specs.ReadBack.{AckFits}
use Rattle.protocol.specs.declared.Phase.{Phase}
use Rattle.protocol.specs.Answers.{is_done}
use Rattle.protocol.specs.KeepAlive.{alive_ack, alive_bytes, keepalive}
use Rattle.protocol.specs.Open.{kept_ack, open_bytes, open_session, awaiting}
use Rattle.protocol.specs.Phases.{awaits, is_up, is_up_ft, may_open}
use Rattle.protocol.specs.Send.{place_sent, queue_message, queue_number, ack_asked, send_bytes, send_deed, send_room, send_rule, send_next}
use Rattle.protocol.specs.State.{State}
use Rattle.protocol.specs.Step.{Step, admitted}
use Rattle.protocol.specs.Submit.{submit}
use Rattle.protocol.proofs.Leaving.{settle-cases}
use Rattle.protocol.proofs.Moves.{Moves, alive_moves, open_moves, send_moves, submit_moves}
use Rattle.protocol.proofs.Quiet.{Quiet}
use Rattle.protocol.proofs.Sends.{Sendable, sendable}
use Rattle.protocol.proofs.Settling.{admitted-done}
use Rattle.protocol.proofs.Writers.{Wrote, writer_says}
use Rattle.two_ends.specs.Calls.{accepts, disconnected, called, counts, on, opened, plainly, put, offered, wrote, replaced, sent, sent_history}
use Rattle.two_ends.specs.Runs.{Widths, ProposalFits}
use Rattle.two_ends.specs.Steady.{Mild}
use Rattle.two_ends.specs.World.{End, History, Lasts, World}
use Rattle.two_ends.proofs.Acts.{by_open, by_plain, by_submit, by_write}
use Rattle.two_ends.proofs.Begun.{kept_fits}
use Rattle.two_ends.proofs.Direction.{half_secured}
use Rattle.two_ends.proofs.Invariant.{Good, Holds, Waiting}
use Rattle.two_ends.proofs.Opening.{proposed_fits}
use Rattle.two_ends.proofs.Saying.{All, alive_says, all_append, all_at, all_drop, init_says, Says, carried_says}
use Rattle.two_ends.proofs.Sending.{sends_fine}
use Rattle.two_ends.proofs.Worlds.{begun_else, ended, next}

-- ---- an end whose peer's owner has these parameters: they are stored, and no message of the store bears a Status with E set
pub record Knows (o : OwnParameters) (e : End) : Type 0 where
  pub keepalive : e.begun ≡ true → e.state.terms.keepalive ≡ o.keepalive
  pub maxpdu : e.begun ≡ true → e.state.terms.maxpdu ≡ o.pdulength
  pub mild : e.begun ≡ true → All Mild e.state.queue

-- ---- both ends, whose owners have oa and ob, and both lines
pub record Steadies (oa ob : OwnParameters) (w : World) : Type 0 where
  pub a : Knows ob w.a
  pub b : Knows oa w.b
  pub ab : All (Says oa) w.ab
  pub ba : All (Says ob) w.ba

pub broken_steady : (oa ob : OwnParameters) (w : World) → Steadies oa ob w → Steadies oa ob (disconnected w)
broken_steady oa ob w s = record {
  a = record { keepalive = s.a.keepalive; maxpdu = s.a.maxpdu; mild = s.a.mild };
  b = record { keepalive = s.b.keepalive; maxpdu = s.b.maxpdu; mild = s.b.mild };
  ab = tt;
  ba = tt;
}

-- a call leaves the parameters, and of the store what it moves
pub knows_moved : (o : OwnParameters) (e f : End) (gone : ℕ) (news : List (List ℕ)) → f.begun ≡ e.begun → Moves e.state f.state gone news → All Mild news → Knows o e → Knows o f
knows_moved o e f gone news b m new k = record {
  keepalive = λ g. m.keepalive ∙ k.keepalive (sym b ∙ g);
  maxpdu = λ g. m.maxpdu ∙ k.maxpdu (sym b ∙ g);
  mild = λ g. rw m.queue (all_append Mild (drop gone e.state.queue) news (all_drop Mild gone e.state.queue (k.mild (sym b ∙ g))) new);
}

-- ---- what a writer puts on its line
put_says : (o : OwnParameters) (jo : Bool) (line : List (List ℕ)) (x : Step) → All (Says o) line → (is_done x.answer ≡ true → Says o x.output) → All (Says o) (put jo line x)
put_says o true line x a f = by_test (is_done x.answer) (λ t. rw t (all_append (Says o) line (x.output ∷ []) a (f t, tt))) (λ n. rw n a)
put_says o false line x a f = a

wrote_says : (o : OwnParameters) (now : State) (ph : Phase) (may : Bool) (next : Phase) (bytes : List ℕ) (x : Step) → Wrote now may next bytes x ⊎ Quiet now ph x
    → (may ≡ true → Says o bytes) → is_done x.answer ≡ true → Says o x.output
wrote_says o now ph may next bytes x d s t =
    ⊎_elim
    (λ (w : Wrote now may next bytes x). rw w.is (s w.may_write))
    (λ (q : Quiet now ph x). absurd (true≢false (sym t ∙ q.still)))
    d

-- an end that awaits an Init does not write
silent : (ph : Phase) → awaits ph ≡ true → (is_up ph ≡ false) × (may_open ph ≡ false) × (is_up_ft ph ≡ false)
silent Phase.Idle e = absurd (true≢false (sym e))
silent (Phase.InitWait v) e = (refl, refl, refl)
silent (Phase.UpFT u) e = absurd (true≢false (sym e))
silent Phase.UpPlain e = absurd (true≢false (sym e))
silent Phase.Failed e = absurd (true≢false (sym e))

alive_fits : (s : State) → s.secured.0 < 4294967296 → (ph : Phase) → AckFits (alive_ack ph s.secured)
alive_fits s l Phase.Idle = tt
alive_fits s l (Phase.InitWait v) = tt
alive_fits s l (Phase.UpFT u) = omega arith
alive_fits s l Phase.UpPlain = tt
alive_fits s l Phase.Failed = tt

-- what Send next sends is a message of the store, with its number
sent_says : (o : OwnParameters) (now : State) (ph : Phase) (jo bg : Bool) (h : History) (ask : Bool) {b : End} {ab ba : List (List ℕ)} → Sendable now ph → bg ≡ true
    → Holds (ended now ph jo bg h) b ab ba → All Mild now.queue → Says o (send_bytes now (place_sent now ph) ask)
unfolding send_bytes place_sent
sent_says o now Phase.Idle jo bg h ask d g s mild = absurd (true≢false (sym d.up))
sent_says o now (Phase.InitWait v) jo bg h ask d g s mild = absurd (true≢false (sym d.up))
sent_says o now (Phase.UpFT u) jo true h ask d g s mild =
    let place = place_sent now (Phase.UpFT u) in
    let f = sends_fine now u.resumed u.sent h ask d.place s.2 in
    carried_says o (queue_message now place) f.0.storable (all_at Mild place now.queue d.place mild) (queue_number now place) (ack_asked ask now) f.1 f.2
sent_says o now (Phase.UpFT u) jo false h ask d g s mild = absurd (true≢false (sym g))
sent_says o now Phase.UpPlain jo bg h ask d g s mild = absurd (true≢false (sym d.up))
sent_says o now Phase.Failed jo bg h ask d g s mild = absurd (true≢false (sym d.up))

-- ---- every call of an owner
module _ (oa ob : OwnParameters) (w : World) (g : Good w) (k : Lasts w) (s : Steadies oa ob w) where
  abbrev now : State
  now = w.a.state

  abbrev ph : Phase
  ph = w.a.phase

  -- an end that writes has begun
  begun_by : {p : Bool} → p ≡ true → (awaits ph ≡ true → p ≡ false) → w.a.begun ≡ true
  begun_by t n = begun_else (g k).2.own (λ (v : Waiting w.a). true≢false (sym t ∙ n v.waits))

  small : w.a.begun ≡ true → now.secured.0 < 4294967296
  small b = let l = half_secured (g k).2.back.half in omega (arith, rw b at l)

  by_next : (e : End) (ab : List (List ℕ)) → Knows ob e → All (Says oa) ab → Steadies oa ob (next w e ab w.ba)
  by_next e ab a l = record { a = a; b = s.b; ab = l; ba = s.ba }

  knows : (x : Step) (h : History) → Moves now x.state 0 [] → Knows ob (called w.a x h)
  knows x h m = knows_moved ob w.a (called w.a x h) 0 [] refl m tt s.a

  pub plain_steady : (x : Step) → Moves now x.state 0 [] → Steadies oa ob (plainly w x)
  plain_steady x m = by_plain (Steadies oa ob) (broken_steady oa ob) w x (by_next (called w.a x w.a.history) w.ab (knows x w.a.history m) s.ab)

  write_steady : (x : Step) (h : History) → Moves now x.state 0 [] → (is_done x.answer ≡ true → Says oa x.output)
      → Steadies oa ob (replaced w (called w.a x h) (put w.a.joined w.ab x) w.ba)
  write_steady x h m f =
      by_write (Steadies oa ob) (broken_steady oa ob) w x h
      (by_next (called w.a x h) (put w.a.joined w.ab x) (knows x h m) (put_says oa w.a.joined w.ab x s.ab f))

  pub submit_steady : (m : List ℕ) → Mild m → Steadies oa ob (offered w m (submit now ph m))
  submit_steady m mild =
      let x = submit now ph m in
      let e = called w.a x (counts w.a x (accepts m w.a.history)) in
      by_submit (Steadies oa ob) (broken_steady oa ob) w m x
      (by_next e w.ab
      (⊎_elim
      (λ (v : Moves now x.state 0 []). knows_moved ob w.a e 0 [] refl v tt s.a)
      (λ (v : Moves now x.state 0 (m ∷ [])). knows_moved ob w.a e 0 (m ∷ []) refl v (mild, tt) s.a)
      (submit_moves now ph m))
      s.ab)

  pub alive_steady : (id : MessageId) (room : ℕ) → id.0 < 4294967296 → Steadies oa ob (wrote w (keepalive now ph id room))
  unfolding keepalive
  alive_steady id room fits =
      write_steady (keepalive now ph id room) w.a.history (alive_moves now ph id room)
      (wrote_says oa now ph (is_up ph) ph (alive_bytes now ph id) (keepalive now ph id room) (writer_says now ph (is_up ph) ph (alive_bytes now ph id) room)
      (λ t. alive_says oa id (alive_ack ph now.secured) (omega arith) (alive_fits now (small (begun_by t (λ q. (silent ph q).0))) ph)))

  pub send_steady : (ask : Bool) (room : ℕ) → Steadies oa ob (sent w (send_next now ph ask room))
  unfolding send_next
  send_steady ask room =
      let rule = send_rule now ph (send_room now ph ask room) in
      write_steady (send_next now ph ask room) (sent_history w.a (send_next now ph ask room)) (send_moves now ph ask room)
      (settle-cases (λ (x : Step). is_done x.answer ≡ true → Says oa x.output) (admitted now ph rule) now ph (send_deed now ph ask)
      (λ n t. absurd (true≢false (sym t ∙ n))) (λ n t. absurd (true≢false (sym t ∙ n))) (λ n e t. absurd (true≢false (sym t ∙ n)))
      (λ t u.
      let d = sendable now ph (send_room now ph ask room) (admitted-done now ph rule t) in
      let b = begun_by d.up (λ q. (silent ph q).2) in
      sent_says oa now ph w.a.joined w.a.begun w.a.history ask d b (g k) (s.a.mild b)))

  pub open_steady : (id : MessageId) (p : OwnParameters) (t : Proposal) (room : ℕ) → Widths id p → ProposalFits t → p.keepalive ≡ oa.keepalive → p.pdulength ≡ oa.pdulength
      → Steadies oa ob (opened w (open_session now ph id p t room))
  unfolding open_session
  open_steady id p t room widths fits ek el =
      let x = open_session now ph id p t room in
      let bytes = open_bytes now id p t in
      let m = open_moves now ph id p t room in
      let said = wrote_says oa now ph (may_open ph) (awaiting t) bytes x (writer_says now ph (may_open ph) (awaiting t) bytes room) (λ q.
      init_says oa id p (proposed_of t) (kept_ack now)
      (record {
        id = omega (arith, widths.id);
        keepalive = omega (arith, widths.keepalive);
        pdulength = omega (arith, widths.pdulength);
        timeout = proposed_fits t fits;
        ack = kept_fits now (small (begun_by q (λ r. (silent ph r).1)));
      }) ek el) in
      by_open (Steadies oa ob) (broken_steady oa ob) w x
      (by_next (on (called w.a x w.a.history)) (put true w.ab x) (knows_moved ob w.a (on (called w.a x w.a.history)) 0 [] refl m tt s.a) (put_says oa true w.ab x s.ab said))
      (by_next (called w.a x w.a.history) w.ab (knows x w.a.history m) s.ab)
