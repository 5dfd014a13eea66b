-- What a call at an end that has begun leaves of what persists, as long as the state is kept. Assumes nothing.
use Rattle.std.specs.Prelude.{Some}
use Prim.Native.Nat.{ℕ, ◌≤◌}
use mathlib.Core.Bool.{Bool, false, true, true≢false}
use mathlib.Core.List.{◌++◌, List, []}
use mathlib.Core.Path.{◌≡◌, refl, sym}
use lib.Dec.{ltb}
use lib.ListN.{length, take}
use Rattle.octets.specs.Pick.{pick}
use Rattle.octets.proofs.Choice.{pick_all}
use Rattle.ft_number.specs.declared.MessageId.{MessageId}
use Rattle.ft_number.specs.declared.Proposal.{Proposal}
use Rattle.message.specs.declared.Message.{Message}
use Rattle.message.specs.Reading.{reading_of}
use Rattle.message_writer.specs.declared.OwnParameters.{OwnParameters}
use Rattle.protocol.specs.declared.Answer.{Answer}
use Rattle.protocol.specs.declared.Phase.{Phase}
use Rattle.protocol.specs.Acked.{acked}
use Rattle.protocol.specs.Answers.{is_done}
use Rattle.protocol.specs.ConnectionFailed.{connection_failed}
use Rattle.protocol.specs.KeepAlive.{alive_bytes, keepalive}
use Rattle.protocol.specs.Open.{open_bytes, open_session, awaiting}
use Rattle.protocol.specs.Phases.{is_up, issued_count, may_open, sent_of, up_with}
use Rattle.protocol.specs.Receive.{taken, ack_on, ft_rule, receive, received_phase, received_state, left_before}
use Rattle.protocol.specs.Send.{numbered, queue_number, send_next, sent_state, send_rule, send_room, send_deed, place_sent}
use Rattle.protocol.specs.State.{State, with_issued}
use Rattle.protocol.specs.Step.{Step, settle, admitted, stepped_past}
use Rattle.protocol.specs.Submit.{submit, submit_rule}
use Rattle.protocol.specs.TimePassed.{expired, time_passed}
use Rattle.protocol.specs.Writer.{writer}
use Rattle.protocol.proofs.Effects.{done_is}
use Rattle.protocol.proofs.Leaving.{settle-cases, settle-leaves}
use Rattle.protocol.proofs.Settling.{admitted-done}
use Rattle.protocol.proofs.SubmitCases.{done_last}
use Rattle.two_ends.specs.Calls.{accepts, let_go, securing, takes, leaves_out}
use Rattle.two_ends.specs.LeftOut.{is_left}
use Rattle.two_ends.specs.World.{History}
use Rattle.two_ends.proofs.Delivering.{let_go_is}
use Rattle.two_ends.proofs.NoRequests.{accepted_in, no_requests}
use Rattle.two_ends.proofs.Persisting.{PersistsWhere, TakenIn}

-- what Submit answered with Done the state takes
taken_in : (s : State) (ph : Phase) (m : List ℕ) → is_done (admitted s ph (submit_rule s ph m)) ≡ true → TakenIn s m
taken_in s ph m d =
    let last = (done_last s ph m (done_is (submit_rule s ph m) (admitted-done s ph (submit_rule s ph m) d))).0 in
    record { kind = last.kind; label = last.label; accepted = last.unbarred.accepted; taken = last.taken }

never : {P : Type 0} → false ≡ true → P
never e = absurd (true≢false (sym e))

module _ {May : State → List ℕ → Type 0} {R : State → History → State → History → Type 0} (c : PersistsWhere May R) (now : State) (ph : Phase) (h : History) {t : State} {k : History} (l : R now h t k) where
  abbrev Leaves : State → Type 0
  Leaves s = s.kept ≡ true → R s h t k

  settled : (a : Answer) (d : Step) → (is_done a ≡ true → Leaves d.state) → Leaves (settle a now ph d).state
  settled a d does = settle-leaves Leaves a now ph d (λ e. l) (λ e. c.ended l) never does

  written : (may : Bool) (next : Phase) (bytes : List ℕ) (room : ℕ) → Leaves (writer now ph may next bytes room).state
  unfolding writer
  written may next bytes room = settled _ _ (λ d e. l)

  pub alive-leaves : (id : MessageId) (room : ℕ) → Leaves (keepalive now ph id room).state
  unfolding keepalive
  alive-leaves id room = written (is_up ph) ph (alive_bytes now ph id) room

  pub open_leaves : (id : MessageId) (p : OwnParameters) (q : Proposal) (room : ℕ) → Leaves (open_session now ph id p q room).state
  unfolding open_session
  open_leaves id p q room = written (may_open ph) (awaiting q) (open_bytes now id p q) room

  pub notice_leaves : Leaves (connection_failed now ph).state
  unfolding connection_failed
  notice_leaves = settled _ _ (λ d e. c.ended l)

  pub time_leaves : (elapsed : ℕ) → Leaves (time_passed now ph elapsed).state
  unfolding time_passed
  time_leaves elapsed = settled _ _ (λ d. pick_all (λ (x : Step). Leaves x.state) (expired now elapsed) never (λ e. l))

  -- ---- a call that counts in the history where it is done
  abbrev Counts : (Step → History) → Step → Type 0
  Counts f x = x.state.kept ≡ true → R x.state (pick (is_done x.answer) (f x) h) t k

  counted : (f : Step → History) (a : Answer) (d : Step) → (is_done a ≡ true → Counts f d) → Counts f (settle a now ph d)
  counted f a d does = settle-cases (Counts f) a now ph d (λ n e. rw n l) (λ n e. rw n (c.ended l)) (λ n r e. never e) does

  pub submit-leaves : (m : List ℕ) (o : List (List ℕ)) → accepted_in h ≡ k.secured ++ o → is_left h.left (length h.accepted) ≡ false → May now m → Counts (λ x. accepts m h) (submit now ph m)
  unfolding submit
  submit-leaves m o e n may = counted (λ x. accepts m h) _ _ (λ d kept. c.accepted l m o e n (taken_in now ph m d) may)

  -- what a Send leaves out are Requests: of what the peer has not secured, o before and p after, the rest is the same
  pub send-leaves : (ask : Bool) (room : ℕ)
      → (is_done (admitted now ph (send_rule now ph (send_room now ph ask room))) ≡ true
      → (o : List (List ℕ)) × (p : List (List ℕ)) × (accepted_in h ≡ k.secured ++ o) × (accepted_in (leaves_out (sent_of ph) (send_deed now ph ask) h) ≡ k.secured ++ p) × (no_requests o ≡ no_requests p))
      → Counts (λ x. leaves_out (sent_of ph) x h) (send_next now ph ask room)
  unfolding send_next sent_state numbered
  send-leaves ask room out =
      counted (λ x. leaves_out (sent_of ph) x h) (admitted now ph (send_rule now ph (send_room now ph ask room))) (send_deed now ph ask) (λ d kept.
      let q = out d in
      let place = place_sent now ph in
      pick_all (λ (s : State). R s (leaves_out (sent_of ph) (send_deed now ph ask) h) t k) (ltb place (issued_count now))
      (c.marked l _ q.0 q.1 q.2 q.3 q.4)
      (c.same (c.marked l _ q.0 q.1 q.2 q.3 q.4) (with_issued now (queue_number now place)) refl refl refl))

-- ---- a message is delivered in UpFT
module _ {May : State → List ℕ → Type 0} {R : State → History → State → History → Type 0} (c : PersistsWhere May R) (now : State) (re : Bool) (sent : ℕ) (h : History) {t : State} {k : History} (l : R now h t k) where
  abbrev up : Phase
  up = up_with re sent

  -- the history after the message m
  abbrev heard : List ℕ → Step → History
  heard m x = takes (let_go now x) (securing m) h

  abbrev Takes : List ℕ → Type 0
  Takes m = Counts c now up h l (heard m) (receive now up m)

  abbrev does : Message → Step
  does g = stepped_past (left_before now up g) Answer.Done (received_state now g) (received_phase now up g) []

  -- one that is taken: its ACK lets the oldest j go
  module _ (m : List ℕ) (g : Message) (read : reading_of m ≡ Some g) (j : ℕ) (acks : ack_on now g ≡ Some j) (few : j ≤ length now.queue)
      (got : List (List ℕ)) (secures : securing m ≡ got) where
    is : receive now up m ≡ settle (admitted now up (ft_rule now re g)) now up (does g)
    unfolding receive
    is = rw read

    gone : let_go now (does g) ≡ take j now.queue
    unfolding received_state taken acked
    gone = let_go_is now (does g) j few (rw acks)

    pub taking : (ft_rule now re g ≡ Answer.Done → R (received_state now g) (takes (take j now.queue) got h) t k) → Takes m
    taking right =
        rw is
        (counted c now up h l (heard m) (admitted now up (ft_rule now re g)) (does g) (λ t kept.
        rw (gone, secures) (right (done_is (ft_rule now re g) (admitted-done now up (ft_rule now re g) t)))))
