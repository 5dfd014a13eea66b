-- A message is sent. Assumes nothing.
use Prim.Native.Nat.{ℕ, suc, ◌+◌, ◌<◌, ◌^◌, zero}
use mathlib.Core.Bool.{Bool, true, false, true≢false}
use mathlib.Core.List.{List, [], ◌∷◌, ◌++◌}
use mathlib.Core.Logic.{inl}
use mathlib.Core.Path.{◌≡◌, refl, sym, ◌∙◌}
use native.Mathlib.Omega.{arith}
use lib.ListN.{drop}
use lib.Seq.{drop-cons}
use Rattle.octets.proofs.Choice.{by_test}
use Rattle.ft_number.proofs.Circle.{after_small}
use Rattle.message_writer.specs.ReadBack.{AckFits}
use Rattle.protocol.specs.declared.Answer.{Answer}
use Rattle.protocol.specs.declared.Phase.{Phase}
use Rattle.protocol.specs.Answers.{is_done}
use Rattle.protocol.specs.LeftOut.{next_place, left_out_from}
use Rattle.protocol.specs.Phases.{up_with, sent_of}
use Rattle.protocol.specs.Send.{queue_message, queue_number, ack_asked, place_sent, send_bytes, send_deed, send_room, send_rule, sent_state, send_next}
use Rattle.protocol.specs.State.{State, held}
use Rattle.protocol.specs.Step.{stepped_past, Step, admitted}
use Rattle.protocol.proofs.Quiet.{refused_quiet}
use Rattle.protocol.proofs.Refusals.{send_harmless}
use Rattle.protocol.proofs.Sends.{Sendable, sendable, sent_kept, sent_queue}
use Rattle.protocol.proofs.Settling.{settle-does, admitted-done}
use Rattle.two_ends.specs.Calls.{called, leaves_out, put, sent, sent_history}
use Rattle.two_ends.specs.World.{History, End, World}
use Rattle.two_ends.proofs.Direction.{half_secured, half_place}
use Rattle.two_ends.proofs.Invariant.{Ready, Holds, Good, Inv}
use Rattle.two_ends.proofs.Packets.{Packet, carried, Fine, Okay, Okays}
use Rattle.two_ends.proofs.Quiet.{quietly_sent}
use Rattle.two_ends.proofs.Sends.{left_history, dir_send, dir_send-lost, dir_send_peer, dir_send-lost_peer}
use Rattle.two_ends.proofs.Worlds.{ended, ready_open, at-replaced}
use Rattle.two_ends.proofs.Writing.{line-more}

-- ---- a message accepted stands at its place
okay_at : (n : ℕ) (l : List (List ℕ)) (m : List ℕ) (ms : List (List ℕ)) → drop n l ≡ m ∷ ms → Okays l → Okay m
okay_at zero [] m ms e o = absurd (let q : ◌≡◌ {A = ℕ} 0 1 = cc in omega arith)
okay_at zero (x ∷ l) m ms e o = let q : x ≡ m = cc in rw q at o.0
okay_at (suc n) [] m ms e o = absurd (let q : ◌≡◌ {A = ℕ} 0 1 = cc in omega arith)
okay_at (suc n) (x ∷ l) m ms e o = okay_at n l m ms e o.1

ack_fits : (ask : Bool) (s : State) → s.secured.0 < 4294967296 → AckFits (ack_asked ask s)
unfolding ack_asked
ack_fits true s l = omega arith
ack_fits false s l = tt

-- ---- the answer is Done
module _ (now : State) (re : Bool) (sent : ℕ) (h : History) (ask : Bool) (some : next_place now sent < held now) where
  abbrev place : ℕ
  place = next_place now sent

  abbrev m : List ℕ
  m = queue_message now place

  abbrev packet : Packet
  packet = carried m (queue_number now place) (ack_asked ask now)

  abbrev history : History
  history = left_history sent (left_out_from now sent) h

  at_place : drop place now.queue ≡ m ∷ drop (suc place) now.queue
  at_place = drop-cons now.queue place [] some

  ready : (jo : Bool) → Ready (ended now (up_with re sent) jo true h) → Ready (ended (sent_state now place) (up_with re (place + 1)) jo true history)
  ready jo r = record {
    few = rw (sent_queue now place) r.few;
    possible = refl;
    keeping = sent_kept now place ∙ r.keeping;
    okays = r.okays;
    waiting = λ q. absurd (true≢false q);
    linked = λ q. refl;
  }

  number_small : (queue_number now place).0 < 256 ^ 4
  unfolding queue_number
  number_small = omega (arith, after_small place now.released.0)

  -- what is sent has its width, and is a message that was accepted
  pub sends_fine : {jo : Bool} {b : End} {ab ba : List (List ℕ)} {pa pb : List Packet} → Inv (ended now (up_with re sent) jo true h) b ab ba pa pb → Fine packet
  sends_fine i = (
    okay_at (i.out.half.r + place) h.accepted m _ (half_place i.out.half place m (drop (suc place) now.queue) at_place) i.own.okays,
    number_small,
    ack_fits ask now (omega (arith, half_secured i.back.half)),
  )

  abbrev deed : Step
  deed = stepped_past (left_out_from now sent) Answer.Done (sent_state now place) (up_with re (place + 1)) (send_bytes now place ask)

  module _ {b : End} {ab ba : List (List ℕ)} where
    pub sending : (jo : Bool) → Holds (ended now (up_with re sent) jo true h) b ab ba → Holds (ended (sent_state now place) (up_with re (place + 1)) jo true history) b (put jo ab deed) ba
    unfolding send_bytes
    sending true o =
        let i = o.2 in
        let fine = sends_fine i in (
          o.0 ++ (packet ∷ []),
          o.1,
          record {
            line_a = line-more o.0 packet i.line_a;
            line_b = i.line_b;
            own = ready true i.own;
            peer = i.peer;
            out = dir_send now re sent true h m (drop (suc place) now.queue) at_place (ack_asked ask now) fine i.out;
            back = dir_send_peer now re sent true h ask m (queue_number now place) i.back;
            agree = i.agree;
          },
        )
    sending false o =
        let i = o.2 in (
          o.0,
          o.1,
          record {
            line_a = i.line_a;
            line_b = i.line_b;
            own = ready false i.own;
            peer = i.peer;
            out = dir_send-lost now re sent true h m (drop (suc place) now.queue) at_place i.out;
            back = dir_send-lost_peer now re sent true h i.back;
            agree = i.agree;
          },
        )

-- ---- the call
-- an end that sends is up, and has begun
module _ (now : State) (jo : Bool) (h : History) (ask : Bool) {b : End} {ab ba : List (List ℕ)} where
  pub sends_up : (ph : Phase) (bg : Bool) → Sendable now ph → Holds (ended now ph jo bg h) b ab ba
      → (bg ≡ true) × Holds (called (ended now ph jo true h) (send_deed now ph ask) (leaves_out (sent_of ph) (send_deed now ph ask) h)) b (put jo ab (send_deed now ph ask)) ba
  unfolding place_sent
  sends_up Phase.Idle bg d s = absurd (true≢false (sym d.up))
  sends_up (Phase.InitWait v) bg d s = absurd (true≢false (sym d.up))
  sends_up (Phase.UpFT u) true d s = (refl, sending now u.resumed u.sent h ask d.place jo s)
  sends_up (Phase.UpFT u) false d s = absurd (true≢false (sym (s.2.own.waiting refl).waits))
  sends_up Phase.UpPlain bg d s = absurd (true≢false (sym d.up))
  sends_up Phase.Failed bg d s = absurd (true≢false (sym d.up))

pub at_sends : (w : World) (ask : Bool) (room : ℕ) → Good w → Good (sent w (send_next w.a.state w.a.phase ask room))
unfolding send_next
at_sends w ask room g =
    let now = w.a.state in
    let ph = w.a.phase in
    let x = send_next now ph ask room in
    let rule = send_rule now ph (send_room now ph ask room) in
    at-replaced w (called w.a x (sent_history w.a x)) (put w.a.joined w.ab x) w.ba (λ kp k.
    let s = g kp in
    by_test (is_done (admitted now ph rule))
    (λ t.
    let u = sends_up now w.a.joined w.a.history ask ph w.a.begun (sendable now ph _ (admitted-done now ph rule t)) s in
    rw (settle-does (admitted now ph rule) now ph (send_deed now ph ask) t, u.0) (inl (ready_open u.1.2.own, u.1)))
    (λ n. quietly_sent w.a x (refused_quiet rule now ph (send_deed now ph ask) (send_harmless now ph (send_bytes now (place_sent now ph) ask) room) n) s))
