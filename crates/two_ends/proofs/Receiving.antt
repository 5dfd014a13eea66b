-- A message in UpFT is delivered. Assumes nothing.
use Rattle.std.specs.Prelude.{Some}
use Prim.Native.Nat.{ℕ, ◌-◌, ◌≤◌}
use mathlib.Core.Bool.{true, true≢false, Bool}
use mathlib.Core.List.{List, [], ◌∷◌, map}
use mathlib.Core.Logic.{inl}
use mathlib.Core.Path.{◌≡◌, refl, ap, ◌∙◌, sym}
use native.Mathlib.Omega.{arith}
use lib.ListN.{take, drop, length, length-drop}
use borrow.Author.Tests.{le-leb}
use Rattle.ft_number.specs.Circle.{steps_of}
use Rattle.message.specs.declared.Message.{Message}
use Rattle.message.specs.Reading.{reading_of}
use Rattle.protocol.specs.declared.Answer.{Answer}
use Rattle.protocol.specs.declared.Phase.{Phase}
use Rattle.protocol.specs.Acked.{ack_borne, acked}
use Rattle.protocol.specs.Answers.{answer_number}
use Rattle.protocol.specs.Cases.{Case}
use Rattle.protocol.specs.Phases.{phase_fits, issued_count, count_of, up_with}
use Rattle.protocol.specs.Receive.{ack_on, taken, received_state, receive, ft_rule, received_phase, left_before}
use Rattle.protocol.specs.State.{State}
use Rattle.protocol.specs.Step.{Step, released_with, settle, stepped_past}
use Rattle.protocol.proofs.Cases.{cases}
use Rattle.protocol.proofs.Settling.{answered-failed, answered-released, admitted_is, settle-does, settle_answer}
use Rattle.two_ends.specs.Calls.{keeps, took, takes, securing}
use Rattle.two_ends.specs.World.{History, End}
use Rattle.two_ends.proofs.Books.{window}
use Rattle.two_ends.proofs.Delivering.{let_go_is}
use Rattle.two_ends.proofs.Failing.{failing_on}
use Rattle.two_ends.proofs.Freeing.{Freed}
use Rattle.two_ends.proofs.Half.{Rcv, Half}
use Rattle.two_ends.proofs.Invariant.{side_of, snd_of, rcv_of, Ready, Inv, Dir}
use Rattle.two_ends.proofs.Packets.{Packet, bytes_of, datas, acks_of}
use Rattle.two_ends.proofs.Resting.{released_ends}
use Rattle.two_ends.proofs.Sides.{side}
use Rattle.two_ends.proofs.Takes.{dir_took}
use Rattle.two_ends.proofs.Worlds.{ended, Settled, kept_one}

-- an end that is up and keeps its state is in a phase that the state allows
pub fits_up : (now : State) (h : History) (re : Bool) (sent : ℕ) {up jo new : Bool} {y : Rcv (List ℕ)} {dat : List (ℕ × List ℕ)} {acks : List ℕ} → now.kept ≡ true
    → Half (snd_of now h) sent up jo new y dat acks → phase_fits (up_with re sent) now ≡ true
unfolding phase_fits issued_count
fits_up now h re sent kept p =
    let w : count_of (steps_of now.released.0 now.issued.0) ≡ p.i - p.r = window p.books in
    rw (kept, w) (le-leb sent (p.i - p.r) (omega (arith, p.sent_i)))

module _ (now : State) (re : Bool) (sent : ℕ) (m : List ℕ) (g : Message) (read : reading_of m ≡ Some g) where
  abbrev ph : Phase
  ph = up_with re sent

  abbrev x : Step
  x = receive now ph m

  abbrev rule : Answer
  rule = ft_rule now re g

  abbrev does : Step
  does = stepped_past (left_before now ph g) Answer.Done (received_state now g) (received_phase now ph g) []

  -- ---- what the call leaves
  pub judged : Case now ph (Some g) rule
  judged = cases now ph (Some g)

  module _ (h : History) {b : End} {ab ba : List (List ℕ)} {pa : List Packet} {q : Packet} {qs : List Packet}
      (i : Inv (ended now ph true true h) b ab ba pa (q ∷ qs)) where
    is : x ≡ settle rule now ph does
    unfolding receive
    is = rw (admitted_is now ph (fits_up now h re sent (kept_one i.own) i.out.half), read)

    -- it answers what the rule says
    pub rule_answers : x.answer ≡ rule
    rule_answers = ap (λ (z : Step). z.answer) is ∙ settle_answer rule now ph does refl

    -- as connection failed
    pub takes_none : rule ≡ Answer.NoWordForMapping → Settled (took (ended now ph true true h) m x) b ab (map bytes_of qs)
    takes_none e =
        rw (is, e, answered-failed Answer.NoWordForMapping now ph does (omega arith) (omega arith)) (failing_on now ph true h (pa, q ∷ qs, i) ab (map bytes_of qs))

    -- released
    pub takes_end : (a : Answer) → rule ≡ a → 30 ≤ answer_number a → keeps (took (ended now ph true true h) m x) ≡ true
        → Settled (took (ended now ph true true h) m x) b ab (map bytes_of qs)
    takes_end a e l k =
        let r : x ≡ released_with a = is ∙ ap (λ (z : Answer). settle z now ph does) e ∙ answered-released a now ph does l in
        released_ends Phase.Idle true true h refl (ap (λ (z : Step). z.state.kept) (sym r) ∙ k)

    -- taken
    module _ (j : ℕ) (acks : ack_on now g ≡ Some j)
        (f : Freed (snd_of now h) sent re (rcv_of (side_of b).state b.history) (datas pa) (acks_of qs) (ack_borne now g.ack) j) where
      abbrev s : State
      s = received_state now g

      received_queue : s.queue ≡ drop j now.queue
      unfolding received_state taken acked
      received_queue = rw acks

      received_kept : s.kept ≡ now.kept
      unfolding received_state taken acked
      received_kept = refl

      pub takes_it : (got : List (List ℕ)) → securing m ≡ got → rule ≡ Answer.Done
          → Dir (side_of b) (side s s.kept (up_with re (sent - j)) true true (takes (take j now.queue) got h)) qs pa
          → Settled (took (ended now ph true true h) m x) b ab (map bytes_of qs)
      takes_it got secured e back =
          let d : x ≡ does = is ∙ ap (λ (z : Answer). settle z now ph does) e ∙ settle-does Answer.Done now ph does refl in
          let gone = let_go_is now does j f.few received_queue in
          let own : Ready (ended s (up_with re (sent - j)) true true (takes (take j now.queue) got h)) = record {
            few = omega (arith, ap length received_queue, length-drop j now.queue, i.own.few);
            possible = refl;
            keeping = received_kept ∙ i.own.keeping;
            okays = i.own.okays;
            waiting = λ z. absurd (true≢false z);
            linked = λ z. refl;
          } in
          rw (d, acks, gone, secured)
          (inl (
            refl,
            (
              pa,
              qs,
              record {
                line_a = i.line_a;
                line_b = refl;
                own = own;
                peer = i.peer;
                out = dir_took now re sent h g j acks got qs f i.out;
                back = back;
                agree = i.agree;
              },
            ),
          ))
