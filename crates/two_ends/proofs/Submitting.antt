-- A message submitted. Assumes nothing.
use Prim.Native.Nat.{ℕ, ◌≤◌}
use mathlib.Core.Bool.{Bool, true, false, true≢false}
use mathlib.Core.List.{List, [], ◌∷◌}
use mathlib.Core.Logic.{inl}
use mathlib.Core.Path.{◌≡◌, refl}
use native.Mathlib.Omega.{arith}
use lib.ListN.{length-append}
use Rattle.octets.specs.Bytes.{Bytes}
use Rattle.octets.specs.Pick.{pick, both}
use Rattle.octets.proofs.Choice.{by_test}
use Rattle.protocol.specs.declared.Answer.{Answer}
use Rattle.protocol.specs.declared.Phase.{Phase}
use Rattle.protocol.specs.Answers.{is_done}
use Rattle.protocol.specs.State.{capacity, State, held}
use Rattle.protocol.specs.Step.{admitted, stepped}
use Rattle.protocol.specs.Submit.{submit_rule, submitted, submit}
use Rattle.protocol.proofs.Effects.{done_is}
use Rattle.protocol.proofs.Quiet.{refused_quiet}
use Rattle.protocol.proofs.Settling.{settle-does, admitted-done}
use Rattle.protocol.proofs.Submits.{Accepted, done_accepted, submit_harmless}
use Rattle.two_ends.specs.Calls.{called, counts, accepts, offered}
use Rattle.two_ends.specs.World.{History, End, World}
use Rattle.two_ends.proofs.Invariant.{Ready, Holds, Good}
use Rattle.two_ends.proofs.Packets.{okays_snoc}
use Rattle.two_ends.proofs.Quiet.{quietly_counts}
use Rattle.two_ends.proofs.Sides.{dir_accept, dir_accept_peer}
use Rattle.two_ends.proofs.Worlds.{ended, ready_open, at-replaced, Settled}

both_same : (b : Bool) → both b true ≡ b
both_same true = refl
both_same false = refl

-- ---- the answer is Done
module _ (now : State) (ph : Phase) (m : List ℕ) (done : Accepted now m) where
  few : held (submitted now m) ≤ capacity
  unfolding submitted
  few = omega (arith, done.room, length-append now.queue (m ∷ []))

  -- an end that has begun counts the message; one that has not does not
  accepted : (bytes : Bytes m) (jo : Bool) (h : History) (bg : Bool) {b : End} {ab ba : List (List ℕ)} → Holds (ended now ph jo bg h) b ab ba → Settled (ended (submitted now m) ph jo bg (pick bg (accepts m h) h)) b ab ba
  unfolding submitted
  accepted bytes jo h true s =
      let i = s.2 in
      let own : Ready (ended (submitted now m) ph jo true (accepts m h)) = record {
        few = few;
        possible = i.own.possible;
        keeping = i.own.keeping;
        okays = okays_snoc h.accepted m i.own.okays (record { storable = done.storable; bytes = bytes });
        waiting = λ q. absurd (true≢false q);
        linked = i.own.linked;
      } in
      inl (
        ready_open own,
        (
          s.0,
          s.1,
          record {
            line_a = i.line_a;
            line_b = i.line_b;
            own = own;
            peer = i.peer;
            out = dir_accept now now.kept ph jo true h m done.room i.out;
            back = dir_accept_peer now now.kept ph jo true h m i.back;
            agree = i.agree;
          },
        ),
      )
  accepted bytes jo h false s =
      let i = s.2 in
      let v = i.own.waiting refl in
      let own : Ready (ended (submitted now m) ph jo false h) = record {
        few = few;
        possible = i.own.possible;
        keeping = refl;
        okays = i.own.okays;
        waiting = λ q. record { on = v.on; waits = v.waits; nothing = v.nothing };
        linked = i.own.linked;
      } in
      inl (ready_open own, (s.0, s.1, record { line_a = i.line_a; line_b = i.line_b; own = own; peer = i.peer; out = i.out; back = i.back; agree = i.agree }))

pub at_submits : (w : World) (m : List ℕ) → Bytes m → Good w → Good (offered w m (submit w.a.state w.a.phase m))
unfolding submit
at_submits w m bytes g =
    let now = w.a.state in
    let ph = w.a.phase in
    let x = submit now ph m in
    let a = admitted now ph (submit_rule now ph m) in
    let d = stepped Answer.Done (submitted now m) ph [] in
    at-replaced w (called w.a x (counts w.a x (accepts m w.a.history))) w.ab w.ba (λ kp k.
    let s = g kp in
    by_test (is_done a)
    (λ t.
    rw (settle-does a now ph d t, both_same w.a.begun)
    (accepted now ph m (done_accepted now ph m (done_is (submit_rule now ph m) (admitted-done now ph (submit_rule now ph m) t))) bytes w.a.joined w.a.history w.a.begun s))
    (λ n. quietly_counts w.a x (refused_quiet (submit_rule now ph m) now ph d (submit_harmless now ph m) n) s (accepts m w.a.history)))
