-- An end whose connection has failed. Assumes nothing.
use Prim.Native.Nat.{ℕ}
use mathlib.Core.Bool.{Bool, true, false, true≢false}
use mathlib.Core.List.{List, []}
use mathlib.Core.Logic.{inl, inr}
use mathlib.Core.Path.{◌≡◌, refl, sym}
use Rattle.octets.specs.Pick.{pick}
use Rattle.protocol.specs.declared.Phase.{Phase}
use Rattle.protocol.specs.Phases.{resting_phase, connected}
use Rattle.protocol.specs.State.{State}
use Rattle.protocol.specs.Step.{broken}
use Rattle.two_ends.specs.World.{History, End}
use Rattle.two_ends.proofs.Invariant.{Ready, Holds}
use Rattle.two_ends.proofs.Sides.{dir_failed, dir_failed_peer, dir_rest, dir_rest_peer}
use Rattle.two_ends.proofs.Worlds.{ended, kept_one, ready_off, Settled}

resting_off : (s : State) → connected (resting_phase s) ≡ false
resting_off s = by s.kept
  where
    by : (b : Bool) → connected (pick b Phase.Failed Phase.Idle) ≡ false
    by true = refl
    by false = refl

-- ---- an end that has begun
module _ (now : State) (ph : Phase) (jo : Bool) (h : History) (r : Ready (ended now ph jo true h)) where
  resting : resting_phase now ≡ Phase.Failed
  resting = rw (kept_one r)

  -- off the connection it is ready for the next
  failed_ready : Ready (ended (broken now) (resting_phase now) false true h)
  failed_ready = record {
    few = r.few;
    possible = rw resting;
    keeping = r.keeping;
    okays = r.okays;
    waiting = λ q. absurd (true≢false q);
    linked = λ q. absurd (true≢false (sym q));
  }

-- ---- the connection that it was on breaks
pub failing_on : (now : State) (ph : Phase) (bg : Bool) (h : History) {b : End} {ab ba : List (List ℕ)} → Holds (ended now ph true bg h) b ab ba
    → (rest more : List (List ℕ)) → Settled (ended (broken now) (resting_phase now) true bg h) b rest more
failing_on now ph true h {b} s rest more =
    let i = s.2 in
    inr (
      rw (resting_off now),
      λ ga gb. (
        [],
        [],
        record {
          line_a = refl;
          line_b = refl;
          own = failed_ready now ph true h i.own;
          peer = ready_off i.peer gb;
          out = rw (resting now ph true h i.own) (dir_failed i.out gb);
          back = rw (resting now ph true h i.own) (dir_failed_peer i.back ga);
          agree = sym gb;
        },
      ),
    )
failing_on now ph false h s rest more = inr (rw (resting_off now), λ ga gb. absurd (true≢false (sym ga)))

-- one that was on none is only off
pub failing : (now : State) (ph : Phase) (jo bg : Bool) (h : History) {b : End} {ab ba : List (List ℕ)} → Holds (ended now ph jo bg h) b ab ba
    → Settled (ended (broken now) (resting_phase now) jo bg h) b ab ba
failing now ph true bg h {ab = ab} {ba = ba} s = failing_on now ph bg h s ab ba
failing now ph false true h s =
    let i = s.2 in
    inl (
      refl,
      (
        s.0,
        s.1,
        record {
          line_a = i.line_a;
          line_b = i.line_b;
          own = failed_ready now ph false h i.own;
          peer = i.peer;
          out = rw (resting now ph false h i.own) (dir_rest now now.kept ph true h i.out);
          back = rw (resting now ph false h i.own) (dir_rest_peer now now.kept ph true h i.back);
          agree = i.agree;
        },
      ),
    )
failing now ph false false h s = absurd (true≢false (sym (s.2.own.waiting refl).on))
