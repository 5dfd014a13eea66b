-- The events that end a connection or a session: a connection noticed to have failed, passed time, a restart. Assumes nothing.
use Prim.Native.Nat.{ℕ}
use mathlib.Core.Bool.{Bool, true, false, true≢false}
use mathlib.Core.List.{List}
use mathlib.Core.Path.{◌≡◌, refl, sym}
use Rattle.octets.specs.Pick.{pick}
use Rattle.octets.proofs.Choice.{by_test}
use Rattle.protocol.specs.declared.Answer.{Answer}
use Rattle.protocol.specs.declared.Phase.{Phase}
use Rattle.protocol.specs.Answers.{is_done}
use Rattle.protocol.specs.Begin.{restore}
use Rattle.protocol.specs.ConnectionFailed.{connection_failed}
use Rattle.protocol.specs.Phases.{connected, waiting}
use Rattle.protocol.specs.State.{released_state, State}
use Rattle.protocol.specs.Step.{where_open, Step, failed_with, released_with, admitted, unchanged}
use Rattle.protocol.specs.TimePassed.{expired, time_passed}
use Rattle.protocol.proofs.Quiet.{refused_quiet}
use Rattle.protocol.proofs.Refusals.{may_harmless}
use Rattle.protocol.proofs.Settling.{done_harmless, settle-does, admitted-done}
use Rattle.two_ends.specs.Calls.{keeps, called, plainly}
use Rattle.two_ends.specs.Runs.{act, restarts}
use Rattle.two_ends.specs.World.{History, End, World}
use Rattle.two_ends.proofs.Failing.{failing}
use Rattle.two_ends.proofs.Invariant.{Waiting, Holds, Good}
use Rattle.two_ends.proofs.Quiet.{quietly}
use Rattle.two_ends.proofs.Worlds.{ended, begun_else, at-replaced, settled_same, Settled}

-- a call that touches no line
pub at_plain : (w : World) (x : Step) → Good w
    → (Holds w.a w.b w.ab w.ba → keeps (called w.a x w.a.history) ≡ true → Settled (called w.a x w.a.history) w.b w.ab w.ba) → Good (plainly w x)
at_plain w x g f = at-replaced w (called w.a x w.a.history) w.ab w.ba (λ k kp. f (g k) kp)

-- ---- released: the state that counted is gone
pub released_ends : {P : Type 0} (ph : Phase) (jo bg : Bool) (h : History) → bg ≡ true → keeps (ended released_state ph jo bg h) ≡ true → P
released_ends ph jo true h g k = absurd (true≢false (sym k))
released_ends ph jo false h g k = absurd (true≢false (sym g))

-- ---- the connection is noticed to have failed; in a phase without one nothing changes
module _ (w : World) (g : Good w) where
  pub at_notices : Good (plainly w (connection_failed w.a.state w.a.phase))
  unfolding connection_failed
  at_notices =
      let now = w.a.state in
      let ph = w.a.phase in
      let a = admitted now ph (where_open (connected ph) Answer.Done) in
      at_plain w (connection_failed now ph) g (λ s k.
      by_test (is_done a)
      (λ t. rw (settle-does a now ph (failed_with Answer.Done now) t) (failing now ph w.a.joined w.a.begun w.a.history s))
      (λ n. quietly w.a (connection_failed now ph) (refused_quiet _ now ph (failed_with Answer.Done now) (may_harmless (connected ph) Answer.Done done_harmless) n) s))

  -- ---- a restart
  pub at_restarts : Good (act w restarts)
  at_restarts = at_plain w (restore w.a.state) g (λ s k. failing w.a.state w.a.phase w.a.joined w.a.begun w.a.history s)

-- ---- time passes
module _ (now : State) (jo bg : Bool) (h : History) (elapsed : ℕ) (b : End) (ab ba : List (List ℕ)) where
  abbrev rule : Phase → Answer
  rule ph = where_open (waiting ph) Answer.Done

  abbrev does : Phase → Step
  does ph = pick (expired now elapsed) (released_with Answer.Done) (unchanged Answer.Done now ph)

  -- only in Failed does it matter, and there the end has begun
  begun-there : (ph : Phase) → is_done (rule ph) ≡ true → Holds (ended now ph jo bg h) b ab ba → bg ≡ true
  begun-there Phase.Idle t s = absurd (true≢false (sym t))
  begun-there (Phase.InitWait v) t s = absurd (true≢false (sym t))
  begun-there (Phase.UpFT u) t s = absurd (true≢false (sym t))
  begun-there Phase.UpPlain t s = absurd (true≢false (sym t))
  begun-there Phase.Failed t s = begun_else s.2.own (λ (v : Waiting (ended now Phase.Failed jo bg h)). true≢false (sym v.waits))

  acts : (ph : Phase) → bg ≡ true → (c : Bool) → Holds (ended now ph jo bg h) b ab ba
      → keeps (called (ended now ph jo bg h) (pick c (released_with Answer.Done) (unchanged Answer.Done now ph)) h) ≡ true
      → Settled (called (ended now ph jo bg h) (pick c (released_with Answer.Done) (unchanged Answer.Done now ph)) h) b ab ba
  acts ph begun true s k = released_ends Phase.Idle jo bg h begun k
  acts ph begun false s k = settled_same refl s

  passes : (ph : Phase) → Holds (ended now ph jo bg h) b ab ba → keeps (called (ended now ph jo bg h) (time_passed now ph elapsed) h) ≡ true
      → Settled (called (ended now ph jo bg h) (time_passed now ph elapsed) h) b ab ba
  unfolding time_passed
  passes ph s k =
      by_test (is_done (admitted now ph (rule ph)))
      (λ t.
      let e = settle-does (admitted now ph (rule ph)) now ph (does ph) t in
      rw e (acts ph (begun-there ph (admitted-done now ph (rule ph) t) s) (expired now elapsed) s (rw e at k)))
      (λ n. quietly (ended now ph jo bg h) (time_passed now ph elapsed) (refused_quiet (rule ph) now ph (does ph) (may_harmless (waiting ph) Answer.Done done_harmless) n) s)

pub at-passes : (w : World) (elapsed : ℕ) → Good w → Good (plainly w (time_passed w.a.state w.a.phase elapsed))
at-passes w elapsed g =
    at_plain w (time_passed w.a.state w.a.phase elapsed) g (λ s k.
    passes w.a.state w.a.joined w.a.begun w.a.history elapsed w.b w.ab w.ba w.a.phase s k)
