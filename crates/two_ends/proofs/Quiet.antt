-- A call that changes nothing leaves the end as it was, and both lines. Assumes nothing.
use Prim.Native.Nat.{ℕ}
use mathlib.Core.Bool.{Bool, true, false}
use mathlib.Core.List.{List}
use mathlib.Core.Path.{◌≡◌, refl}
use Rattle.octets.specs.Pick.{pick, both}
use Rattle.protocol.specs.Answers.{is_done}
use Rattle.protocol.specs.Phases.{sent_of}
use Rattle.protocol.specs.Step.{Step}
use Rattle.protocol.proofs.Quiet.{Quiet}
use Rattle.two_ends.specs.Calls.{called, put, counts, sent_history, leaves_out}
use Rattle.two_ends.specs.World.{History, End}
use Rattle.two_ends.proofs.Invariant.{Holds}
use Rattle.two_ends.proofs.Worlds.{same_end, settled_same, Settled}

put_by : (jo b : Bool) (line more : List (List ℕ)) → b ≡ false → pick (both jo b) more line ≡ line
put_by true b line more e = rw e
put_by false b line more e = refl

pub put-still : (jo : Bool) (line : List (List ℕ)) (x : Step) → is_done x.answer ≡ false → put jo line x ≡ line
put-still jo line x e = put_by jo (is_done x.answer) line _ e

counts_by : (bg b : Bool) (h k : History) → b ≡ false → pick (both bg b) k h ≡ h
counts_by true b h k e = rw e
counts_by false b h k e = refl

pub counts-still : (e : End) (x : Step) (h : History) → is_done x.answer ≡ false → counts e x h ≡ e.history
counts-still e x h n = counts_by e.begun (is_done x.answer) e.history h n

module _ (a : End) (x : Step) (q : Quiet a.state a.phase x) {b : End} {ab ba : List (List ℕ)} (s : Holds a b ab ba) where
  pub quietly : Settled (called a x a.history) b ab ba
  quietly = settled_same (same_end a x a.history q.state q.phase refl) s

  pub quietly_counts : (h : History) → Settled (called a x (counts a x h)) b ab ba
  quietly_counts h = settled_same (same_end a x (counts a x h) q.state q.phase (counts-still a x h q.still)) s

  pub quietly_sent : Settled (called a x (sent_history a x)) b (put a.joined ab x) ba
  quietly_sent = rw (put-still a.joined ab x q.still) (quietly_counts (leaves_out (sent_of a.phase) x a.history))

  pub quietly_puts : (jo : Bool) → Settled (called a x a.history) b (put jo ab x) ba
  quietly_puts jo = rw (put-still jo ab x q.still) quietly
