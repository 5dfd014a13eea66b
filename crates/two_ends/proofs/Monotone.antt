-- A world that has not lasted does not last again: what lasts after an event lasted before it. Assumes nothing.
use Prim.Native.Nat.{ℕ}
use mathlib.Core.Bool.{Bool, false, true}
use mathlib.Core.List.{[], List, ◌∷◌}
use Rattle.octets.specs.Pick.{both}
use Rattle.octets.proofs.Choice.{both_true}
use Rattle.protocol.specs.Begin.{restore}
use Rattle.protocol.specs.ConnectionFailed.{connection_failed}
use Rattle.protocol.specs.KeepAlive.{keepalive}
use Rattle.protocol.specs.Open.{open_session}
use Rattle.protocol.specs.Send.{send_next}
use Rattle.protocol.specs.Step.{Step}
use Rattle.protocol.specs.Submit.{submit}
use Rattle.protocol.specs.TimePassed.{time_passed}
use Rattle.two_ends.specs.Calls.{accepts, disconnected, called, counts, keeps, plainly, put, sent_history, replaced}
use Rattle.two_ends.specs.Runs.{Event, act, breaks, delivers, keepalives, notices, opens, passes, restarts, run, sends, event_at, submits}
use Rattle.two_ends.specs.World.{End, Lasts, World, swap, History}
use Rattle.two_ends.proofs.Acts.{by_delivery, by_open, by_plain, by_submit, by_write, lasted}
use Rattle.two_ends.proofs.Worlds.{next}

module _ (w : World) where
  abbrev Lasted : World → Type 0
  Lasted v = Lasts v → Lasts w

  broken_lasted : (v : World) → Lasted v → Lasted (disconnected v)
  broken_lasted v f k = f ((both_true v.started (both v.a.begun v.b.begun) k.0).0, k.1)

  called_lasted : (e : End) (ab ba : List (List ℕ)) → Lasted (next w e ab ba)
  called_lasted e ab ba k = (k.0, (both_true w.unreleased (keeps e) k.1).0)

  plain : (x : Step) → Lasted (plainly w x)
  plain x = by_plain Lasted broken_lasted w x (called_lasted (called w.a x w.a.history) w.ab w.ba)

  written : (x : Step) (h : History) → Lasted (replaced w (called w.a x h) (put w.a.joined w.ab x) w.ba)
  written x h = by_write Lasted broken_lasted w x h (called_lasted (called w.a x h) (put w.a.joined w.ab x) w.ba)

  act_lasted : (v : Event) → Lasted (act w v)
  act_lasted (submits m) =
      let x = submit w.a.state w.a.phase m in
      by_submit Lasted broken_lasted w m x (called_lasted (called w.a x (counts w.a x (accepts m w.a.history))) w.ab w.ba)
  act_lasted (sends ask room) = let x = send_next w.a.state w.a.phase ask room in written x (sent_history w.a x)
  act_lasted (keepalives id room) = written (keepalive w.a.state w.a.phase id room) w.a.history
  act_lasted (opens id p t room) =
      let x = open_session w.a.state w.a.phase id p t room in
      let k = called_lasted (called w.a x w.a.history) w.ab w.ba in
      by_open Lasted broken_lasted w x k k
  act_lasted (passes elapsed) = plain (time_passed w.a.state w.a.phase elapsed)
  act_lasted delivers = by_delivery Lasted broken_lasted w (λ k. k) (λ m rest on line k. (lasted w m rest k).0)
  act_lasted breaks = broken_lasted w (λ k. k)
  act_lasted notices = plain (connection_failed w.a.state w.a.phase)
  act_lasted restarts = plain (restore w.a.state)

pub step_lasted : (w : World) (at : Bool) (v : Event) → Lasts (event_at w at v) → Lasts w
step_lasted w true v k = act_lasted w v k
step_lasted w false v k = act_lasted (swap w) v k

pub run_lasted : (w : World) (vs : List (Bool × Event)) → Lasts (run w vs) → Lasts w
run_lasted w [] k = k
run_lasted w (v ∷ vs) k = step_lasted w v.0 v.1 (run_lasted (event_at w v.0 v.1) vs k)
