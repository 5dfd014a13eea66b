-- Only at 64 held is a message refused for room in the store: in every world of a run, whether it lasts or not. Assumes nothing.
use Prim.Native.Nat.{◌≤◌, ℕ}
use mathlib.Core.Bool.{Bool, false, true}
use mathlib.Core.List.{List, ◌∷◌, []}
use mathlib.Core.Path.{◌≡◌, refl, ◌∙◌}
use native.Mathlib.Omega.{arith}
use Rattle.octets.proofs.Choice.{pick_all}
use Rattle.protocol.specs.declared.Answer.{Answer}
use Rattle.protocol.specs.declared.Phase.{Phase}
use Rattle.protocol.specs.Begin.{restore}
use Rattle.protocol.specs.Calls
use Rattle.protocol.specs.Calls.{Call, step}
use Rattle.protocol.specs.ConnectionFailed.{connection_failed}
use Rattle.protocol.specs.KeepAlive.{keepalive}
use Rattle.protocol.specs.Open.{open_session}
use Rattle.protocol.specs.Phases.{awaits}
use Rattle.protocol.specs.Send.{send_next}
use Rattle.protocol.specs.State.{State, capacity, held}
use Rattle.protocol.specs.Submit.{submit}
use Rattle.protocol.specs.TimePassed.{time_passed}
use Rattle.protocol.proofs.Few.{few_held}
use Rattle.protocol.proofs.Passing.{full-passes, passes-done, passes-full}
use Rattle.two_ends.specs.Calls.{accepts, disconnected, called, counts, sent_history}
use Rattle.two_ends.specs.Demand.{RefusedAt64}
use Rattle.two_ends.specs.Runs.{Event, submits, sends, keepalives, opens, passes, delivers, breaks, notices, restarts, act, event_at, run}
use Rattle.two_ends.specs.Start.{Fit, Opener, start}
use Rattle.two_ends.specs.World.{End, World, swap, no_history}
use Rattle.two_ends.proofs.Acts.{by_delivery, by_open, by_plain, by_submit, by_write}
use Rattle.two_ends.proofs.Worlds.{replaced-a, ended}

-- ---- at most 64 are held at either end
abbrev pub Few : End → Type 0
Few e = held e.state ≤ capacity

abbrev pub Fews : World → Type 0
Fews w = Few w.a × Few w.b

module _ (w : World) (f : Fews w) where
  abbrev now : State
  now = w.a.state

  abbrev ph : Phase
  ph = w.a.phase

  broken_few : (v : World) → Fews v → Fews (disconnected v)
  broken_few v g = g

  -- whatever the call, and its history
  call_few : (c : Call) (room : ℕ) → Few (ended (step c now ph room).state ph true true no_history) × Few w.b
  call_few c room = (few_held now f.0 ph c room, f.1)

  act_few : (v : Event) → Fews (act w v)
  unfolding step
  act_few (submits m) = by_submit Fews broken_few w m (submit now ph m) (call_few (Calls.submits m) 0)
  act_few (sends ask room) = by_write Fews broken_few w (send_next now ph ask room) (sent_history w.a (send_next now ph ask room)) (call_few (Calls.sends ask) room)
  act_few (keepalives id room) = by_write Fews broken_few w (keepalive now ph id room) w.a.history (call_few (Calls.keeps-alive id) room)
  act_few (opens id p t room) = by_open Fews broken_few w (open_session now ph id p t room) (call_few (Calls.opens id p t) room) (call_few (Calls.opens id p t) room)
  act_few (passes elapsed) = by_plain Fews broken_few w (time_passed now ph elapsed) (call_few (Calls.passes elapsed) 0)
  act_few delivers =
      by_delivery Fews broken_few w f (λ m rest on line. (pick_all Few (awaits ph) (call_few (Calls.greets m) 0).0 (call_few (Calls.receives m) 0).0, f.1))
  act_few breaks = f
  act_few notices = by_plain Fews broken_few w (connection_failed now ph) (call_few Calls.fails 0)
  act_few restarts = by_plain Fews broken_few w (restore now) (call_few Calls.restores 0)

step_few : (w : World) (at : Bool) (v : Event) → Fews w → Fews (event_at w at v)
step_few w true v f = act_few w f v
step_few w false v f = let g = act_few (swap w) (f.1, f.0) v in (g.1, g.0)

pub run_few : (w : World) (vs : List (Bool × Event)) → Fews w → Fews (run w vs)
run_few w [] f = f
run_few w (v ∷ vs) f = run_few (event_at w v.0 v.1) vs (step_few w v.0 v.1 f)

-- ---- so the refusal is at 64
pub refused : (w : World) → Few w.a → (m : List ℕ) → RefusedAt64 w m
refused w few m =
    let now = w.a.state in
    let ph = w.a.phase in
    record {
      only = λ e. omega (arith, few, (full-passes now ph m e).1);
      full = λ p e. passes-full now ph m p (omega (arith, e));
      else = λ p l. passes-done now ph m p l;
      accepted = λ g p l.
          let done : (submit now ph m).answer ≡ Answer.Done = passes-done now ph m p l in
          let e : End = called w.a (submit now ph m) (counts w.a (submit now ph m) (accepts m w.a.history)) in
          replaced-a (λ (x : End). x.history.accepted ≡ e.history.accepted) w e w.ab w.ba refl refl ∙ rw (g, done);
    }

-- at both ends, over every run
pub refused_at_64 : (x y : Opener) → Fit x → Fit y → (vs : List (Bool × Event)) (m : List ℕ) → RefusedAt64 (run (start x y) vs) m × RefusedAt64 (swap (run (start x y) vs)) m
refused_at_64 x y fx fy vs m =
    let w = run (start x y) vs in
    let f = run_few (start x y) vs (fx.few, fy.few) in
    (refused w f.0 m, refused (swap w) f.1 m)
