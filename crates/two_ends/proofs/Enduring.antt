-- Over every run: with steady owners what is delivered is answered 0 or 21, and neither end ever releases its state. Assumes nothing.
use mathlib.Core.Bool.{Bool, false, true, true≢false}
use mathlib.Core.List.{[], List, ◌∷◌}
use mathlib.Core.Path.{◌≡◌, refl, sym, ◌∙◌}
use Rattle.ft_number.specs.Timeout.{proposed_of}
use Rattle.message_writer.specs.declared.OwnParameters.{OwnParameters}
use Rattle.protocol.specs.declared.Phase.{Phase}
use Rattle.protocol.specs.Begin.{restore}
use Rattle.protocol.specs.ConnectionFailed.{connection_failed}
use Rattle.protocol.specs.Open.{kept_ack}
use Rattle.protocol.specs.State.{State}
use Rattle.protocol.specs.TimePassed.{time_passed}
use Rattle.protocol.proofs.Moves.{notice_moves, restore_moves, time_moves}
use Rattle.two_ends.specs.Runs.{AllProperEvents, Event, ProperEvent, act, breaks, delivers, keepalives, notices, opens, passes, restarts, run, sends, event_at, submits}
use Rattle.two_ends.specs.Start.{Afresh, Fit, Opener, start}
use Rattle.two_ends.specs.Staying.{Releasing, ReleasingAt, Stays}
use Rattle.two_ends.specs.Steady.{AllCalm, AllSteady, Steadily, SteadilyAt}
use Rattle.two_ends.specs.World.{End, Lasts, World, swap}
use Rattle.two_ends.proofs.Begun.{at-start, fine}
use Rattle.two_ends.proofs.Calm.{all_calm, calm_low, delivers_steady}
use Rattle.two_ends.proofs.Invariant.{Good}
use Rattle.two_ends.proofs.Labels.{Labels, labels_persist}
use Rattle.two_ends.proofs.Monotone.{step_lasted}
use Rattle.two_ends.proofs.Persisted.{Persisted, persisted, step_persists, swap_persists}
use Rattle.two_ends.proofs.Saying.{init_says}
use Rattle.two_ends.proofs.Staying.{step_stays}
use Rattle.two_ends.proofs.Steady.{Knows, Steadies, alive_steady, broken_steady, open_steady, plain_steady, send_steady, submit_steady}
use Rattle.two_ends.proofs.Theorem.{at-run, at-step}
use Rattle.two_ends.proofs.Worlds.{at-swap}

-- ---- every event
module _ (oa ob : OwnParameters) (w : World) (g : Good w) (l : Persisted Labels w) (k : Lasts w) (s : Steadies oa ob w) where
  abbrev now : State
  now = w.a.state

  abbrev ph : Phase
  ph = w.a.phase

  act_steady : (v : Event) → ProperEvent v → Steadily oa w v → Steadies oa ob (act w v)
  act_steady (submits m) p q = submit_steady oa ob w g k s m q
  act_steady (sends ask room) p q = send_steady oa ob w g k s ask room
  act_steady (keepalives id room) p q = alive_steady oa ob w g k s id room p
  act_steady (opens id r t room) p q = open_steady oa ob w g k s id r t room p.0 p.1 q.0 q.1
  act_steady (passes elapsed) p q = plain_steady oa ob w g k s (time_passed now ph elapsed) (time_moves now ph elapsed q)
  act_steady delivers p q = delivers_steady oa ob w g l k s
  act_steady breaks p q = broken_steady oa ob w s
  act_steady notices p q = plain_steady oa ob w g k s (connection_failed now ph) (notice_moves now ph)
  act_steady restarts p q = plain_steady oa ob w g k s (restore now) (restore_moves now ph)

  -- none releases
  releases_never : (v : Event) → Steadily oa w v → Releasing w v → ⊥
  releases_never (submits m) q r = r
  releases_never (sends ask room) q r = r
  releases_never (keepalives id room) q r = r
  releases_never (opens id p t room) q r = r
  releases_never (passes elapsed) q r = q r.0 r.1
  releases_never delivers q r = calm_low (all_calm oa ob w g l k s r.message r.rest r.on r.line) r.answer
  releases_never breaks q r = r
  releases_never notices q r = r
  releases_never restarts q r = r

-- ---- at either end
swap_steady : (oa ob : OwnParameters) (w : World) → Steadies oa ob w → Steadies ob oa (swap w)
swap_steady oa ob w s = record { a = s.b; b = s.a; ab = s.ba; ba = s.ab }

module _ (oa ob : OwnParameters) (w : World) (g : Good w) (l : Persisted Labels w) (k : Lasts w) (s : Steadies oa ob w) where
  step_steady : (at : Bool) (v : Event) → ProperEvent v → SteadilyAt oa ob w at v → Steadies oa ob (event_at w at v)
  step_steady true v p q = act_steady oa ob w g l k s v p q
  step_steady false v p q =
      swap_steady ob oa (act (swap w) v) (act_steady ob oa (swap w) (at-swap w g) (swap_persists labels_persist w l) k (swap_steady oa ob w s) v p q)

  at_never : (at : Bool) (v : Event) → SteadilyAt oa ob w at v → ReleasingAt w at v → ⊥
  at_never true v q r = releases_never oa ob w g l k s v q r
  at_never false v q r = releases_never ob oa (swap w) (at-swap w g) (swap_persists labels_persist w l) k (swap_steady oa ob w s) v q r

-- ---- over a run
module _ (oa ob : OwnParameters) where
  -- as long as the run lasts, the world is as steady owners leave it
  run_steady : (w : World) (vs : List (Bool × Event)) → Good w → Persisted Labels w → (Lasts w → Steadies oa ob w) → AllProperEvents vs → AllSteady oa ob w vs
      → Lasts (run w vs) → Steadies oa ob (run w vs)
  run_steady w [] g l s p q k = s k
  run_steady w (v ∷ vs) g l s p q k =
      run_steady (event_at w v.0 v.1) vs (at-step w v.0 v.1 p.0 g) (step_persists labels_persist w v.0 v.1 g l)
      (λ t. let old = step_lasted w v.0 v.1 t in step_steady oa ob w g l old (s old) v.0 v.1 p.0 q.0) p.1 q.1 k

  run_endures : (w : World) (vs : List (Bool × Event)) → Good w → Persisted Labels w → Stays w → Steadies oa ob w → AllProperEvents vs → AllSteady oa ob w vs → Stays (run w vs)
  run_endures w [] g l s t p q = s
  run_endures w (v ∷ vs) g l s t p q =
      run_endures (event_at w v.0 v.1) vs (at-step w v.0 v.1 p.0 g) (step_persists labels_persist w v.0 v.1 g l)
      (step_stays w v.0 v.1 g s (at_never oa ob w g l s.lasts t v.0 v.1 q.0))
      (step_steady oa ob w g l s.lasts t v.0 v.1 p.0 q.0) p.1 q.1

-- the start
unbegun : (o : OwnParameters) (e : End) → e.begun ≡ false → Knows o e
unbegun o e n = record { keepalive = λ g. absurd (true≢false (sym g ∙ n)); maxpdu = λ g. absurd (true≢false (sym g ∙ n)); mild = λ g. absurd (true≢false (sym g ∙ n)) }

start_steady : (x y : Opener) → Fit x → Fit y → Steadies x.parameters y.parameters (start x y)
start_steady x y fx fy = record {
  a = unbegun y.parameters (start x y).a refl;
  b = unbegun x.parameters (start x y).b refl;
  ab = (init_says x.parameters x.id x.parameters (proposed_of x.proposal) (kept_ack x.state) (fine x fx) refl refl, tt);
  ba = (init_says y.parameters y.id y.parameters (proposed_of y.proposal) (kept_ack y.state) (fine y fy) refl refl, tt);
}

module _ (x y : Opener) (fx : Fit x) (fy : Fit y) (f : Afresh x y) (us : List (Bool × Event)) (pu : AllProperEvents us) (qu : AllSteady x.parameters y.parameters (start x y) us) where
  abbrev here : World
  here = run (start x y) us

  good : Good here
  good = at-run (start x y) us pu (at-start x y fx fy f)

  listed : Persisted Labels here
  listed = persisted labels_persist x y fx fy f us pu

  steady : Lasts here → Steadies x.parameters y.parameters here
  steady k = run_steady x.parameters y.parameters (start x y) us (at-start x y fx fy f) (λ t. labels_persist.none) (λ t. start_steady x y fx fy) pu qu k

  -- whatever is delivered is answered 0 or 21
  pub answers_calm : Lasts here → AllCalm here × AllCalm (swap here)
  answers_calm k = (
    all_calm x.parameters y.parameters here good listed k (steady k),
    all_calm y.parameters x.parameters (swap here) (at-swap here good) (swap_persists labels_persist here listed) k (swap_steady x.parameters y.parameters here (steady k)),
  )

  -- and once both ends have begun, neither ever releases its state
  pub kept_for_good : Stays here → (vs : List (Bool × Event)) → AllProperEvents vs → AllSteady x.parameters y.parameters here vs → Stays (run here vs)
  kept_for_good s vs p q = run_endures x.parameters y.parameters here vs good listed s (steady s.lasts) p q
