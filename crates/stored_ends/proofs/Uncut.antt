-- Where no power is lost, the run of the two cabinets is the run of the rules by the same events. Assumes nothing.
use mathlib.Core.Bool.{Bool, true, false}
use mathlib.Core.List.{List, [], ◌∷◌}
use mathlib.Core.Path.{refl, sym, ap, ◌∙◌}
use Rattle.octets.proofs.Fill.{length_zeros}
use Rattle.two_ends.specs.Runs.{AllProperEvents, Event, ProperEvent, breaks, delivers, keepalives, notices, opens, passes, restarts, sends, submits, event_at, run}
use Rattle.two_ends.specs.Start.{Afresh, start}
use Rattle.two_ends.specs.World.{Lasts, World, swap}
use Rattle.two_ends.proofs.Begun.{at-start}
use Rattle.two_ends.proofs.Invariant.{Good}
use Rattle.two_ends.proofs.Monotone.{run_lasted}
use Rattle.two_ends.proofs.Theorem.{at-step}
use Rattle.two_ends.proofs.Worlds.{at-swap}
use Rattle.stored_ends.specs.Pair.{Lent, Pair, run_stored, happening_at, whole}
use Rattle.stored_ends.specs.Start.{Holder, Sound, begins, opener_of}
use Rattle.stored_ends.specs.Uncut.{lent_for, uncut}
use Rattle.stored_ends.proofs.Follows.{arrives, both-swap}
use Rattle.stored_ends.proofs.Theorem.{begins-both, fit}
use Rattle.stored_ends.proofs.Tracks.{Both, Tracks, made_tracks}

lent_for_lem : (v : Event) → Lent v (lent_for v)
lent_for_lem (submits m) = tt
lent_for_lem (sends ask room) = sym (length_zeros room)
lent_for_lem (keepalives id room) = sym (length_zeros room)
lent_for_lem (opens id p t room) = sym (length_zeros room)
lent_for_lem (passes elapsed) = tt
lent_for_lem delivers = tt
lent_for_lem breaks = tt
lent_for_lem notices = tt
lent_for_lem restarts = tt

module _ (z : Pair) (b : Both z) (g : Good z.world) (k : Lasts z.world) (v : Event) (p : ProperEvent v) where
  step-whole : (side : Bool) → Tracks (happening_at z side (whole v (lent_for v))) (event_at z.world side v)
  step-whole true = made_tracks z.world z.own z.peer b.own b.peer v (lent_for v) p (lent_for_lem v) (arrives z.world g k)
  step-whole false =
      let w : World = swap z.world in
      let t = made_tracks w z.peer z.own b.peer b.own v (lent_for v) p (lent_for_lem v) (arrives w (at-swap z.world g) k) in
      record { world = ap swap t.world; both = both-swap t.both }

uncut_tracks : (z : Pair) → Both z → Good z.world → (vs : List (Bool × Event)) → AllProperEvents vs → Lasts (run z.world vs)
    → Tracks (run_stored z (uncut vs)) (run z.world vs)
uncut_tracks z b g [] p k = record { world = refl; both = b }
uncut_tracks z b g (v ∷ vs) p k =
    let w : World = z.world in
    let next : Pair = happening_at z v.0 (whole v.1 (lent_for v.1)) in
    let t = step-whole z b g (run_lasted w (v ∷ vs) k) v.1 p.0 v.0 in
    let good : Good next.world = rw t.world (at-step w v.0 v.1 p.0 g) in
    let lasts : Lasts (run next.world vs) = rw t.world k in
    let r = uncut_tracks next t.both good vs p.1 lasts in
    record { world = r.world ∙ ap (λ (u : World). run u vs) t.world; both = r.both }

-- from a start
pub uncut_is : (x y : Holder) → Sound x → Sound y → Afresh (opener_of x) (opener_of y) → (vs : List (Bool × Event)) → AllProperEvents vs
    → Lasts (run (start (opener_of x) (opener_of y)) vs) → Tracks (run_stored (begins x y) (uncut vs)) (run (start (opener_of x) (opener_of y)) vs)
uncut_is x y sx sy afresh vs p k = uncut_tracks (begins x y) (begins-both x y sx sy) (at-start (opener_of x) (opener_of y) (fit x sx) (fit y sy) afresh) vs p k
