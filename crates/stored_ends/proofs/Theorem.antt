-- Demand 3 on the media: over any run of two cabinets, with power cut after any store of any call. Assumes nothing.
use mathlib.Core.Bool.{Bool}
use mathlib.Core.List.{List, []}
use mathlib.Core.Path.{◌≡◌, refl, sym, ap, ◌∙◌}
use Rattle.protocol.specs.Phases.{phase_fits}
use Rattle.calls.specs.State.{state_of}
use Rattle.two_ends.specs.Demand.{Demand}
use Rattle.two_ends.specs.Runs.{run}
use Rattle.two_ends.specs.Start.{Afresh, Fit, opening_end, start}
use Rattle.two_ends.specs.World.{Lasts, World}
use Rattle.two_ends.proofs.Begun.{at-start}
use Rattle.two_ends.proofs.Theorem.{nothing_lost as rules-lose-nothing}
use Rattle.call_meaning.proofs.Putting.{lawful_image}
use Rattle.stored_ends.specs.Demand.{StoredDemand, stored_world}
use Rattle.stored_ends.specs.Pair.{AllProperHappenings, Happening, Pair, run_stored}
use Rattle.stored_ends.specs.Start.{Holder, Sound, begins, cabinet_of, opener_of}
use Rattle.stored_ends.proofs.Follows.{Followed, run_follows}
use Rattle.stored_ends.proofs.Synced.{Synced}
use Rattle.stored_ends.proofs.Tracks.{Both, proposed_low}

-- the states are those that the media stand for
pub on_media_lem : (z : Pair) → Both z → z.world ≡ stored_world z
on_media_lem z b =
    let own : z.world.a.state ≡ state_of z.own.medium = b.own.state ∙ ap state_of (sym b.own.medium) in
    let peer : z.world.b.state ≡ state_of z.peer.medium = b.peer.state ∙ ap state_of (sym b.peer.medium) in
    λ i. record {
      a = record { state = own i; phase = z.world.a.phase; joined = z.world.a.joined; begun = z.world.a.begun; history = z.world.a.history };
      b = record { state = peer i; phase = z.world.b.phase; joined = z.world.b.joined; begun = z.world.b.begun; history = z.world.b.history };
      ab = z.world.ab;
      ba = z.world.ba;
      started = z.world.started;
      unreleased = z.world.unreleased;
    }

-- ---- the start
pub fit : (o : Holder) → Sound o → Fit (opener_of o)
fit o s = let law = lawful_image o.image s.sound s.range in record { few = law.few; range = law.secured; widths = s.widths; proposal = s.proposal }

synced : (o : Holder) (s : Sound o) → Synced (opening_end (opener_of o)) (cabinet_of o)
unfolding phase_fits
synced o s = record {
  stand = record { sound = s.sound; range = s.range; fits = refl };
  state = refl;
  medium = refl;
  timed = proposed_low o.proposal s.proposal;
}

pub begins-both : (x y : Holder) → Sound x → Sound y → Both (begins x y)
begins-both x y sx sy = record { own = synced x sx; peer = synced y sy }

module _ (x y : Holder) (sx : Sound x) (sy : Sound y) (afresh : Afresh (opener_of x) (opener_of y)) (vs : List (Bool × Happening)) (p : AllProperHappenings vs) where
  abbrev z : Pair
  z = run_stored (begins x y) vs

  -- THE RUN IS A RUN OF THE RULES: every theorem on two ends over the rules is one on the two cabinets
  pub follows : Lasts z.world → Followed (start (opener_of x) (opener_of y)) z
  follows =
      run_follows (start (opener_of x) (opener_of y)) (at-start (opener_of x) (opener_of y) (fit x sx) (fit y sy) afresh) (begins x y) vs p
      (λ k. record { events = []; proper = tt; world = refl; both = begins-both x y sx sy })

  -- ---- THE THEOREM
  pub nothing_lost : Lasts z.world → StoredDemand z
  nothing_lost k =
      let f = follows k in
      let w : World = run (start (opener_of x) (opener_of y)) f.events in
      let d : Demand w = rules-lose-nothing (opener_of x) (opener_of y) (fit x sx) (fit y sy) afresh f.events f.proper (rw (← f.world) k) in
      record {
        demand = rw (← on_media_lem z f.both, f.world) d;
        own = rw f.both.own.medium f.both.own.stand.sound;
        peer = rw f.both.peer.medium f.both.peer.stand.sound;
      }
