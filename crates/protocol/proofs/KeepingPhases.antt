-- Phases that the state allows. Assumes nothing.
use Prim.Native.Nat.{ℕ, ◌≤◌}
use mathlib.Core.Bool.{Bool, true, false}
use mathlib.Core.Path.{◌≡◌, refl}
use lib.Dec.{leb}
use borrow.Author.Tests.{le-leb, leb-true}
use Rattle.octets.specs.Pick.{pick}
use Rattle.octets.proofs.Choice.{both_true}
use Rattle.protocol.specs.declared.Phase.{Phase}
use Rattle.protocol.specs.declared.Progress.{Progress}
use Rattle.protocol.specs.Lawful.{Lawful}
use Rattle.protocol.specs.Phases.{phase_fits, resting_phase, up_with, issued_count}
use Rattle.protocol.specs.State.{State}
use Rattle.protocol.specs.Step.{broken}

-- a lawful state, and a phase that it allows
abbrev pub LawfulIn : State → Phase → Type 0
LawfulIn s ph = Lawful s × (phase_fits ph s ≡ true)

-- the phase at rest, of what a failed connection leaves
pub resting_fits : (s : State) → phase_fits (resting_phase s) (broken s) ≡ true
unfolding phase_fits
resting_fits s = by s.kept refl
  where
    by : (b : Bool) → s.kept ≡ b → phase_fits (pick b Phase.Failed Phase.Idle) (broken s) ≡ true
    by true e = e
    by false e = rw e

module _ (s : State) (resumed : Bool) (n : ℕ) where
  pub fits_up : s.kept ≡ true → n ≤ issued_count s → phase_fits (up_with resumed n) s ≡ true
  unfolding phase_fits
  fits_up k l = rw (le-leb n (issued_count s) l, k)

-- what UpFT tells of the state
pub up_fits : (s : State) (u : Progress) → phase_fits (Phase.UpFT u) s ≡ true → (s.kept ≡ true) × (u.sent ≤ issued_count s)
unfolding phase_fits
up_fits s u f = let p = both_true s.kept (leb u.sent (issued_count s)) f in (p.0, leb-true u.sent (issued_count s) p.1)
