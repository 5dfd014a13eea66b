-- What the peer's Init leaves, where it is not refused, and where its parameters are others. Assumes nothing.
use Rattle.std.specs.Prelude.{Result, Err}
use Prim.Native.Nat.{ℕ}
use mathlib.Core.Bool.{Bool}
use mathlib.Core.List.{[], List}
use mathlib.Core.Path.{◌≡◌, refl, ◌∙◌, ap}
use native.Mathlib.Omega.{arith}
use Rattle.protocol.specs.declared.Answer.{Answer}
use Rattle.protocol.specs.declared.Phase.{Phase}
use Rattle.protocol.specs.declared.Start.{Start}
use Rattle.protocol.specs.Init.{init_received, init_start, start_answer, start_phase, start_state}
use Rattle.protocol.specs.Phases.{phase_fits, up_with, waiting_for}
use Rattle.protocol.specs.State.{State}
use Rattle.protocol.specs.Step.{Step, admitted, released_with, settle, stepped}
use Rattle.protocol.proofs.Settling.{answered-released, settle-does}

module _ (now : State) (t : ℕ) (m : List ℕ) where
  abbrev ph : Phase
  ph = waiting_for t

  abbrev st : Result Start Answer
  st = init_start now ph m

  abbrev x : Step
  x = init_received now ph m

  abbrev does : Step
  does = stepped Answer.Done (start_state now st) (start_phase ph st) []

  is : x ≡ settle (start_answer st) now ph does
  unfolding init_received admitted phase_fits
  is = refl

  -- a start that is not refused
  pub begins : (s : State) → start_answer st ≡ Answer.Done → start_state now st ≡ s → (resumed : Bool) → start_phase ph st ≡ up_with resumed 0 → x ≡ stepped Answer.Done s (up_with resumed 0) []
  begins s d e resumed f = is ∙ ap (λ (a : Answer). settle a now ph does) d ∙ settle-does Answer.Done now ph does refl ∙ rw (e, f)

  -- one that is refused with 35 releases
  pub changed : st ≡ Err Answer.ParametersChanged → x ≡ released_with Answer.ParametersChanged
  changed e = is ∙ ap (λ (a : Answer). settle a now ph does) (ap start_answer e) ∙ answered-released Answer.ParametersChanged now ph does (omega arith)
