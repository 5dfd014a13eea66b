-- A call that changes nothing. Assumes nothing.
use mathlib.Core.Bool.{false}
use mathlib.Core.Path.{◌≡◌, refl}
use Rattle.protocol.specs.declared.Answer.{Answer}
use Rattle.protocol.specs.declared.Effect.{Effect}
use Rattle.protocol.specs.declared.Phase.{Phase}
use Rattle.protocol.specs.Answers.{effect_of, is_done}
use Rattle.protocol.specs.State.{State}
use Rattle.protocol.specs.Step.{Step, admitted, settle}
use Rattle.protocol.proofs.Settling.{Harmless, admitted_harmless, settle-refusal}

pub record Quiet (now : State) (ph : Phase) (x : Step) : Type 0 where
  pub state : x.state ≡ now
  pub phase : x.phase ≡ ph
  pub still : is_done x.answer ≡ false

settled_quiet : (a : Answer) (now : State) (ph : Phase) (d : Step) → effect_of a ≡ Effect.Nothing → is_done a ≡ false → Quiet now ph (settle a now ph d)
settled_quiet a now ph d e n = rw (settle-refusal a now ph d e) (record { state = refl; phase = refl; still = n })

-- a call whose refusals change nothing is quiet where it is not done
pub refused_quiet : (a : Answer) (now : State) (ph : Phase) (d : Step) → Harmless a → is_done (admitted now ph a) ≡ false → Quiet now ph (settle (admitted now ph a) now ph d)
refused_quiet a now ph d h n = settled_quiet (admitted now ph a) now ph d (admitted_harmless now ph a h n) n
