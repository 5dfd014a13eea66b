-- The steps from R to I as a count, and the phases that an image allows, by block 0's numbers. Assumes nothing.
use Rattle.std.specs.Prelude.{Option}
use Prim.Native.Nat.{ℕ}
use mathlib.Core.Bool.{Bool}
use mathlib.Core.List.{List}
use mathlib.Core.Path.{◌≡◌, refl}
use Rattle.ft_number.specs.Circle.{steps_of}
use Rattle.block0.specs.declared.Header.{Header}
use Rattle.image.specs.State.{decode}
use Rattle.protocol.specs.declared.Phase.{Phase}
use Rattle.protocol.specs.Phases.{count_of, issued_count, phase_fits}
use Rattle.protocol.specs.State.{State}
use Rattle.calls.specs.State.{state_by, state_of, state_of_numbers}

pub issued_is : (s : State) (x t : Option ℕ) → x ≡ steps_of s.released.0 s.issued.0 → x ≡ t → count_of t ≡ issued_count s
unfolding issued_count
issued_is s x t e g = rw (← e, g)

-- the numbers decide alone which have a number and which phase fits
module _ (h : Header) (words ids index : List ℕ) (queue : List (List ℕ)) where
  pub issued_alone : issued_count (state_by h words ids index queue) ≡ issued_count (state_of_numbers h)
  unfolding issued_count
  issued_alone = refl

  fits_alone : (ph : Phase) → phase_fits ph (state_by h words ids index queue) ≡ phase_fits ph (state_of_numbers h)
  unfolding phase_fits issued_count
  fits_alone Phase.Idle = refl
  fits_alone (Phase.InitWait v) = refl
  fits_alone (Phase.UpFT u) = refl
  fits_alone Phase.UpPlain = refl
  fits_alone Phase.Failed = refl

-- a test's result, of a header that was read
pub fits_read : (im : List ℕ) (ph : Phase) {h : Header} {b t : Bool} → b ≡ phase_fits ph (state_of_numbers h) → h ≡ (decode im).header → b ≡ t → phase_fits ph (state_of im) ≡ t
fits_read im ph e f g = rw (fits_alone (decode im).header (decode im).labels (decode im).ids (decode im).index (decode im).queue ph, ← f, ← e) g
