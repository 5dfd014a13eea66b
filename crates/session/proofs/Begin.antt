-- How an image and a session begin: Format of any bytes, Restore of any image. Assumes nothing.
use Rattle.std.specs.Prelude.{Result, Ok, Err}
use Prim.Native.Nat.{ℕ}
use mathlib.Core.List.{List, []}
use mathlib.Core.Path.{◌≡◌, refl}
use lib.ListN.{length}
use borrow.Author.Tests.{eq-eqb, ne_eqb}
use Rattle.image.specs.declared.ImageFault.{ImageFault}
use Rattle.image.specs.Sizes.{image_size}
use Rattle.image.specs.Verdict.{IsSound, verdict}
use Rattle.image.proofs.Changes.{in_range_released, new_decodes, new_sound}
use Rattle.image.proofs.Sound.{parts_sound}
use Rattle.protocol.specs.declared.Answer.{Answer}
use Rattle.protocol.specs.declared.Phase.{Phase}
use Rattle.protocol.specs.Answers.{effect_of}
use Rattle.protocol.specs.Calls.{formats, restores}
use Rattle.protocol.specs.Phases.{phase_fits}
use Rattle.calls.specs.Outcomes.{call_of, checked, failed_on, settle_of, untouched}
use Rattle.call_meaning.specs.Standing.{Stands}
use Rattle.connect.specs.Start.{format_of, formatted, restore_of}
use Rattle.session.specs.Call.{leaves}

module _ (im : List ℕ) (ph : Phase) (out : List ℕ) where
  -- of the right size, whatever its bytes are
  pub format_formats : length im ≡ image_size → leaves formats im ph out ≡ formatted
  unfolding leaves format_of settle_of effect_of
  format_formats size = rw (eq-eqb (length im) image_size size)

  -- of another size it is left
  pub format-refuses : (length im ≡ image_size → ⊥) → leaves formats im ph out ≡ untouched Answer.WrongSize Phase.Idle im []
  unfolding leaves format_of settle_of effect_of
  format-refuses other = rw (ne_eqb (length im) image_size other)

  -- what restore's checks refuse is left, and is no session
  pub restore-refuses : (v : Result Unit ImageFault) → verdict im ≡ v → (v ≡ Ok tt → ⊥) → leaves restores im ph out ≡ untouched (checked v Answer.Done) Phase.Idle im []
  unfolding leaves restore_of call_of settle_of effect_of
  restore-refuses (Ok tt) e n = absurd (n refl)
  restore-refuses (Err ImageFault.WrongSize) e n = rw e
  restore-refuses (Err (ImageFault.BadBlock b)) e n = rw e
  restore-refuses (Err (ImageFault.BadField b)) e n = rw e

  -- what they pass is as after a break: "It frees code 6 words, as after a break, and answers Failed if kept, else Idle"
  pub restore-passes : IsSound im → leaves restores im ph out ≡ failed_on Answer.Done im []
  unfolding leaves restore_of call_of settle_of effect_of failed_on
  restore-passes s = rw (parts_sound im s)

-- a new image is released and sound, and Idle is its phase
pub formatted_stands : Stands formatted
unfolding phase_fits
formatted_stands = record { sound = new_sound; range = rw new_decodes in_range_released; fits = rw new_decodes }
