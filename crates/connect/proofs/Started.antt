-- The returns of Format and Restore. Assumes nothing.
use Rattle.std.specs.Prelude.{Result, Ok, Err}
use Prim.Native.Nat.{ℕ}
use mathlib.Core.Bool.{Bool, true, false, not}
use mathlib.Core.List.{List, []}
use mathlib.Core.Path.{◌≡◌, refl, sym, ◌∙◌}
use native.Mathlib.Omega.{arith}
use lib.Dec.{eqb}
use lib.ListN.{length}
use Rattle.octets.specs.Pick.{pick}
use Rattle.image.specs.declared.ImageFault.{ImageFault}
use Rattle.image.specs.Events.{size_verdict, new_image, formatted_image}
use Rattle.image.specs.Sizes.{image_size}
use Rattle.image.specs.Verdict.{verdict, verdict_number}
use Rattle.protocol.specs.declared.Answer.{Answer}
use Rattle.protocol.specs.declared.Phase.{Phase}
use Rattle.protocol.specs.Answers.{effect_of, is_done}
use Rattle.calls.specs.declared.Outcome.{Outcome}
use Rattle.calls.specs.Outcomes.{After, after_with, refusal, call_of, checked, failed_on, settle_of}
use Rattle.calls.proofs.Ends.{settle-done}
use Rattle.calls.proofs.Settled.{checks_sound}
use Rattle.call_meaning.proofs.Calling.{checks_refused, own_refused}
use Rattle.connect.specs.Start.{formatted, format_of, restore_of}

-- ---- Format
-- by the size, what Format and the image's own format say
module _ (im : List ℕ) {v : Result Unit ImageFault} {n : ℕ} {im' : List ℕ} (ev : (v ≡ size_verdict im) × (im' ≡ formatted_image im)) (en : n ≡ verdict_number v) where
  pub format_wrong : {x : Outcome} → (n ≡ 0 → ⊥) → x ≡ refusal Answer.WrongSize Phase.Idle → after_with x im' [] ≡ format_of im
  unfolding size_verdict formatted_image format_of effect_of
  format_wrong {x} apart p = by (eqb (length im) image_size) refl
    where
      by : (b : Bool) → eqb (length im) image_size ≡ b → after_with x im' [] ≡ settle_of (pick (not b) Answer.WrongSize Answer.Done) Phase.Idle im [] formatted
      by true t = let z : v ≡ (Ok tt) = ev.0 ∙ rw t in absurd (apart (en ∙ rw z))
      by false t = let z : im' ≡ im = ev.1 ∙ rw t in rw z (own_refused Answer.WrongSize Phase.Idle im [] formatted refl p)

  pub format_right : n ≡ 0 → after_with formatted.outcome im' [] ≡ format_of im
  unfolding size_verdict formatted_image format_of
  format_right zero = by (eqb (length im) image_size) refl
    where
      by : (b : Bool) → eqb (length im) image_size ≡ b → after_with formatted.outcome im' [] ≡ settle_of (pick (not b) Answer.WrongSize Answer.Done) Phase.Idle im [] formatted
      by true t = let z : im' ≡ new_image = ev.1 ∙ rw t in rw z (sym (settle-done Phase.Idle im [] formatted))
      by false t = let z : v ≡ (Err ImageFault.WrongSize) = ev.0 ∙ rw t in let k : 12 ≡ n = rw (en, z) in absurd (omega arith)

-- ---- Restore
module _ (im : List ℕ) {r : Answer} (e : r ≡ checked (verdict im) Answer.Done) where
  pub restore_refused : {x : Outcome} → is_done r ≡ false → x ≡ refusal r Phase.Idle → after_with x im [] ≡ restore_of im
  unfolding restore_of call_of failed_on
  restore_refused n p = checks_refused im e Phase.Idle [] (failed_on Answer.Done im []) n p

  pub restore-passed : {x : After} → is_done r ≡ true → x ≡ failed_on Answer.Done im [] → x ≡ restore_of im
  unfolding restore_of call_of failed_on
  restore-passed t p = rw (checks_sound im e t) (p ∙ sym (settle-done Phase.Idle im [] (failed_on Answer.Done im [])))
