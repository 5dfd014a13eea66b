-- The first tests of a call, and what its answer leaves. Assumes nothing.
use Rattle.std.specs.Prelude.{Result, Ok, Err}
use Prim.Native.Nat.{ℕ, ◌<◌}
use mathlib.Core.Bool.{Bool, true, false, true≢false}
use mathlib.Core.List.{List}
use mathlib.Core.Path.{◌≡◌, refl, sym, ap, ◌∙◌}
use native.Mathlib.Omega.{arith}
use borrow.Author.Tests.{eqb-true}
use Rattle.image.specs.declared.ImageFault.{ImageFault}
use Rattle.image.specs.Verdict.{verdict, IsSound}
use Rattle.image.proofs.Sound.{sound_parts}
use Rattle.protocol.specs.declared.Answer.{Answer}
use Rattle.protocol.specs.declared.Phase.{Phase}
use Rattle.protocol.specs.Answers.{answer_number, is_done}
use Rattle.protocol.specs.Phases.{phase_fits}
use Rattle.protocol.specs.Step.{where_open, admitted}
use Rattle.calls.specs.Outcomes.{checked, admitted_on}
use Rattle.calls.specs.State.{state_of}

-- what a call knows that was admitted_on
pub record Admitted (im : List ℕ) (ph : Phase) : Type 0 where
  pub passes : verdict im ≡ Ok tt
  pub fits : phase_fits ph (state_of im) ≡ true

-- ---- the first tests, and then an answer
-- what holds of the refusals by the first tests, and of the answer that comes where they are passed, holds of the answer
module _ (P : Answer → Type 0) (refused : (x : Answer) → 0 < answer_number x → answer_number x < 20 → P x) where
  -- restore's checks
  pub checked_all : (v : Result Unit ImageFault) {a : Answer} → (v ≡ Ok tt → P a) → P (checked v a)
  checked_all (Ok tt) p = p refl
  checked_all (Err ImageFault.WrongSize) p = refused Answer.WrongSize (omega arith) (omega arith)
  checked_all (Err (ImageFault.BadBlock b)) p = refused (Answer.BadBlock b) (omega arith) (omega arith)
  checked_all (Err (ImageFault.BadField b)) p = refused (Answer.BadField b) (omega arith) (omega arith)

  -- restore's checks, and then the phase
  pub admitted_all : (im : List ℕ) (ph : Phase) {a : Answer} → (Admitted im ph → P a) → P (admitted_on im ph a)
  unfolding admitted_on admitted
  admitted_all im ph {a} p = checked_all (verdict im) (λ s. by (phase_fits ph (state_of im)) refl s)
    where
      by : (b : Bool) → phase_fits ph (state_of im) ≡ b → verdict im ≡ Ok tt → P (where_open b a)
      by true f s = p (record { passes = s; fits = f })
      by false f s = refused Answer.WrongPhase (omega arith) (omega arith)

not_done : (x : Answer) → 0 < answer_number x → is_done x ≡ true → ⊥
not_done x l t = let z : answer_number x ≡ 0 = eqb-true (answer_number x) 0 t in omega arith

-- an image that the checks pass is sound
pub checks_sound : (im : List ℕ) {r : Answer} → r ≡ checked (verdict im) Answer.Done → is_done r ≡ true → verdict im ≡ Ok tt
checks_sound im e t =
    checked_all (λ (x : Answer). is_done x ≡ true → verdict im ≡ Ok tt) (λ x l m t. absurd (not_done x l t)) (verdict im) (λ s t. s) (ap is_done (sym e) ∙ t)

-- a call that is done was admitted_on, and its own tests are passed
pub admitted-done : (im : List ℕ) (ph : Phase) (a : Answer) → is_done (admitted_on im ph a) ≡ true → Admitted im ph × (is_done a ≡ true)
admitted-done im ph a =
    admitted_all (λ (x : Answer). is_done x ≡ true → Admitted im ph × (is_done a ≡ true)) (λ x l m t. absurd (not_done x l t)) im ph (λ d t. (d, t))

refused_same : (v : Result Unit ImageFault) (b : Bool) (a c : Answer) → (is_done a ≡ false → a ≡ c) → is_done (checked v (where_open b a)) ≡ false
    → checked v (where_open b a) ≡ checked v (where_open b c)
refused_same (Ok tt) true a c h n = h n
refused_same (Ok tt) false a c h n = refl
refused_same (Err ImageFault.WrongSize) b a c h n = refl
refused_same (Err (ImageFault.BadBlock k)) b a c h n = refl
refused_same (Err (ImageFault.BadField k)) b a c h n = refl

-- a refusal is the same where the call's own tests agree on theirs
pub admitted-other : (im : List ℕ) (ph : Phase) (a c : Answer) → (is_done a ≡ false → a ≡ c) → is_done (admitted_on im ph a) ≡ false → admitted_on im ph a ≡ admitted_on im ph c
unfolding admitted_on admitted
admitted-other im ph a c h n = refused_same (verdict im) (phase_fits ph (state_of im)) a c h n

-- ---- the tests as the code makes them
module _ (im : List ℕ) (ph : Phase) where
  pub admit_checks : (a : Answer) {r : Answer} → r ≡ checked (verdict im) Answer.Done → is_done r ≡ false → r ≡ admitted_on im ph a
  unfolding admitted_on admitted
  admit_checks a e n =
      e ∙ refused_same (verdict im) true Answer.Done (where_open (phase_fits ph (state_of im)) a) (λ z. absurd (true≢false z)) (ap is_done (sym e) ∙ n)

  pub admit_phase : (a : Answer) → verdict im ≡ Ok tt → phase_fits ph (state_of im) ≡ false → Answer.WrongPhase ≡ admitted_on im ph a
  unfolding admitted_on admitted
  admit_phase a s f = rw (s, f)

  pub admit_rest : (a : Answer) → verdict im ≡ Ok tt → phase_fits ph (state_of im) ≡ true → a ≡ admitted_on im ph a
  unfolding admitted_on admitted
  admit_rest a s f = rw (s, f)

module _ (im : List ℕ) (ph : Phase) {r : Answer} (e : r ≡ admitted_on im ph Answer.Done) where
  -- a call that is not admitted_on is answered so, whatever its own tests would say
  pub admit_refused : (a : Answer) → is_done r ≡ false → r ≡ admitted_on im ph a
  admit_refused a n = e ∙ admitted-other im ph Answer.Done a (λ z. absurd (true≢false z)) (ap is_done (sym e) ∙ n)

  -- one that is admitted_on has a sound image and a phase that it allows
  pub admit_passed : is_done r ≡ true → Admitted im ph
  admit_passed t = (admitted-done im ph Answer.Done (ap is_done (sym e) ∙ t)).0

-- then its own tests decide
pub admitted_is : {im : List ℕ} {ph : Phase} → Admitted im ph → (a : Answer) → admitted_on im ph a ≡ a
admitted_is {im} {ph} d a = sym (admit_rest im ph a d.passes d.fits)

-- a call that is admitted has a sound image
pub admitted-sound : {im : List ℕ} {ph : Phase} → Admitted im ph → IsSound im
admitted-sound {im} d = sound_parts im d.passes
