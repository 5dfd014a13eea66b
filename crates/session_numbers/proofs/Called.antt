-- The returns of the session's calls: the premises are what the callees ensure. Assumes nothing.
use Rattle.std.specs.Prelude.{Result, Ok, Err, Option, Some, None}
use Prim.Native.Nat.{ℕ}
use mathlib.Core.Bool.{true, false, true≢false}
use mathlib.Core.List.{List}
use mathlib.Core.Path.{◌≡◌, refl, sym, ap, ◌∙◌}
use native.Mathlib.Omega.{arith}
use Rattle.image.specs.declared.ImageFault.{ImageFault}
use Rattle.image.specs.Verdict.{verdict}
use Rattle.protocol.specs.declared.Answer.{Answer}
use Rattle.protocol.specs.declared.Phase.{Phase}
use Rattle.protocol.specs.Answers.{is_done}
use Rattle.calls.specs.declared.Outcome.{Outcome}
use Rattle.calls.specs.Outcomes.{After, after_with, refusal, checked}
use Rattle.calls.proofs.Settled.{checks_sound}
use Rattle.session_numbers.specs.declared.OutcomeNumbers.{OutcomeNumbers}
use Rattle.session_numbers.specs.declared.SessionNumbers.{SessionNumbers}
use Rattle.session_numbers.specs.Outcome.{Narrow, outcome_numbers, shown, shown_from, unknown_phase, shown_call}
use Rattle.session_numbers.specs.Session.{given_of}
use Rattle.session_numbers.proofs.Named.{none, checked_named}
use Rattle.session_numbers.proofs.Narrow.{unchanged_narrow}

-- a call's outcome has 32 bits in each number where what it leaves has
pub narrow_is : {x : Outcome} {im o : List ℕ} {a : After} → after_with x im o ≡ a → Narrow a.outcome → Narrow x
narrow_is e n = rw (ap (λ (b : After). b.outcome) e) n

-- the numbers of what a call leaves
pub shown_is : (s : SessionNumbers) {x : Outcome} {im o : List ℕ} {a : After} {r : OutcomeNumbers} → after_with x im o ≡ a → r ≡ outcome_numbers s x → shown r im o ≡ shown_from s a
shown_is s e p = rw p (ap (shown_from s) e)

-- the numbers stand for a phase: the session's call in that phase
pub called_known : (s : SessionNumbers) (im o : List ℕ) (call : Phase → After) {g : Option Phase} {ph : Phase} {x : Outcome} {im' o' : List ℕ} {r : OutcomeNumbers}
    → g ≡ given_of s → g ≡ Some ph → after_with x im' o' ≡ call ph → r ≡ outcome_numbers s x → shown r im' o' ≡ shown_call s im o call
unfolding shown_call
called_known s im o call eg k e p = shown_is s e p ∙ (rw (← eg, k))

-- they stand for none
pub called_unknown : (s : SessionNumbers) (im o : List ℕ) (call : Phase → After) {g : Option Phase} {r : OutcomeNumbers}
    → g ≡ given_of s → g ≡ None → r ≡ outcome_numbers s (unknown_phase im) → shown r im o ≡ shown_call s im o call
unfolding shown_call
called_unknown s im o call eg k p = rw (p, ← eg, k)

-- ---- no phase: restore's checks, and then 1
unchecked : (v : Result Unit ImageFault) → is_done (checked v Answer.Done) ≡ false → checked v Answer.Done ≡ checked v Answer.WrongPhase
unchecked (Ok tt) n = absurd (true≢false n)
unchecked (Err ImageFault.WrongSize) n = refl
unchecked (Err (ImageFault.BadBlock b)) n = refl
unchecked (Err (ImageFault.BadField b)) n = refl

module _ (s : SessionNumbers) (im : List ℕ) {a : Answer} (e : a ≡ checked (verdict im) Answer.Done) where
  pub unknown_refused : {x : Outcome} {r : OutcomeNumbers} → is_done a ≡ false → x ≡ refusal a Phase.Idle → r ≡ outcome_numbers s x → r ≡ outcome_numbers s (unknown_phase im)
  unknown_refused n p q = q ∙ (rw (p, e, unchecked (verdict im) (ap is_done (sym e) ∙ n)))

  pub unknown_sound : {x : Outcome} {r : OutcomeNumbers} → is_done a ≡ true → x ≡ refusal Answer.WrongPhase Phase.Idle → r ≡ outcome_numbers s x → r ≡ outcome_numbers s (unknown_phase im)
  unknown_sound t p q = q ∙ (rw (p, checks_sound im e t))

pub unknown_narrow : (im : List ℕ) {a : Answer} {x : Outcome} → a ≡ checked (verdict im) Answer.Done → x ≡ refusal a Phase.Idle → Narrow x
unknown_narrow im e p = rw (p, e) (unchanged_narrow (checked (verdict im) Answer.Done) Phase.Idle im im (checked_named im Answer.Done none))

pub barred_narrow : {x : Outcome} → x ≡ refusal Answer.WrongPhase Phase.Idle → Narrow x
barred_narrow p = rw p (record { block = none; written = omega arith; slot = omega arith })
