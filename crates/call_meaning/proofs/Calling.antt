-- The ways in which a call returns: by its first tests, and by its own. Assumes nothing.
use Prim.Native.Nat.{ℕ}
use mathlib.Core.Bool.{true, false}
use mathlib.Core.List.{List}
use mathlib.Core.Path.{◌≡◌, sym, ap, ◌∙◌}
use Rattle.image.specs.Verdict.{verdict, IsSound}
use Rattle.image.proofs.Sound.{sound_parts}
use Rattle.protocol.specs.declared.Answer.{Answer}
use Rattle.protocol.specs.declared.Effect.{Effect}
use Rattle.protocol.specs.declared.Phase.{Phase}
use Rattle.protocol.specs.Answers.{answer_number, effect_by, effect_of, is_done}
use Rattle.protocol.proofs.Settling.{done_harmless}
use Rattle.calls.specs.declared.Outcome.{Outcome}
use Rattle.calls.specs.Outcomes.{After, after_with, refusal, checked, admitted_on, settle_of}
use Rattle.calls.proofs.Ends.{settle-refusal, unchanged_is}
use Rattle.calls.proofs.Settled.{admit_refused, admit_passed, admitted_is, checks_sound}
use Rattle.call_meaning.proofs.Refusals.{checked_harmless, admitted_harmless, settle-does}

-- ---- restore's checks alone
module _ (im : List ℕ) {r : Answer} (e : r ≡ checked (verdict im) Answer.Done) where
  -- an image that they refuse is left as it is
  pub checks_refused : (ph : Phase) (o : List ℕ) (d : After) {x : Outcome} → is_done r ≡ false → x ≡ refusal r ph
      → after_with x im o ≡ settle_of (checked (verdict im) Answer.Done) ph im o d
  checks_refused ph o d n p =
      rw (← e) (unchanged_is r ph im o p ∙ sym (settle-refusal r ph im o d (ap effect_of e ∙ checked_harmless (verdict im) Answer.Done done_harmless (ap is_done (sym e) ∙ n))))

  -- one that they pass is sound
  pub checks_passed : is_done r ≡ true → IsSound im
  checks_passed t = sound_parts im (checks_sound im e t)

-- ---- restore's checks and the phase
module _ (im : List ℕ) (ph : Phase) {r : Answer} (e : r ≡ admitted_on im ph Answer.Done) (o : List ℕ) (a : Answer) (d : After) where
  -- a call that the first tests refuse changes nothing
  pub call_refused : {x : Outcome} → is_done r ≡ false → x ≡ refusal r ph → after_with x im o ≡ settle_of (admitted_on im ph a) ph im o d
  call_refused n p =
      rw (← admit_refused im ph e a n)
      (unchanged_is r ph im o p ∙ sym (settle-refusal r ph im o d (ap effect_of e ∙ admitted_harmless im ph Answer.Done done_harmless (ap is_done (sym e) ∙ n))))

  -- one that they pass is settled by its own answer
  pub call_own : {x : After} → is_done r ≡ true → x ≡ settle_of a ph im o d → x ≡ settle_of (admitted_on im ph a) ph im o d
  call_own t p = rw (admitted_is (admit_passed im ph e t) a) p

-- done: what the call does itself
pub own_done : (a : Answer) (ph : Phase) (im o : List ℕ) (d : After) {x : After} → is_done a ≡ true → x ≡ d → x ≡ settle_of a ph im o d
own_done a ph im o d t p = p ∙ sym (settle-does a ph im o d t)

-- a refusal of its own changes nothing
pub own_refused : (a : Answer) (ph : Phase) (im o : List ℕ) (d : After) {x : Outcome} → effect_of a ≡ Effect.Nothing → x ≡ refusal a ph → after_with x im o ≡ settle_of a ph im o d
own_refused a ph im o d f p = unchanged_is a ph im o p ∙ sym (settle-refusal a ph im o d f)

-- the same, of an answer that the code's tests led to
pub found_refused : {a x : Answer} (ph : Phase) (im o : List ℕ) (d : After) {r : Outcome} → a ≡ x → r ≡ refusal a ph → effect_by (answer_number a) ≡ Effect.Nothing
    → after_with r im o ≡ settle_of x ph im o d
unfolding effect_of
found_refused {a} ph im o d e p f = rw (← e) (own_refused a ph im o d f p)
