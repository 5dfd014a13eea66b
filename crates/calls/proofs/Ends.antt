-- How a call ends, by its answer's effect. Assumes nothing.
use Prim.Native.Nat.{ℕ}
use mathlib.Core.Bool.{Bool, true, false}
use mathlib.Core.List.{List}
use mathlib.Core.Logic.{◌≢◌}
use mathlib.Core.Path.{◌≡◌, refl, sym, ◌∙◌}
use lib.Dec.{eqb, ltb}
use Rattle.octets.specs.Bytes.{Bytes}
use Rattle.octets.specs.Laid.{laid}
use Rattle.octets.specs.Pick.{pick}
use Rattle.octets.proofs.Differ.{differ_self}
use Rattle.block0.specs.declared.Header.{Header}
use Rattle.block0.specs.Coded.{unprotected}
use Rattle.image.specs.Events.{release_of, break_of}
use Rattle.image.specs.Sizes.{block}
use Rattle.image.specs.State.{decode}
use Rattle.image.specs.Verdict.{IsSound}
use Rattle.image.proofs.Same.{break_same, break_changed, release_same, release-changed}
use Rattle.protocol.specs.declared.Answer.{Answer}
use Rattle.protocol.specs.declared.Effect.{Effect}
use Rattle.protocol.specs.declared.Phase.{Phase}
use Rattle.protocol.specs.Answers.{answer_number, effect_by, effect_of, is_done}
use Rattle.protocol.specs.Phases.{resting_phase}
use Rattle.calls.specs.declared.Outcome.{Outcome}
use Rattle.calls.specs.Outcomes.{After, after_with, refusal, settle_of, untouched, failed_on, released_on, left_by}
use Rattle.calls.specs.State.{state_of_numbers}
use Rattle.calls.proofs.FurtherBits.{further_break, further-release, further_self}
use Rattle.calls.proofs.Putting.{break_puts, release_puts}

-- ---- as connection failed; the premises are what the callees ensure
module _ (a : Answer) (im o : List ℕ) (s : IsSound im) (byte : Bytes im) {h : Header} {ph : Phase} {b : Bool}
    (e₁ : h ≡ (decode im).header) (e₂ : ph ≡ resting_phase (state_of_numbers h)) (e₃ : b ≡ unprotected (decode im).labels) where
  -- no label is used without protection: the image stays as it is
  pub fail_none : {r : Outcome} → b ≡ false → r ≡ refusal a ph → after_with r im o ≡ failed_on a im o
  unfolding failed_on laid
  fail_none f e = rw (break_puts im s, break_same im s byte (sym e₃ ∙ f), differ_self (block im 0), further_self im, e, e₂, e₁)

  pub fail_some : {im' : List ℕ} → b ≡ true → im' ≡ break_of im
      → after_with (record { answer = a; phase = ph; written = 0; slot = 0; block0 = true; further = 0; leftout = 0 }) im' o ≡ failed_on a im o
  unfolding failed_on laid
  fail_some t e = rw (break_puts im s, ← break_changed im s byte (sym e₃ ∙ t), further_break im s.size, e, e₂, e₁)

-- ---- released
module _ (a : Answer) (im o : List ℕ) (s : IsSound im) {h : Header} (e : h ≡ (decode im).header) where
  -- with kept 0 the image stays as it is
  pub release_none : {r : Outcome} → Bytes im → h.kept ≡ 0 → r ≡ refusal a Phase.Idle → after_with r im o ≡ released_on a im o
  unfolding released_on laid
  release_none byte idle p = rw (release_puts im, release_same im s byte (rw e at idle), differ_self (block im 0), further_self im, p)

  pub release_some : {im' : List ℕ} → h.kept ≢ 0 → im' ≡ release_of im
      → after_with (record { answer = a; phase = Phase.Idle; written = 0; slot = 0; block0 = true; further = 0; leftout = 0 }) im' o ≡ released_on a im o
  unfolding released_on laid
  release_some kept p = rw (release_puts im, ← release-changed im s.size (rw e at kept), further-release im s.size, p)

-- ---- by the answer's effect
module _ (a : Answer) (ph : Phase) (im o : List ℕ) (done : After) {f : Effect} (e : f ≡ effect_of a) where
  pub settle_nothing : {r : Outcome} → f ≡ Effect.Nothing → r ≡ refusal a ph → after_with r im o ≡ settle_of a ph im o done
  unfolding settle_of
  settle_nothing t p = rw (← e, t, p)

  pub settle_fail : {x : After} → f ≡ Effect.Fail → x ≡ failed_on a im o → x ≡ settle_of a ph im o done
  unfolding settle_of
  settle_fail t p = rw (← e, t) p

  pub settle-release : {x : After} → f ≡ Effect.Release → x ≡ released_on a im o → x ≡ settle_of a ph im o done
  unfolding settle_of
  settle-release t p = rw (← e, t) p

  -- what the call does itself
  pub settle-act : {x : After} → f ≡ Effect.Act → x ≡ done → x ≡ settle_of a ph im o done
  unfolding settle_of
  settle-act t p = rw (← e, t) p

-- an answer that is not Done settles so whatever the call would have done
pub settle_other : (a : Answer) (ph : Phase) (im o : List ℕ) (d d' : After) → is_done a ≡ false → settle_of a ph im o d ≡ settle_of a ph im o d'
unfolding settle_of effect_of
settle_other a ph im o d d' n = by (answer_number a) n
  where
    by : (k : ℕ) → eqb k 0 ≡ false → left_by (effect_by k) a ph im o d ≡ left_by (effect_by k) a ph im o d'
    by k n = rw n (chosen (ltb k 20) (ltb k 30))
      where
        chosen : (b c : Bool) → left_by (pick b Effect.Nothing (pick c Effect.Fail Effect.Release)) a ph im o d ≡ left_by (pick b Effect.Nothing (pick c Effect.Fail Effect.Release)) a ph im o d'
        chosen true c = refl
        chosen false true = refl
        chosen false false = refl

-- Done does what the call does
pub settle-done : (ph : Phase) (im o : List ℕ) (d : After) → settle_of Answer.Done ph im o d ≡ d
unfolding settle_of effect_of
settle-done ph im o d = refl

-- a refusal
pub settle-refusal : (a : Answer) (ph : Phase) (im o : List ℕ) (d : After) → effect_of a ≡ Effect.Nothing → settle_of a ph im o d ≡ untouched a ph im o
unfolding settle_of
settle-refusal a ph im o d e = rw e

pub unchanged_is : (a : Answer) (ph : Phase) (im o : List ℕ) {r : Outcome} → r ≡ refusal a ph → after_with r im o ≡ untouched a ph im o
unchanged_is a ph im o e = rw e
