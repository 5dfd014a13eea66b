-- What an answer leaves, by its number. Assumes nothing.
use Prim.Native.Nat.{◌≤◌, ◌<◌}
use mathlib.Core.Bool.{Bool, true, false, true≢false}
use mathlib.Core.Path.{◌≡◌, refl, sym, ◌∙◌}
use Rattle.octets.proofs.Choice.{by_test}
use Rattle.protocol.specs.declared.Answer.{Answer}
use Rattle.protocol.specs.declared.Effect.{Effect}
use Rattle.protocol.specs.declared.Phase.{Phase}
use Rattle.protocol.specs.Answers.{answer_number, effect_of, is_done}
use Rattle.protocol.specs.Phases.{phase_fits}
use Rattle.protocol.specs.State.{State}
use Rattle.protocol.specs.Step.{Step, unchanged, failed_with, released_with, settled_by, settle, admitted, where_open}
use Rattle.protocol.proofs.Effects.{act-done, done_is, effect_fail, effect_release}

module _ (a : Answer) (s : State) (ph : Phase) (d : Step) where
  pub settle-refusal : effect_of a ≡ Effect.Nothing → settle a s ph d ≡ unchanged a s ph
  unfolding settle
  settle-refusal e = rw e

  pub settle-does : is_done a ≡ true → settle a s ph d ≡ d
  unfolding settle effect_of
  settle-does t = rw t

  pub answered-failed : 20 ≤ answer_number a → answer_number a < 30 → settle a s ph d ≡ failed_with a s
  unfolding settle
  answered-failed l h = rw (← effect_fail a (answer_number a) refl l h)

  pub answered-released : 30 ≤ answer_number a → settle a s ph d ≡ released_with a
  unfolding settle
  answered-released l = rw (← effect_release a (answer_number a) refl l)

  -- where what is done says Done, the answer left is that of the tests
  pub settle_answer : d.answer ≡ Answer.Done → (settle a s ph d).answer ≡ a
  unfolding settle
  settle_answer e =
      by_test (is_done a)
      (λ t. rw (settle-does t) (e ∙ sym (done_is a t)))
      (λ n. by (effect_of a) refl n)
    where
      by : (f : Effect) → effect_of a ≡ f → is_done a ≡ false → (settled_by f a s ph d).answer ≡ a
      by Effect.Nothing q n = refl
      by Effect.Fail q n = refl
      by Effect.Release q n = refl
      by Effect.Act q n = absurd (act-done a q n)

-- ---- the phase that the state allows
pub admitted_is : (s : State) (ph : Phase) → phase_fits ph s ≡ true → (a : Answer) → admitted s ph a ≡ a
unfolding admitted
admitted_is s ph f a = rw f

-- a call that comes in a phase that the state allows and passes its tests does what it does
pub admitted-does : (s : State) (ph : Phase) → phase_fits ph s ≡ true → (a : Answer) → a ≡ Answer.Done → (d : Step) → settle (admitted s ph a) s ph d ≡ d
unfolding settle admitted effect_of
admitted-does s ph f a e d = rw (f, e)

-- an answer that, where it is not Done, leaves everything as it was
abbrev pub Harmless : Answer → Type 0
Harmless a = is_done a ≡ false → effect_of a ≡ Effect.Nothing

pub done_harmless : Harmless Answer.Done
done_harmless n = absurd (true≢false n)

pub admitted_harmless : (s : State) (ph : Phase) (a : Answer) → Harmless a → Harmless (admitted s ph a)
unfolding admitted effect_of
admitted_harmless s ph a h = by (phase_fits ph s)
  where
    by : (b : Bool) → Harmless (where_open b a)
    by true = h
    by false = λ n. refl

pub admitted-done : (s : State) (ph : Phase) (a : Answer) → is_done (admitted s ph a) ≡ true → is_done a ≡ true
unfolding admitted
admitted-done s ph a t = by (phase_fits ph s) t
  where
    by : (b : Bool) → is_done (where_open b a) ≡ true → is_done a ≡ true
    by true e = e
    by false e = absurd (true≢false (sym e))
