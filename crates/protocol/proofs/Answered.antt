-- What every call leaves by the number of its answer, and what each answers. Assumes nothing.
use Prim.Native.Nat.{ℕ, ◌≤◌, ◌<◌}
use mathlib.Core.Bool.{true, false}
use mathlib.Core.List.{List, []}
use mathlib.Core.Logic.{◌≢◌}
use mathlib.Core.Path.{◌≡◌, refl, sym, ap, ◌∙◌}
use native.Mathlib.Omega.{arith}
use lib.Dec.{ltb}
use borrow.Author.Tests.{ltb-true, ltb-false, ne_eqb}
use Rattle.octets.proofs.Choice.{by_test, no}
use Rattle.message.specs.Reading.{reading_of}
use Rattle.protocol.specs.declared.Answer.{Answer}
use Rattle.protocol.specs.declared.Effect.{Effect}
use Rattle.protocol.specs.declared.Phase.{Phase}
use Rattle.protocol.specs.Answers.{answer_number, effect_of, is_done}
use Rattle.protocol.specs.Calls.{Call, step}
use Rattle.protocol.specs.Hearing.{hears}
use Rattle.protocol.specs.Init.{init_start, start_answer, start_phase, start_state, init_received}
use Rattle.protocol.specs.Judged.{judged, done}
use Rattle.protocol.specs.Lawful.{Lawful, Window}
use Rattle.protocol.specs.Phases.{phase_fits, awaits}
use Rattle.protocol.specs.Proper.{Proper}
use Rattle.protocol.specs.Receive.{receive_rule, taken_as, receive}
use Rattle.protocol.specs.State.{State, held, with_table}
use Rattle.protocol.specs.Step.{Step, stepped, unchanged, failed_with, released_with, admitted, settle, where_open}
use Rattle.protocol.specs.Submit.{submit_rule, submitted, submit}
use Rattle.protocol.proofs.Effects.{effect_nothing, effect_fail, effect_release}
use Rattle.protocol.proofs.Hearing.{harmless}
use Rattle.protocol.proofs.KeepingCalls.{lawful_step}
use Rattle.protocol.proofs.Settles.{taken-done, settles, step_answer, ends}
use Rattle.protocol.proofs.Settling.{settle_answer, settle-does, settle-refusal, answered-failed, answered-released}

module _ (c : Call) (s : State) (ph : Phase) (room : ℕ) where
  abbrev said : Answer
  said = (step c s ph room).answer

  number_is : answer_number said ≡ answer_number (judged c s ph room)
  number_is = ap (λ (a : Answer). answer_number a) (step_answer c s ph room)

  -- "1 .. 13: nothing changed": neither the state, nor the phase, nor the output
  pub refusal-changes_nothing : 0 < answer_number said → answer_number said < 20 → step c s ph room ≡ unchanged said s ph
  refusal-changes_nothing l h =
      let a : Answer = judged c s ph room in
      settles c s ph room
      ∙ settle-refusal a s ph (done c s ph) (sym (effect_nothing a (answer_number a) refl (omega (arith, number_is)) (omega (arith, number_is))))
      ∙ ap (λ (x : Answer). unchanged x s ph) (sym (step_answer c s ph room))

  -- "20 .. 23: as connection failed, ACK unapplied": of the state as it was given
  pub failure_is : 20 ≤ answer_number said → answer_number said < 30 → step c s ph room ≡ failed_with said s
  failure_is l h =
      settles c s ph room
      ∙ answered-failed (judged c s ph room) s ph (done c s ph) (omega (arith, number_is)) (omega (arith, number_is))
      ∙ ap (λ (x : Answer). failed_with x s) (sym (step_answer c s ph room))

  -- "30 .. 36: released, Idle"
  pub release_is : 30 ≤ answer_number said → step c s ph room ≡ released_with said
  release_is l =
      settles c s ph room
      ∙ answered-released (judged c s ph room) s ph (done c s ph) (omega (arith, number_is))
      ∙ ap (λ (x : Answer). released_with x) (sym (step_answer c s ph room))

  -- "Every answer except 0 writes no output byte"
  pub only_done_writes : answer_number said ≢ 0 → (step c s ph room).output ≡ []
  only_done_writes other =
      ends c s ph room (λ (x : Step). x.output ≡ [])
      (λ e. refl)
      (λ e. refl)
      (λ e. refl)
      (λ d. absurd (other (number_is ∙ ap (λ (a : Answer). answer_number a) d)))

  -- of what is neither done nor released no number moves and everything held stays held: nothing but the label words may change
  pub other-keeps : 0 < answer_number said → answer_number said < 30 → (step c s ph room).state ≡ with_table s (step c s ph room).state.table
  other-keeps l h =
      by_test (ltb (answer_number said) 20)
      (λ t. rw (refusal-changes_nothing l (ltb-true (answer_number said) 20 t)))
      (λ f. rw (failure_is (ltb-false (answer_number said) 20 f) h))

  -- only a message of the peer's fails a connection or releases a state by the answer to it
  pub only_heard_ends : 20 ≤ answer_number said → hears c ≡ true
  only_heard_ends l = by_test (hears c) (λ t. t) (λ f. no (quiet f))
    where
      quiet : hears c ≡ false → ◌≡◌ {A = ℕ} 0 1
      quiet f =
          let a : Answer = judged c s ph room in
          let nothing : effect_of a ≡ Effect.Nothing = harmless c s ph room f (ne_eqb (answer_number a) 0 (λ (z : answer_number a ≡ 0). omega (arith, number_is))) in
          by_test (ltb (answer_number a) 30)
          (λ t. let e : Effect.Fail ≡ Effect.Nothing = effect_fail a (answer_number a) refl (omega (arith, number_is)) (ltb-true (answer_number a) 30 t) ∙ nothing in cc)
          (λ n. let e : Effect.Release ≡ Effect.Nothing = effect_release a (answer_number a) refl (ltb-false (answer_number a) 30 n) ∙ nothing in cc)

  -- "R to I is at most 64 steps", and no more than are held: after every call
  pub step_window : Proper c ph → Lawful s → phase_fits ph s ≡ true → Window (step c s ph room).state × (held (step c s ph room).state ≤ 64)
  step_window p law fits = let n = (lawful_step c s ph room p law fits).0 in (n.window, n.few)

-- ---- Submit, Init and Receive: the answer is that of the tests, and what is answered Done is done
module _ (s : State) (ph : Phase) (a : Answer) (d : Step) (done : d.answer ≡ Answer.Done) where
  settled_does : (settle a s ph d).answer ≡ Answer.Done → settle a s ph d ≡ d
  settled_does e = settle-does a s ph d (ap is_done (sym (settle_answer a s ph d done) ∙ e))

module _ (s : State) (ph : Phase) (m : List ℕ) where
  queued : Step
  queued = stepped Answer.Done (submitted s m) ph []

  pub submit_says : (submit s ph m).answer ≡ admitted s ph (submit_rule s ph m)
  unfolding submit queued
  submit_says = settle_answer (admitted s ph (submit_rule s ph m)) s ph queued refl

  pub submit-does : (submit s ph m).answer ≡ Answer.Done → submit s ph m ≡ stepped Answer.Done (submitted s m) ph []
  unfolding submit queued
  submit-does e = settled_does s ph (admitted s ph (submit_rule s ph m)) queued refl e

  begun : Step
  begun = stepped Answer.Done (start_state s (init_start s ph m)) (start_phase ph (init_start s ph m)) []

  own : Answer
  own = where_open (awaits ph) (start_answer (init_start s ph m))

  pub init_says : (init_received s ph m).answer ≡ admitted s ph (where_open (awaits ph) (start_answer (init_start s ph m)))
  unfolding init_received begun own
  init_says = settle_answer (admitted s ph own) s ph begun refl

  pub init-does : (init_received s ph m).answer ≡ Answer.Done
      → init_received s ph m ≡ stepped Answer.Done (start_state s (init_start s ph m)) (start_phase ph (init_start s ph m)) []
  unfolding init_received begun own
  init-does e = settled_does s ph (admitted s ph own) begun refl e

  pub receive_says : (receive s ph m).answer ≡ admitted s ph (receive_rule s ph (reading_of m))
  unfolding receive
  receive_says = settle_answer (admitted s ph (receive_rule s ph (reading_of m))) s ph (taken_as s ph (reading_of m)) (taken-done s ph (reading_of m))

  pub receive-does : (receive s ph m).answer ≡ Answer.Done → receive s ph m ≡ taken_as s ph (reading_of m)
  unfolding receive
  receive-does e = settled_does s ph (admitted s ph (receive_rule s ph (reading_of m))) (taken_as s ph (reading_of m)) (taken-done s ph (reading_of m)) e
