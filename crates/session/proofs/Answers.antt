-- What the answer says of every call: a refusal changes nothing, only Done writes output, and what the others leave. Assumes nothing.
use Prim.Native.Nat.{ℕ, ◌≤◌}
use mathlib.Core.Bool.{Bool, true, false}
use mathlib.Core.List.{List}
use mathlib.Core.Logic.{◌≢◌}
use mathlib.Core.Path.{◌≡◌, refl, sym, ap, ◌∙◌}
use native.Mathlib.Omega.{arith}
use Rattle.octets.specs.Laid.{laid}
use Rattle.octets.specs.Pick.{pick}
use Rattle.protocol.specs.declared.Answer.{Answer}
use Rattle.protocol.specs.declared.Phase.{Phase}
use Rattle.protocol.specs.Answers.{answer_number}
use Rattle.protocol.specs.Calls.{Call}
use Rattle.protocol.specs.Judged.{done}
use Rattle.protocol.proofs.Settles.{done_answer}
use Rattle.calls.specs.Outcomes.{After, failed_on, released_on, untouched, step_stored}
use Rattle.calls.specs.State.{state_of}
use Rattle.call_meaning.specs.Ended.{ReleasedIdle, Unapplied}
use Rattle.call_meaning.specs.Standing.{Standing}
use Rattle.call_meaning.proofs.Answered.{answered-failed, answered_nothing, answered-released, failed_unapplied, released-idle, settled_says}
use Rattle.connect.specs.Start.{formatted}
use Rattle.session.specs.Call.{further_put, given, leaves, lent, makes_image, slots_left}
use Rattle.session.proofs.Settles.{answer_on, done_on, ends, settles_on}

-- what is done is answered Done
done_says : (c : Call) (im : List ℕ) (ph : Phase) (out : List ℕ) → (done_on c im ph out).outcome.answer ≡ Answer.Done
unfolding done_on
done_says c im ph out = by (makes_image c)
  where
    by : (b : Bool) → (pick b formatted (step_stored im (slots_left c (state_of im) ph) (further_put c (state_of im) ph) (done c (state_of im) ph) (lent c out))).outcome.answer ≡ Answer.Done
    by true = refl
    by false = done_answer c (state_of im) ph

module _ (c : Call) (im : List ℕ) (ph : Phase) (out : List ℕ) where
  -- the answer of a call is that of its tests
  pub answer_is : (leaves c im ph out).outcome.answer ≡ answer_on c im ph out
  answer_is =
      ap (λ (x : After). x.outcome.answer) (settles_on c im ph out)
      ∙ settled_says (answer_on c im ph out) (given c ph) im (lent c out) (done_on c im ph out) (done_says c im ph out)

  abbrev said : Answer
  said = (leaves c im ph out).outcome.answer

  number_is : answer_number said ≡ answer_number (answer_on c im ph out)
  number_is = ap (λ (a : Answer). answer_number a) answer_is

  -- "1 .. 13: nothing changed": neither the image, nor the phase, nor the output
  pub refusal-changes_nothing : 1 ≤ answer_number said → answer_number said ≤ 13 → leaves c im ph out ≡ untouched said (given c ph) im (lent c out)
  refusal-changes_nothing l u =
      settles_on c im ph out
      ∙ answered_nothing (answer_on c im ph out) (given c ph) im (lent c out) (done_on c im ph out) (omega (arith, number_is)) (omega (arith, number_is))
      ∙ ap (λ (a : Answer). untouched a (given c ph) im (lent c out)) (sym answer_is)

  -- "20 .. 23: as connection failed, ACK unapplied": of the image as it was given
  pub failure_is : 20 ≤ answer_number said → answer_number said ≤ 23 → leaves c im ph out ≡ failed_on said im (lent c out)
  failure_is l u =
      settles_on c im ph out
      ∙ answered-failed (answer_on c im ph out) (given c ph) im (lent c out) (done_on c im ph out) (omega (arith, number_is)) (omega (arith, number_is))
      ∙ ap (λ (a : Answer). failed_on a im (lent c out)) (sym answer_is)

  -- "30 .. 36: released, Idle"
  pub release_is : 30 ≤ answer_number said → leaves c im ph out ≡ released_on said im (lent c out)
  release_is l =
      settles_on c im ph out
      ∙ answered-released (answer_on c im ph out) (given c ph) im (lent c out) (done_on c im ph out) (omega (arith, number_is))
      ∙ ap (λ (a : Answer). released_on a im (lent c out)) (sym answer_is)

  -- the same, of the image's own changes and of the state
  module _ (st : Standing im ph) where
    -- what it leaves: the image before the call, as after a break
    pub failure_leaves : 20 ≤ answer_number said → answer_number said ≤ 23 → Unapplied im (leaves c im ph out)
    failure_leaves l u = rw (failure_is l u) (failed_unapplied im ph st said (lent c out))

    -- what it leaves: block 0 with kept 0 and the slots' bytes, Idle
    pub release-leaves : 30 ≤ answer_number said → ReleasedIdle im (leaves c im ph out)
    release-leaves l = rw (release_is l) (released-idle im ph st said (lent c out))

  -- "Every answer except 0 writes no output byte"
  pub only_done_writes : answer_number said ≢ 0 → ((leaves c im ph out).out ≡ lent c out) × ((leaves c im ph out).outcome.written ≡ 0)
  unfolding failed_on released_on laid
  only_done_writes other =
      ends c im ph out (λ (x : After). (x.out ≡ lent c out) × (x.outcome.written ≡ 0))
      (λ e. (refl, refl))
      (λ e. (refl, refl))
      (λ e. (refl, refl))
      (λ d. absurd (other (number_is ∙ ap (λ (a : Answer). answer_number a) d)))
