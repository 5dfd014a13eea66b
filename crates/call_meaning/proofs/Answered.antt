-- What a call leaves by the number of its answer, and that this is the answer of its tests. Assumes nothing.
use Prim.Native.Nat.{ℕ, ◌≤◌, ◌<◌}
use mathlib.Core.List.{List}
use mathlib.Core.Path.{◌≡◌, refl, sym, ◌∙◌}
use Rattle.octets.proofs.Choice.{by_test}
use Rattle.image.proofs.Changes.{release_decodes, break_decodes}
use Rattle.protocol.specs.declared.Answer.{Answer}
use Rattle.protocol.specs.declared.Effect.{Effect}
use Rattle.protocol.specs.declared.Phase.{Phase}
use Rattle.protocol.specs.Answers.{answer_number, effect_of, is_done}
use Rattle.protocol.proofs.Effects.{done_is, effect_nothing, effect_fail, effect_release}
use Rattle.calls.specs.Outcomes.{After, untouched, failed_on, released_on, left_by, settle_of}
use Rattle.calls.proofs.Ends.{settle_fail, settle-release, settle-refusal, settle_other}
use Rattle.calls.proofs.Putting.{break_puts, release_puts}
use Rattle.call_meaning.specs.Ended.{Unapplied, ReleasedIdle}
use Rattle.call_meaning.specs.Standing.{Standing}
use Rattle.call_meaning.proofs.Refusals.{settle-does}

module _ (a : Answer) (ph : Phase) (im o : List ℕ) (done : After) where
  -- where what is done says Done, the answer left is that of the tests
  pub settled_says : done.outcome.answer ≡ Answer.Done → (settle_of a ph im o done).outcome.answer ≡ a
  unfolding settle_of failed_on released_on
  settled_says d =
      by_test (is_done a)
      (λ t. rw (settle-does a ph im o done t) (d ∙ sym (done_is a t)))
      (λ n. rw (settle_other a ph im o done (untouched a ph im o) n) (by (effect_of a)))
    where
      by : (f : Effect) → (left_by f a ph im o (untouched a ph im o)).outcome.answer ≡ a
      by Effect.Nothing = refl
      by Effect.Fail = refl
      by Effect.Release = refl
      by Effect.Act = refl

  -- 1 to 15: nothing changed
  pub answered_nothing : 0 < answer_number a → answer_number a < 20 → settle_of a ph im o done ≡ untouched a ph im o
  answered_nothing l h = settle-refusal a ph im o done (sym (effect_nothing a (answer_number a) refl l h))

  -- 20 to 23: as connection failed
  pub answered-failed : 20 ≤ answer_number a → answer_number a < 30 → settle_of a ph im o done ≡ failed_on a im o
  answered-failed l h = sym (settle_fail a ph im o done (effect_fail a (answer_number a) refl l h) refl refl)

  -- 30 to 36: released
  pub answered-released : 30 ≤ answer_number a → settle_of a ph im o done ≡ released_on a im o
  answered-released l = sym (settle-release a ph im o done (effect_release a (answer_number a) refl l) refl refl)

-- what these two are
module _ (im : List ℕ) (ph : Phase) (st : Standing im ph) (a : Answer) (o : List ℕ) where
  -- as connection failed is `break_of` of the image before the call
  pub failed_unapplied : Unapplied im (failed_on a im o)
  unfolding failed_on
  failed_unapplied = record {
    image = break_puts im st.sound;
    state = rw (break_puts im st.sound, break_decodes im st.sound st.range);
    phase = refl;
  }

  -- released is `release_of` of it, and Idle
  pub released-idle : ReleasedIdle im (released_on a im o)
  unfolding released_on
  released-idle = record { image = release_puts im; state = rw (release_puts im, release_decodes im st.sound.size); phase = refl }
