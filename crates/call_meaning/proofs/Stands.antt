-- However a call ends, it leaves a sound image in range and a phase that the image allows. Assumes nothing.
use Prim.Native.Nat.{ℕ}
use mathlib.Core.Bool.{true}
use mathlib.Core.List.{List}
use mathlib.Core.Path.{◌≡◌}
use Rattle.octets.proofs.Choice.{by_test}
use Rattle.image.specs.State.{decode, InRange}
use Rattle.image.specs.Verdict.{IsSound}
use Rattle.image.proofs.Changes.{in_range_released, release_decodes, release-sound, break_decodes, break_sound, in_range_broken}
use Rattle.image.proofs.Sound.{parts_sound}
use Rattle.protocol.specs.declared.Answer.{Answer}
use Rattle.protocol.specs.declared.Effect.{Effect}
use Rattle.protocol.specs.declared.Phase.{Phase}
use Rattle.protocol.specs.Answers.{effect_of, is_done}
use Rattle.protocol.specs.Phases.{phase_fits}
use Rattle.protocol.specs.State.{State}
use Rattle.protocol.proofs.KeepingPhases.{resting_fits}
use Rattle.calls.specs.Outcomes.{After, untouched, failed_on, released_on, left_by, settle_of}
use Rattle.calls.specs.State.{state_of}
use Rattle.calls.specs.Storing.{Further, Slots, stored}
use Rattle.calls.proofs.Ends.{settle_other}
use Rattle.calls.proofs.Putting.{break_puts, release_puts}
use Rattle.calls.proofs.Settled.{Admitted}
use Rattle.call_meaning.specs.Standing.{Standing, Stands}
use Rattle.call_meaning.proofs.Putting.{Puts, put_range, put-sound, put_state_lem}
use Rattle.call_meaning.proofs.Refusals.{settle-does}

-- a call that comes to what stands is admitted_on
pub standing_admitted : {im : List ℕ} {ph : Phase} → Standing im ph → Admitted im ph
standing_admitted {im} st = record { passes = parts_sound im st.sound; fits = st.fits }

-- a state that is stored stands
pub puts_stands : {im : List ℕ} → IsSound im → {slots : Slots} {f : Further} {s : State} {ph : Phase} → Puts im slots f s → phase_fits ph s ≡ true → Standing (stored im slots f s) ph
puts_stands {im} sound {slots} {f} {s} p ph = record {
  sound = put-sound im sound slots f s p;
  range = put_range im sound slots f s p;
  fits = rw (put_state_lem im sound slots f s p) ph;
}

-- ---- the three ends of a call that is not done
-- as connection failed, whatever the phase was
pub failure_stands : (im : List ℕ) → IsSound im → InRange (decode im) → (a : Answer) (o : List ℕ) → Stands (failed_on a im o)
unfolding failed_on
failure_stands im s r a o = record {
  sound = rw (break_puts im s) (break_sound im s r);
  range = rw (break_puts im s, break_decodes im s r) (in_range_broken im s r);
  fits = rw (break_puts im s, break_decodes im s r) (resting_fits (state_of im));
}

module _ (im : List ℕ) (ph : Phase) (st : Standing im ph) (a : Answer) (o : List ℕ) where
  -- as connection failed
  pub failed_stands : Stands (failed_on a im o)
  failed_stands = failure_stands im st.sound st.range a o

  -- released
  pub released_stands : Stands (released_on a im o)
  unfolding released_on phase_fits
  released_stands = record {
    sound = rw (release_puts im) (release-sound im st.sound);
    range = rw (release_puts im, release_decodes im st.sound.size) in_range_released;
    fits = rw (release_puts im, release_decodes im st.sound.size);
  }

  other_stands : (f : Effect) → Stands (left_by f a ph im o (untouched a ph im o))
  other_stands Effect.Nothing = st
  other_stands Effect.Fail = failed_stands
  other_stands Effect.Release = released_stands
  other_stands Effect.Act = st

  -- where what is done stands, what is left stands whatever the answer is
  pub settled_stands : (done : After) → (is_done a ≡ true → Stands done) → Stands (settle_of a ph im o done)
  unfolding settle_of
  settled_stands done d =
      by_test (is_done a)
      (λ t. rw (settle-does a ph im o done t) (d t))
      (λ n. rw (settle_other a ph im o done (untouched a ph im o) n) (other_stands (effect_of a)))

-- the answer that is left is that of the call's tests, or of what is done
pub settled_answer : (P : Answer → Type 0) (a : Answer) (ph : Phase) (im o : List ℕ) (done : After) → (P done.outcome.answer → P a)
    → P (settle_of a ph im o done).outcome.answer → P a
unfolding settle_of failed_on released_on
settled_answer P a ph im o done d = by (effect_of a)
  where
    by : (f : Effect) → P (left_by f a ph im o done).outcome.answer → P a
    by Effect.Nothing q = q
    by Effect.Fail q = q
    by Effect.Release q = q
    by Effect.Act q = d q
