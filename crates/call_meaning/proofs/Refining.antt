-- A call on an image that stands is the protocol's step on the state that the image stands for, and what it leaves stands: once for all calls. Assumes nothing.
use Rattle.std.specs.Prelude.{Result}
use Prim.Native.Nat.{ℕ, ◌≤◌}
use mathlib.Core.Bool.{true, false}
use mathlib.Core.List.{List}
use mathlib.Core.Path.{◌≡◌, refl, ap, ◌∙◌}
use lib.ListN.{length, take}
use Rattle.octets.specs.Laid.{laid}
use Rattle.octets.proofs.Choice.{by_test}
use Rattle.octets.proofs.Laid.{take-laid}
use Rattle.image.specs.declared.ImageFault.{ImageFault}
use Rattle.image.proofs.Changes.{break_decodes, release_decodes}
use Rattle.image.proofs.Sound.{parts_sound}
use Rattle.protocol.specs.declared.Answer.{Answer}
use Rattle.protocol.specs.declared.Effect.{Effect}
use Rattle.protocol.specs.declared.Phase.{Phase}
use Rattle.protocol.specs.Answers.{effect_of, is_done}
use Rattle.protocol.specs.Phases.{phase_fits}
use Rattle.protocol.specs.Step.{Step, settle, settled_by}
use Rattle.protocol.proofs.Effects.{act-done}
use Rattle.protocol.proofs.Settling.{settle-does}
use Rattle.calls.specs.Outcomes.{call_of, checked, failed_on, left_by, released_on, settle_of, step_stored, untouched}
use Rattle.calls.specs.State.{state_of}
use Rattle.calls.specs.Storing.{Further, Slots}
use Rattle.calls.proofs.Called.{call_settles}
use Rattle.calls.proofs.Ends.{settle_other}
use Rattle.calls.proofs.Putting.{break_puts, release_puts}
use Rattle.call_meaning.specs.Seen.{seen}
use Rattle.call_meaning.specs.Standing.{Standing, Stands}
use Rattle.call_meaning.proofs.Putting.{Puts, put_state_lem}
use Rattle.call_meaning.proofs.Refusals as byte
use Rattle.call_meaning.proofs.Stands.{puts_stands, settled_stands}

-- what a call needs to be told of what it does where it is done
pub record Kept (im : List ℕ) (slots : Slots) (f : Further) (d : Step) : Type 0 where
  pub puts : Puts im slots f d.state
  pub fits : phase_fits d.phase d.state ≡ true

module _ (im : List ℕ) (ph : Phase) (st : Standing im ph) (o : List ℕ) (slots : Slots) (f : Further) (a : Answer) (d : Step) (e : d.answer ≡ Answer.Done)
    (k : is_done a ≡ true → Kept im slots f d) where
  -- the checks are passed
  settles : call_of im ph o slots f (settle a (state_of im) ph d) ≡ settle_of a ph im o (step_stored im slots f d o)
  settles =
      call_settles im ph o slots f a (state_of im) d e
      ∙ ap (λ (v : Result Unit ImageFault). settle_of (checked v a) ph im o (step_stored im slots f d o)) (parts_sound im st.sound)

  -- and what it leaves stands
  pub call_stands : Stands (call_of im ph o slots f (settle a (state_of im) ph d))
  call_stands = rw settles (settled_stands im ph st a o (step_stored im slots f d o) (λ t. puts_stands st.sound (k t).puts (k t).fits))

  other-seen : (f : Effect) → effect_of a ≡ f → is_done a ≡ false → seen (left_by f a ph im o (untouched a ph im o)) ≡ settled_by f a (state_of im) ph d
  unfolding failed_on released_on
  other-seen Effect.Nothing q n = refl
  other-seen Effect.Fail q n = rw (break_puts im st.sound, break_decodes im st.sound st.range)
  other-seen Effect.Release q n = rw (release_puts im, release_decodes im st.sound.size)
  other-seen Effect.Act q n = absurd (act-done a q n)

  others : is_done a ≡ false → seen (settle_of a ph im o (untouched a ph im o)) ≡ settle a (state_of im) ph d
  unfolding settle_of settle
  others n = other-seen (effect_of a) refl n

  -- on an image that stands, what is seen of a call is the protocol's step on its state: its output has room in the bytes lent
  pub call_seen : (is_done a ≡ true → length d.output ≤ length o) → seen (call_of im ph o slots f (settle a (state_of im) ph d)) ≡ settle a (state_of im) ph d
  call_seen room =
      rw settles
      (by_test (is_done a)
      (λ t. rw (byte.settle-does a ph im o (step_stored im slots f d o) t, settle-does a (state_of im) ph d t, put_state_lem im st.sound slots f d.state (k t).puts) (written (room t)))
      (λ n. rw (settle_other a ph im o (step_stored im slots f d o) (untouched a ph im o) n) (others n)))
    where
      written : length d.output ≤ length o
          → record { answer = d.answer; state = d.state; phase = d.phase; output = take (length d.output) (laid o 0 d.output); leftout = d.leftout } ≡ d
      written fits = rw (take-laid o d.output fits)
