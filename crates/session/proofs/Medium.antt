-- An owner who stores what the outcome tells has the call's image on the medium; one whose power goes before has there an image
-- that passes the same checks and stands for the same state as before the call. Assumes nothing.
use Prim.Native.Nat.{ℕ, ◌<◌}
use mathlib.Core.Bool.{true, false}
use mathlib.Core.List.{List}
use mathlib.Core.Path.{◌≡◌, refl, sym, ap, ◌∙◌}
use native.Mathlib.Omega.{arith}
use lib.ListN.{length}
use Rattle.octets.specs.Bytes.{Bytes}
use Rattle.image.proofs.Ranges.{bytes_in_range}
use Rattle.image.proofs.Sound.{parts_sound, sound_parts}
use Rattle.protocol.specs.declared.Answer.{Answer}
use Rattle.protocol.specs.declared.Phase.{Phase}
use Rattle.protocol.specs.Calls.{Call, restores, step}
use Rattle.protocol.specs.Judged.{judged}
use Rattle.protocol.specs.Phases.{phase_fits, resting_phase}
use Rattle.protocol.specs.Step.{broken, Step}
use Rattle.calls.specs.Outcomes.{After}
use Rattle.calls.specs.State.{state_of}
use Rattle.calls.proofs.Settled.{checks_sound}
use Rattle.call_meaning.specs.Medium.{Same, all_stored, committed, stores}
use Rattle.call_meaning.specs.Seen.{seen}
use Rattle.call_meaning.specs.Standing.{Standing}
use Rattle.call_meaning.proofs.Stored.{stored_all, stored_fewer}
use Rattle.session.specs.Call.{leaves, makes_image}
use Rattle.session.proofs.Answers.{answer_is}
use Rattle.session.proofs.Refines.{refines}
use Rattle.session.proofs.Settles.{answer_on}
use Rattle.session.proofs.Told.{every}

module _ (c : Call) (im : List ℕ) (ph : Phase) (out : List ℕ) (other : makes_image c ≡ false) (st : Standing im ph) where
  abbrev x : After
  x = leaves c im ph out

  -- with all of them stored the medium is the call's image
  pub all_stored_lem : all_stored im x ≡ x.image
  all_stored_lem = every c im ph out other (λ (y : After). all_stored im y ≡ y.image) (λ a q o. refl) (λ slots f y o s sf ff. stored_all im s slots f sf ff y o)

  -- with fewer "restore gives the state before the call": the same checks are passed, and the state is the same
  pub fewer_same : (n : ℕ) → n < length (stores x.outcome) → Same im (committed n im x)
  fewer_same =
      every c im ph out other (λ (y : After). (n : ℕ) → n < length (stores y.outcome) → Same im (committed n im y))
      (λ a q o n less. absurd (omega arith))
      (λ slots f y o s sf ff. stored_fewer im s slots f sf ff y o st.range.ids)

  -- ".. code 6 words freed", in the phase without a connection
  pub cut_restores : (n : ℕ) → n < length (stores x.outcome)
      → ((seen (leaves restores (committed n im x) ph out)).answer ≡ Answer.Done)
      × (state_of (leaves restores (committed n im x) ph out).image ≡ broken (state_of im))
      × ((leaves restores (committed n im x) ph out).outcome.phase ≡ resting_phase (state_of im))
  unfolding step
  cut_restores n less =
      let same = fewer_same n less in
      let there : Standing (committed n im x) ph = record {
        sound = sound_parts (committed n im x) (same.checks ∙ parts_sound im st.sound);
        range = rw same.state st.range;
        fits = rw same.state st.fits;
      } in
      let e = refines (committed n im x) ph there out restores tt in
      (ap (λ (y : Step). y.answer) e, ap (λ (y : Step). y.state) e ∙ rw same.state, ap (λ (y : Step). y.phase) e ∙ rw same.state)

-- as an owner reads it: of an image of bytes that restore answers 0 of, and in a phase that it allows, whatever the call was that the power cut short,
-- restore answers 0 again and gives the state before the call, code 6 words freed
module _ (c : Call) (im : List ℕ) (ph : Phase) (out : List ℕ) (other : makes_image c ≡ false) where
  pub cut_of_bytes : Bytes im → (leaves restores im ph out).outcome.answer ≡ Answer.Done → phase_fits ph (state_of im) ≡ true → (n : ℕ) → n < length (stores (leaves c im ph out).outcome)
      → ((leaves restores (committed n im (leaves c im ph out)) ph out).outcome.answer ≡ Answer.Done)
      × (state_of (leaves restores (committed n im (leaves c im ph out)) ph out).image ≡ broken (state_of im))
      × ((leaves restores (committed n im (leaves c im ph out)) ph out).outcome.phase ≡ resting_phase (state_of im))
  unfolding answer_on judged
  cut_of_bytes byte ok fits n less =
      let says = sym ok ∙ answer_is restores im ph out in
      let sound = sound_parts im (checks_sound im says refl) in
      cut_restores c im ph out other (record { sound = sound; range = bytes_in_range im byte; fits = fits }) n less
