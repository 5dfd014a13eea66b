-- "Only at 64 is one refused for room in the store", of Submit on every image, sound or not, in every phase. Assumes nothing.
use Rattle.std.specs.Prelude.{Result, Ok, Err}
use Prim.Native.Nat.{ℕ, ◌≤◌, ◌<◌}
use mathlib.Core.List.{List}
use mathlib.Core.Path.{◌≡◌, refl, sym, ap, ◌∙◌}
use native.Mathlib.Omega.{arith}
use lib.ListN.{length}
use Rattle.octets.proofs.Choice.{no}
use Rattle.image.specs.declared.ImageFault.{ImageFault}
use Rattle.image.specs.Verdict.{verdict}
use Rattle.image.proofs.Queue.{queue_length}
use Rattle.image.proofs.Sound.{sound_parts, sound_valid}
use Rattle.protocol.specs.declared.Answer.{Answer}
use Rattle.protocol.specs.declared.Phase.{Phase}
use Rattle.protocol.specs.Calls.{submits, step}
use Rattle.protocol.specs.State.{capacity, held}
use Rattle.protocol.specs.Submit.{submit}
use Rattle.protocol.specs.SubmitCases.{Passes}
use Rattle.protocol.proofs.Passing.{full_only, passes-done, passes-full}
use Rattle.protocol.proofs.Settles.{step_answer}
use Rattle.calls.specs.Outcomes.{checked}
use Rattle.calls.specs.State.{state_of}
use Rattle.session.specs.Call.{leaves}
use Rattle.session.proofs.Answers.{answer_is}
use Rattle.session.proofs.Settles.{answer_on}

module _ (im : List ℕ) (ph : Phase) (m out : List ℕ) where
  abbrev answered : Answer
  answered = (leaves (submits m) im ph out).outcome.answer

  -- restore's checks, and then what the protocol's Submit answers
  says : answered ≡ checked (verdict im) (submit (state_of im) ph m).answer
  unfolding answer_on step
  says = answer_is (submits m) im ph out ∙ ap (λ (a : Answer). checked (verdict im) a) (sym (step_answer (submits m) (state_of im) ph (length out)))

  sound_says : verdict im ≡ Ok tt → answered ≡ (submit (state_of im) ph m).answer
  sound_says v = says ∙ ap (λ (x : Result Unit ImageFault). checked x (submit (state_of im) ph m).answer) v

  pub refused_at_64 : answered ≡ Answer.StoreFull → held (state_of im) ≡ capacity
  refused_at_64 e = by (verdict im) refl (sym says ∙ e)
    where
      by : (v : Result Unit ImageFault) → verdict im ≡ v → checked v (submit (state_of im) ph m).answer ≡ Answer.StoreFull → held (state_of im) ≡ capacity
      by (Ok tt) v e =
          let few : held (state_of im) ≤ capacity = rw (queue_length im) (sound_valid im (sound_parts im v)).held in
          full_only (state_of im) ph m few e
      by (Err ImageFault.WrongSize) v e = no cc
      by (Err (ImageFault.BadBlock b)) v e = no cc
      by (Err (ImageFault.BadField b)) v e = no cc

  -- a message that passes every other test is refused at 64, and taken below
  module _ (v : verdict im ≡ Ok tt) (p : Passes (state_of im) ph m) where
    pub full-at_64 : held (state_of im) ≡ capacity → answered ≡ Answer.StoreFull
    full-at_64 e = sound_says v ∙ passes-full (state_of im) ph m p (omega arith)

    pub taken_below : held (state_of im) < capacity → answered ≡ Answer.Done
    taken_below l = sound_says v ∙ passes-done (state_of im) ph m p l
