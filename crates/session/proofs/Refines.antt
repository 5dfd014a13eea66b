-- Every call on an image that stands is the protocol's step on the state that the image stands for, and what it leaves stands. Assumes nothing.
use Rattle.std.specs.Prelude.{Result}
use Prim.Native.Nat.{ℕ, ◌≤◌}
use mathlib.Core.Bool.{true, false}
use mathlib.Core.List.{List, []}
use mathlib.Core.Path.{◌≡◌, refl, sym, ap, ◌∙◌}
use native.Mathlib.Omega.{arith}
use lib.ListN.{length}
use Rattle.image.specs.declared.ImageFault.{ImageFault}
use Rattle.image.specs.State.{InRange, decode}
use Rattle.image.specs.Verdict.{IsSound}
use Rattle.image.proofs.Changes.{new_decodes}
use Rattle.image.proofs.Sound.{parts_sound}
use Rattle.protocol.specs.declared.Answer.{Answer}
use Rattle.protocol.specs.declared.Phase.{Phase}
use Rattle.protocol.specs.Answers.{is_done, effect_of}
use Rattle.protocol.specs.Begin.{restore}
use Rattle.protocol.specs.Calls.{Call, formats, restores, fails, opens, greets, passes, submits, sends, keeps-alive, receives, step}
use Rattle.protocol.specs.Judged.{judged, done}
use Rattle.protocol.specs.Lawful.{Window}
use Rattle.protocol.specs.Phases.{phase_fits}
use Rattle.protocol.specs.Proper.{Proper}
use Rattle.protocol.specs.State.{held, capacity}
use Rattle.protocol.specs.Step.{settle}
use Rattle.protocol.proofs.Effects.{done_is}
use Rattle.protocol.proofs.Settles.{done_answer, settles}
use Rattle.calls.specs.Outcomes.{call_of, checked, settle_of, step_stored}
use Rattle.calls.specs.State.{state_of}
use Rattle.calls.specs.Storing.{same, stay}
use Rattle.call_meaning.specs.Seen.{seen}
use Rattle.call_meaning.specs.Standing.{Standing, Stands}
use Rattle.call_meaning.proofs.Putting.{lawful_image}
use Rattle.call_meaning.proofs.Refining.{Kept, call_seen, call_stands}
use Rattle.session.specs.Call.{further_put, given, leaves, lent, makes_image, slots_left}
use Rattle.session.proofs.Begin.{format_formats, formatted_stands}
use Rattle.session.proofs.Lent.{done-room}
use Rattle.session.proofs.Puts.{done-keeps}
use Rattle.session.proofs.Settles.{called}

module _ (im : List ℕ) (ph : Phase) (st : Standing im ph) (out : List ℕ) where
  -- ---- a call that is given a phase
  module _ (c : Call) (other : makes_image c ≡ false) (g : given c ph ≡ ph) (p : Proper c ph) where
    a : Answer
    a = judged c (state_of im) ph (length out)

    is : leaves c im ph out ≡ call_of im ph (lent c out) (slots_left c (state_of im) ph) (further_put c (state_of im) ph) (settle a (state_of im) ph (done c (state_of im) ph))
    unfolding a
    is =
        called c im ph out other
        ∙ ap (λ (q : Phase). call_of im q (lent c out) (slots_left c (state_of im) ph) (further_put c (state_of im) ph) (step c (state_of im) ph (length out))) g
        ∙ ap (call_of im ph (lent c out) (slots_left c (state_of im) ph) (further_put c (state_of im) ph)) (settles c (state_of im) ph (length out))

    keeps : is_done a ≡ true → Kept im (slots_left c (state_of im) ph) (further_put c (state_of im) ph) (done c (state_of im) ph)
    unfolding a
    keeps t = done-keeps im ph st c (length out) other p (done_is (judged c (state_of im) ph (length out)) t)

    given_stands : Stands (leaves c im ph out)
    given_stands = rw is (call_stands im ph st (lent c out) (slots_left c (state_of im) ph) (further_put c (state_of im) ph) a (done c (state_of im) ph) (done_answer c (state_of im) ph) keeps)

    given-seen : seen (leaves c im ph out) ≡ step c (state_of im) ph (length out)
    unfolding a
    given-seen =
        ap seen is
        ∙ call_seen im ph st (lent c out) (slots_left c (state_of im) ph) (further_put c (state_of im) ph) a (done c (state_of im) ph) (done_answer c (state_of im) ph) keeps (λ t. done-room c (state_of im) ph out (done_is a t))
        ∙ sym (settles c (state_of im) ph (length out))

  -- ---- Restore is given none: of a sound image that makes no difference
  restored : leaves restores im ph out ≡ call_of im ph [] stay same (settle Answer.Done (state_of im) ph (restore (state_of im)))
  unfolding call_of settle_of settle effect_of step
  restored =
      called restores im ph out refl
      ∙ ap (λ (v : Result Unit ImageFault). settle_of (checked v Answer.Done) Phase.Idle im [] (step_stored im stay same (restore (state_of im)) [])) (parts_sound im st.sound)
      ∙ ap (λ (v : Result Unit ImageFault). settle_of (checked v Answer.Done) ph im [] (step_stored im stay same (restore (state_of im)) [])) (sym (parts_sound im st.sound))

  restore-keeps : is_done Answer.Done ≡ true → Kept im stay same (restore (state_of im))
  unfolding judged done
  restore-keeps t = done-keeps im ph st restores 0 refl tt refl

  -- ---- every call
  pub stands : (c : Call) → Proper c ph → Stands (leaves c im ph out)
  unfolding phase_fits
  stands formats p = rw (format_formats im ph out st.sound.size) formatted_stands
  stands restores p = rw restored (call_stands im ph st [] stay same Answer.Done (restore (state_of im)) refl restore-keeps)
  stands fails p = given_stands fails refl refl p
  stands (opens id own proposal) p = given_stands (opens id own proposal) refl refl p
  stands (greets m) p = given_stands (greets m) refl refl p
  stands (passes elapsed) p = given_stands (passes elapsed) refl refl p
  stands (submits m) p = given_stands (submits m) refl refl p
  stands (sends ask) p = given_stands (sends ask) refl refl p
  stands (keeps-alive id) p = given_stands (keeps-alive id) refl refl p
  stands (receives m) p = given_stands (receives m) refl refl p

  -- every call, on an image that stands: answer, state, phase and bytes written are those of `step` on its state
  pub refines : (c : Call) → Proper c ph → seen (leaves c im ph out) ≡ step c (state_of im) ph (length out)
  unfolding step settle effect_of
  refines formats p = ap seen (format_formats im ph out st.sound.size) ∙ rw new_decodes
  refines restores p = ap seen restored ∙ call_seen im ph st [] stay same Answer.Done (restore (state_of im)) refl restore-keeps (λ t. omega arith)
  refines fails p = given-seen fails refl refl p
  refines (opens id own proposal) p = given-seen (opens id own proposal) refl refl p
  refines (greets m) p = given-seen (greets m) refl refl p
  refines (passes elapsed) p = given-seen (passes elapsed) refl refl p
  refines (submits m) p = given-seen (submits m) refl refl p
  refines (sends ask) p = given-seen (sends ask) refl refl p
  refines (keeps-alive id) p = given-seen (keeps-alive id) refl refl p
  refines (receives m) p = given-seen (receives m) refl refl p

-- "R to I is at most 64 steps", and no more than are held: of every sound image
pub window : (im : List ℕ) → IsSound im → InRange (decode im) → Window (state_of im) × (held (state_of im) ≤ capacity)
window im s r = let law = lawful_image im s r in (law.window, law.few)
