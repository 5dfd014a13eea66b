-- Open and KeepAlive leave the image as it is, whatever they answer, and ask nothing to be stored; the image is bytes. Assumes nothing.
use Rattle.std.specs.Prelude.{Result, Ok, Err}
use Prim.Native.Nat.{ℕ}
use mathlib.Core.Bool.{false}
use mathlib.Core.List.{List}
use mathlib.Core.Path.{◌≡◌, refl, sym, ap, ◌∙◌}
use lib.ListN.{length}
use Rattle.octets.specs.Bytes.{Bytes}
use Rattle.octets.proofs.Choice.{by_test, no}
use Rattle.octets.proofs.Differ.{differ_self}
use Rattle.ft_number.specs.declared.MessageId.{MessageId}
use Rattle.ft_number.specs.declared.Proposal.{Proposal}
use Rattle.message_writer.specs.declared.OwnParameters.{OwnParameters}
use Rattle.image.specs.declared.ImageFault.{ImageFault}
use Rattle.image.specs.Sizes.{block}
use Rattle.image.specs.Verdict.{verdict}
use Rattle.image.proofs.Sound.{sound_parts}
use Rattle.protocol.specs.declared.Answer.{Answer}
use Rattle.protocol.specs.declared.Effect.{Effect}
use Rattle.protocol.specs.declared.Phase.{Phase}
use Rattle.protocol.specs.Answers.{answer_number, effect_of, is_done}
use Rattle.protocol.specs.Calls.{Call, opens, keeps-alive}
use Rattle.protocol.specs.Hearing.{hears}
use Rattle.protocol.specs.Judged.{done, judged}
use Rattle.protocol.proofs.Effects.{done_is, effect_nothing}
use Rattle.protocol.proofs.Hearing.{harmless}
use Rattle.protocol.proofs.Settling.{Harmless}
use Rattle.calls.specs.Outcomes.{checked}
use Rattle.calls.specs.State.{state_of}
use Rattle.calls.specs.Storing.{same, stay, stored}
use Rattle.calls.proofs.FurtherBits.{further_self}
use Rattle.calls.proofs.Putting.{put_same}
use Rattle.calls.proofs.Settled.{checked_all}
use Rattle.session.specs.Call.{further_put, leaves, makes_image, slots_left}
use Rattle.session.specs.Writers.{LeftAlone}
use Rattle.session.proofs.Settles.{answer_on, done_on, ends}

-- an answer that breaks or releases is not harmless
never : (a : Answer) → Harmless a → (effect_of a ≡ Effect.Fail → ⊥) × (effect_of a ≡ Effect.Release → ⊥)
unfolding effect_of
never a h =
    by_test (is_done a)
    (λ t. let act : effect_of a ≡ Effect.Act = ap (λ (x : Answer). effect_of x) (done_is a t) in
    ((λ e. let z : Effect.Act ≡ Effect.Fail = sym act ∙ e in no cc), (λ e. let z : Effect.Act ≡ Effect.Release = sym act ∙ e in no cc)))
    (λ n. ((λ e. let z : Effect.Nothing ≡ Effect.Fail = sym (h n) ∙ e in no cc), (λ e. let z : Effect.Nothing ≡ Effect.Release = sym (h n) ∙ e in no cc)))

checked-sound : (v : Result Unit ImageFault) (a : Answer) → checked v a ≡ Answer.Done → v ≡ Ok tt
checked-sound (Ok tt) a e = refl
checked-sound (Err ImageFault.WrongSize) a e = no cc
checked-sound (Err (ImageFault.BadBlock b)) a e = no cc
checked-sound (Err (ImageFault.BadField b)) a e = no cc

module _ (c : Call) (im : List ℕ) (ph : Phase) (out : List ℕ) (byte : Bytes im) (quiet : hears c ≡ false) (other : makes_image c ≡ false)
    (stays : slots_left c (state_of im) ph ≡ stay) (none : further_put c (state_of im) ph ≡ same) (still : (done c (state_of im) ph).state ≡ state_of im) where
  -- restore's checks refuse and do no more, and so does the call
  harmless_on : Harmless (answer_on c im ph out)
  unfolding answer_on
  harmless_on = rw other (checked_all Harmless (λ x l m n. sym (effect_nothing x (answer_number x) refl l m)) (verdict im) (λ s. harmless c (state_of im) ph (length out) quiet))

  kept_whole : answer_on c im ph out ≡ Answer.Done → LeftAlone im (done_on c im ph out)
  unfolding answer_on done_on
  kept_whole d =
      let sound = sound_parts im (checked-sound (verdict im) (judged c (state_of im) ph (length out)) (rw other at d)) in
      let whole : stored im stay same (state_of im) ≡ im = put_same im sound byte in
      rw (other, stays, none, still, whole) (record { image = refl; slot = refl; block0 = differ_self (block im 0); further = further_self im })

  left_alone : LeftAlone im (leaves c im ph out)
  left_alone =
      ends c im ph out (LeftAlone im)
      (λ e. record { image = refl; slot = refl; block0 = refl; further = refl })
      (λ e. absurd ((never (answer_on c im ph out) harmless_on).0 e))
      (λ e. absurd ((never (answer_on c im ph out) harmless_on).1 e))
      kept_whole

module _ (im : List ℕ) (ph : Phase) (out : List ℕ) (byte : Bytes im) where
  pub open_leaves : (id : MessageId) (own : OwnParameters) (proposal : Proposal) → LeftAlone im (leaves (opens id own proposal) im ph out)
  unfolding done
  open_leaves id own proposal = left_alone (opens id own proposal) im ph out byte refl refl refl refl refl

  pub keepalive-leaves : (id : MessageId) → LeftAlone im (leaves (keeps-alive id) im ph out)
  unfolding done
  keepalive-leaves id = left_alone (keeps-alive id) im ph out byte refl refl refl refl refl
