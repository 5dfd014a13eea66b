-- What a call that is done stores: its state, in the ring of slots that it makes. Assumes nothing.
use Prim.Native.Nat.{ℕ}
use mathlib.Core.Bool.{false}
use mathlib.Core.List.{List}
use mathlib.Core.Path.{◌≡◌, sym, ap, ◌∙◌}
use lib.ListN.{length}
use Rattle.image.specs.State.{Contents, decode}
use Rattle.image.proofs.Sound.{parts_sound}
use Rattle.protocol.specs.declared.Answer.{Answer}
use Rattle.protocol.specs.declared.Phase.{Phase}
use Rattle.protocol.specs.Answers.{effect_of}
use Rattle.protocol.specs.Calls.{Call}
use Rattle.protocol.specs.Judged.{done, judged}
use Rattle.protocol.specs.Proper.{Proper}
use Rattle.calls.specs.Outcomes.{After, settle_of, step_stored}
use Rattle.calls.specs.State.{state_of}
use Rattle.calls.specs.Storing.{first_after, slot_named}
use Rattle.call_meaning.specs.Standing.{Standing}
use Rattle.call_meaning.proofs.Putting.{put_decodes}
use Rattle.session.specs.Call.{further_put, given, leaves, lent, makes_image, slots_left}
use Rattle.session.proofs.Answers.{answer_is}
use Rattle.session.proofs.Puts.{done-keeps}
use Rattle.session.proofs.Settles.{answer_on, done_on, settles_on}

module _ (c : Call) (im : List ℕ) (ph : Phase) (out : List ℕ) (other : makes_image c ≡ false) (d : (leaves c im ph out).outcome.answer ≡ Answer.Done) where
  pub leaves-stored : leaves c im ph out ≡ step_stored im (slots_left c (state_of im) ph) (further_put c (state_of im) ph) (done c (state_of im) ph) (lent c out)
  unfolding settle_of effect_of done_on
  leaves-stored =
      settles_on c im ph out
      ∙ ap (λ (a : Answer). settle_of a (given c ph) im (lent c out) (done_on c im ph out)) (sym (answer_is c im ph out) ∙ d)
      ∙ rw other

  pub slot_named_lem : (leaves c im ph out).outcome.slot ≡ slot_named im (slots_left c (state_of im) ph)
  slot_named_lem = ap (λ (x : After). x.outcome.slot) leaves-stored

  module _ (st : Standing im ph) where
    pub judged-done : judged c (state_of im) ph (length out) ≡ Answer.Done
    unfolding answer_on
    judged-done = rw (other, parts_sound im st.sound) at (sym (answer_is c im ph out) ∙ d)

    -- where the ring begins
    pub first_stored : Proper c ph → (decode (leaves c im ph out).image).header.first ≡ first_after (decode im).header (slots_left c (state_of im) ph)
    first_stored p =
        let keeps = done-keeps im ph st c (length out) other p judged-done in
        ap (λ (x : After). (decode x.image).header.first) leaves-stored
        ∙ ap (λ (s : Contents). s.header.first) (put_decodes im st.sound (slots_left c (state_of im) ph) (further_put c (state_of im) ph) (done c (state_of im) ph).state keeps.puts)
