-- What an owner stores of a message that is queued: the slot behind the newest, and then block 0. Assumes nothing.
use Prim.Native.Nat.{ℕ, ◌+◌}
use mathlib.Core.Bool.{Bool, true, false}
use mathlib.Core.List.{List, [], ◌∷◌}
use mathlib.Core.Path.{◌≡◌, refl, sym, ap, ◌∙◌}
use native.Mathlib.Omega.{arith}
use lib.ListN.{length, length-append}
use Rattle.octets.specs.Bytes.{Bytes}
use Rattle.octets.proofs.Differ.{differ_false}
use Rattle.block0.specs.Layout.{header_of}
use Rattle.image.specs.Sizes.{block, block_of}
use Rattle.image.specs.State.{decode}
use Rattle.image.proofs.Queue.{queue_length}
use Rattle.protocol.specs.declared.Answer.{Answer}
use Rattle.protocol.specs.declared.Phase.{Phase}
use Rattle.protocol.specs.Answers.{effect_of}
use Rattle.protocol.specs.Calls.{submits, step}
use Rattle.protocol.specs.State.{held}
use Rattle.protocol.specs.Step.{Step}
use Rattle.protocol.proofs.Queues.{submit_queue}
use Rattle.calls.specs.Outcomes.{After, settle_of}
use Rattle.calls.specs.State.{state_of}
use Rattle.calls.specs.Storing.{next_slot}
use Rattle.call_meaning.specs.Standing.{Standing}
use Rattle.session.specs.Call.{given, leaves, lent}
use Rattle.session.proofs.Answers.{answer_is}
use Rattle.session.proofs.Refines.{refines}
use Rattle.session.proofs.Settles.{done_on, settles_on}
use Rattle.session.proofs.Told.{block0-told}

module _ (im : List ℕ) (ph : Phase) (st : Standing im ph) (m out : List ℕ) (byte : Bytes m) (d : (leaves (submits m) im ph out).outcome.answer ≡ Answer.Done) where
  -- a message queued is one more
  pub one_more-held : held (state_of (leaves (submits m) im ph out).image) ≡ held (state_of im) + 1
  unfolding step
  one_more-held =
      let e = refines im ph st out (submits m) byte in
      ap (λ (x : Step). held x.state) e
      ∙ ap length (submit_queue (state_of im) ph m (sym (ap (λ (x : Step). x.answer) e) ∙ d))
      ∙ length-append (state_of im).queue (m ∷ [])

  leaves-done : leaves (submits m) im ph out ≡ done_on (submits m) im ph out
  unfolding settle_of effect_of
  leaves-done =
      settles_on (submits m) im ph out
      ∙ ap (λ (a : Answer). settle_of a (given (submits m) ph) im (lent (submits m) out) (done_on (submits m) im ph out)) (sym (answer_is (submits m) im ph out) ∙ d)

  pub slot-stored : (leaves (submits m) im ph out).outcome.slot ≡ block_of (next_slot (decode im).header)
  unfolding done_on
  slot-stored = ap (λ (x : After). x.outcome.slot) leaves-done

  pub block0-stored : (leaves (submits m) im ph out).outcome.block0 ≡ true
  unfolding decode
  block0-stored = by (leaves (submits m) im ph out).outcome.block0 refl
    where
      by : (b : Bool) → (leaves (submits m) im ph out).outcome.block0 ≡ b → b ≡ true
      by true e = refl
      by false e =
          let same : block im 0 ≡ block (leaves (submits m) im ph out).image 0 = differ_false (block im 0) (block (leaves (submits m) im ph out).image 0) (sym (block0-told (submits m) im ph out refl) ∙ e) in
          let count : (header_of (block (leaves (submits m) im ph out).image 0)).held ≡ (header_of (block im 0)).held = rw same in
          absurd (omega (arith, one_more-held, queue_length im, queue_length (leaves (submits m) im ph out).image))
