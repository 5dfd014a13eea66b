-- What each return of Submit leaves is what its answer leaves. Assumes nothing.
use Rattle.std.specs.Prelude.{Ok}
use Prim.Native.Nat.{◌+◌, ◌<◌, ℕ}
use mathlib.Core.Bool.{false, true}
use mathlib.Core.List.{List, []}
use mathlib.Core.Path.{◌∙◌, ◌≡◌, ap, refl, sym}
use Rattle.octets.specs.Bytes.{Bytes}
use Rattle.octets.specs.Laid.{laid}
use Rattle.block0.specs.declared.Header.{Header}
use Rattle.block0.specs.Layout.{slot_count}
use Rattle.label_events.specs.declared.Change.{Change}
use Rattle.label_events.specs.Change.{ChangeIn, changed}
use Rattle.message.specs.declared.Kind.{Kind}
use Rattle.message.specs.Submission.{entry_in, submission_of}
use Rattle.image.specs.Sizes.{block_of}
use Rattle.image.specs.State.{decode, store0, store_slot}
use Rattle.image.proofs.Ranges.{bytes_in_range}
use Rattle.protocol.specs.declared.Answer.{Answer}
use Rattle.protocol.specs.declared.Effect.{Effect}
use Rattle.protocol.specs.declared.Phase.{Phase}
use Rattle.protocol.specs.Answers.{answer_number, effect_by, is_done}
use Rattle.protocol.specs.State.{State}
use Rattle.protocol.specs.Step.{stepped}
use Rattle.protocol.specs.Submit.{kind_rule, submit, submit_rule, submitted}
use Rattle.protocol.specs.SubmitCases.{Fitting}
use Rattle.calls.specs.declared.Outcome.{Outcome}
use Rattle.calls.specs.Further.{further_told}
use Rattle.calls.specs.Outcomes.{After, admitted_on, after_with, further_bits, is_other, refusal, settle_of}
use Rattle.calls.specs.State.{state_of}
use Rattle.calls.specs.Storing.{Further, further_stored, next_slot, one_more, slot_stored, stored}
use Rattle.calls.proofs.Called.{call_is}
use Rattle.calls.proofs.Settled.{Admitted, admitted_is}
use Rattle.calls.proofs.Slots.{HasPlace, SlotFits, fits_place}
use Rattle.calls.proofs.Told.{further-told}
use Rattle.call_meaning.proofs.Calling.{call_refused, found_refused, own_done, own_refused}
use Rattle.submit.specs.Call.{queued, submit_of, submitted_further}
use Rattle.submit.specs.Change.{accepted_further, header_queued}
use Rattle.submit.specs.Mapping.{MovesNone, further_by}
use Rattle.submit.specs.Queueing.{Queueable}
use Rattle.submit.proofs.Accepted.{change-made, moves_none}
use Rattle.submit.proofs.Answered.{judged_harmless}
use Rattle.submit.proofs.Queueing.{image_changed, is_further, is_slotted, labels-put, labels-slotted, queued_puts, stored_is, told-slotted}
use Rattle.submit.proofs.Taking.{further_fits, further_is, further_width}

-- ---- the message is queued; the premises are what the function asks and what its callees ensure
module _ (im m : List ℕ) (kind : Kind) (label : ℕ) {entry : ℕ} {change : Change} (q : Queueable im m kind label entry change) where
  abbrev f : Further
  f = accepted_further (state_of im).table kind label (entry_in m)

  fits : SlotFits im (one_more m)
  fits = (record { low = q.low; short = q.high; kind = kind; label = label; accepted = q.accepted }, q.room)

  place : HasPlace f
  place = fits_place im f (further_fits im (entry_in m) kind label)

  inside : ChangeIn (decode im).labels change
  inside = rw q.change-made (change-made (state_of im).table kind label).1

  pub none_moved : MovesNone change
  none_moved = rw q.change-made (moves_none (state_of im).table kind label)

  module _ {h : Header} (eh : h ≡ (decode im).header) {k : ℕ} (ek : (k ≡ next_slot h) × (k < slot_count)) {im₁ : List ℕ} (e₁ : im₁ ≡ store_slot im k m) where
    same_words : (decode im₁).labels ≡ (decode im).labels
    same_words = labels-slotted im m q.sound.size fits f place eh ek e₁

    pub slotted_inside : ChangeIn (decode im₁).labels change
    slotted_inside = rw same_words inside

    -- the further block is another as the definition says
    is_accepted : further_by (decode im₁).labels kind change entry ≡ f
    is_accepted = rw (same_words, q.change-made, q.entry_read) (further_is (state_of im).table kind label (entry_in m))

    module _ {im₂ : List ℕ} {bits : ℕ}
        (e₂ : (im₂ ≡ further_stored im₁ (further_by (decode im₁).labels kind change entry)) × (bits ≡ further_told im₁ (further_by (decode im₁).labels kind change entry))) where
      is_put : im₂ ≡ further_stored im₁ f
      is_put = rw (← is_accepted) e₂.0

      pub put_inside : ChangeIn (decode im₂).labels change
      put_inside = rw (labels-put im m q.sound.size fits f place eh ek e₁ is_put) inside

      pub queued_is : (ph : Phase) → Bytes im → Bytes m → {h' : Header} {im₃ : List ℕ} → h' ≡ header_queued h kind → im₃ ≡ store0 im₂ h' (changed (decode im₂).labels change)
          → after_with (record { answer = Answer.Done; phase = ph; written = 0; slot = k + 1; block0 = true; further = bits; leftout = 0 }) im₃ [] ≡ queued im ph m
      unfolding queued laid
      queued_is ph bytes byte {h'} {im₃} eh' e₃ =
          let s : State = submitted (state_of im) m in
          let next : List ℕ = stored im (one_more m) (submitted_further (state_of im).table m) s in
          let image : im₃ ≡ next =
          stored_is im m q.sound.size fits f place eh ek e₁ is_put kind change eh' e₃ ∙ rw q.change-made (sym (queued_puts im m q.sound kind label q.accepted)) in
          let slot : k + 1 ≡ block_of (next_slot (decode im).header) = rw (ek.0, eh) in
          let zeroth : true ≡ is_other im next 0 = image_changed im m q.sound kind label q.accepted (bytes_in_range im bytes) fits place in
          let slotted : im₁ ≡ slot_stored im (one_more m) = is_slotted im m q.sound.size fits f place eh ek e₁ in
          let told : bits ≡ further_bits im next =
          e₂.1
          ∙ ap (further_told im₁) is_accepted
          ∙ ap (λ (x : List ℕ). further_told x f) slotted
          ∙ told-slotted im m q.sound.size fits f
          ∙ sym (further-told im q.sound (one_more m) fits s f bytes (further_width im m kind label byte q.accepted))
          ∙ ap (λ (x : Further). further_bits im (stored im (one_more m) x s)) (is_further im m q.sound kind label q.accepted) in
          λ i. after_with (record { answer = Answer.Done; phase = ph; written = 0; slot = slot i; block0 = zeroth i; further = told i; leftout = 0 }) (image i) []

-- ---- a message with its kind and label
module _ (im : List ℕ) (ph : Phase) (m : List ℕ) {kind : Kind} {label : ℕ} (w : Fitting (state_of im) m) (j : submission_of m ≡ Ok (kind, label))
    {a : Answer} (e : a ≡ kind_rule (state_of im) ph kind label (entry_in m)) where
  pub kind_refused : {r : Outcome} → is_done a ≡ false → r ≡ refusal a ph → after_with r im [] ≡ settle_of (kind_rule (state_of im) ph kind label (entry_in m)) ph im [] (queued im ph m)
  kind_refused n p = rw (← e) (own_refused a ph im [] (queued im ph m) (judged_harmless im ph m w j e n) p)

  pub kind_done : {x : After} → is_done a ≡ true → x ≡ queued im ph m → x ≡ settle_of (kind_rule (state_of im) ph kind label (entry_in m)) ph im [] (queued im ph m)
  kind_done t p = rw (← e) (own_done a ph im [] (queued im ph m) t p)

-- ---- the public call
module _ (im : List ℕ) (ph : Phase) (m : List ℕ) where
  call : submit_of im ph m ≡ settle_of (admitted_on im ph (submit_rule (state_of im) ph m)) ph im [] (queued im ph m)
  unfolding submit_of submit queued
  call = call_is im ph [] (one_more m) (submitted_further (state_of im).table m) (submit_rule (state_of im) ph m) (stepped Answer.Done (submitted (state_of im) m) ph []) refl

  pub admit_is : {a : Answer} {r : Outcome} → a ≡ admitted_on im ph Answer.Done → is_done a ≡ false → r ≡ refusal a ph → after_with r im [] ≡ submit_of im ph m
  admit_is e n p = call_refused im ph e [] (submit_rule (state_of im) ph m) (queued im ph m) n p ∙ sym call

  module _ (w : Admitted im ph) where
    pub submit-judged : {a : Answer} {x : After} → a ≡ submit_rule (state_of im) ph m → x ≡ settle_of a ph im [] (queued im ph m) → x ≡ submit_of im ph m
    submit-judged e p = p ∙ ap (λ (a : Answer). settle_of a ph im [] (queued im ph m)) (e ∙ sym (admitted_is w (submit_rule (state_of im) ph m))) ∙ sym call

    pub submit_refused : {a : Answer} {r : Outcome} → a ≡ submit_rule (state_of im) ph m → r ≡ refusal a ph → effect_by (answer_number a) ≡ Effect.Nothing
        → after_with r im [] ≡ submit_of im ph m
    submit_refused e p n = submit-judged e (found_refused ph im [] (queued im ph m) refl p n)
