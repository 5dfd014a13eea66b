-- The image with one more message held: what is written, and that block 0 is another. Assumes nothing.
use Rattle.std.specs.Prelude.{Ok}
use Prim.Native.Nat.{◌+◌, ◌-◌, ◌<◌, ℕ}
use mathlib.Core.Bool.{true}
use mathlib.Core.List.{List, [], ◌++◌, ◌∷◌}
use mathlib.Core.Path.{◌∙◌, ◌≡◌, ap, refl}
use native.Mathlib.Omega.{arith}
use lib.Dec.{eqb}
use lib.ListN.{get_or, length, length-append}
use Rattle.octets.specs.Pick.{pick}
use Rattle.block.specs.Run.{Words}
use Rattle.label_list.specs.Word.{word_count}
use Rattle.block0.specs.declared.Header.{Header}
use Rattle.block0.specs.Fields.{Fits}
use Rattle.block0.specs.Layout.{header_of, labels_of, slot_count}
use Rattle.label_events.specs.declared.Change.{Change}
use Rattle.label_events.specs.declared.Change.TheVariants.{Put}
use Rattle.label_events.specs.Change.{ChangeIn, changed}
use Rattle.label_events.proofs.Written.{change-place}
use Rattle.message.specs.declared.Kind.{Kind}
use Rattle.message.specs.Submission.{entry_in, submission_of}
use Rattle.image.specs.Sizes.{block, image_size, request_block}
use Rattle.image.specs.State.{InRange, decode, entry_block, store0, store_slot}
use Rattle.image.specs.Verdict.{IsSound}
use Rattle.image.proofs.Queue.{queue_length}
use Rattle.image.proofs.Ranges.{labels-count}
use Rattle.image.proofs.Same.{store-changed}
use Rattle.image.proofs.Sound.{sound_valid}
use Rattle.image.proofs.Stored.{ids-store_slot, index-store_slot}
use Rattle.protocol.specs.Accepting.{stop_after}
use Rattle.protocol.specs.Submit.{accepted_labels, submitted}
use Rattle.calls.specs.Further.{bit_at, further_told}
use Rattle.calls.specs.Outcomes.{is_other}
use Rattle.calls.specs.State.{marks_of, state_of}
use Rattle.calls.specs.Storing.{Further, further_stored, header_for, next_slot, one_more, put-entry, put_id, same, slot_stored, stored}
use Rattle.calls.proofs.Marking.{marks_low}
use Rattle.calls.proofs.Putting.{kept_is}
use Rattle.calls.proofs.Slots.{HasPlace, SlotFits, further_high, further-length, further-other, slot-length, slot_others}
use Rattle.submit.specs.Call.{submitted_further}
use Rattle.submit.specs.Change.{accepted_change, accepted_further, header_queued}
use Rattle.submit.proofs.Accepted.{change-made, labels_fit}

-- the place of the label word that a change writes
pub change-at : (im : List ℕ) (change : Change) (i w : ℕ) → ChangeIn (decode im).labels change → change ≡ Put i w → i < word_count
change-at im change i w inside e = rw (labels-count im) at (change-place (decode im).labels change i w inside e)

-- images of one block 0 have the same numbers and label words
same_labels : (t im : List ℕ) → block t 0 ≡ block im 0 → (decode t).labels ≡ (decode im).labels
unfolding decode
same_labels t im e = ap labels_of e

same_header : (t im : List ℕ) → block t 0 ≡ block im 0 → (decode t).header ≡ (decode im).header
unfolding decode
same_header t im e = ap header_of e

-- ---- the stores before block 0: the slot and the further block leave it
module _ (im m : List ℕ) (size : length im ≡ image_size) (sf : SlotFits im (one_more m)) (f : Further) (place : HasPlace f) where
  abbrev slotted : List ℕ
  slotted = slot_stored im (one_more m)

  slotted-zeroth : block slotted 0 ≡ block im 0
  slotted-zeroth = slot_others im size (one_more m) sf 0 (omega arith)

  put-zeroth : block (further_stored slotted f) 0 ≡ block im 0
  put-zeroth = further-other slotted (slot-length im size (one_more m) sf) f place 0 (omega (arith, further_high f)) ∙ slotted-zeroth

  put_size : length (further_stored slotted f) ≡ image_size
  put_size = further-length slotted (slot-length im size (one_more m) sf) f place

-- the slot leaves what is told of a further block
pub told-slotted : (im m : List ℕ) → length im ≡ image_size → SlotFits im (one_more m) → (f : Further) → further_told (slot_stored im (one_more m)) f ≡ further_told im f
told-slotted im m size sf same = refl
told-slotted im m size sf (put_id place id) =
    ap (λ (xs : List ℕ). pick (eqb (get_or xs place 0) id.0) 0 1) (ids-store_slot im size (next_slot (decode im).header) (omega arith) m sf.0)
told-slotted im m size sf (put-entry place entry) =
    ap (λ (xs : List ℕ). pick (eqb (get_or xs place 0) entry) 0 (bit_at (entry_block place - request_block))) (index-store_slot im size (next_slot (decode im).header) (omega arith) m sf.0)

-- as the code does them; the premises are what the callees ensure
module _ (im m : List ℕ) (size : length im ≡ image_size) (sf : SlotFits im (one_more m)) (f : Further) (place : HasPlace f)
    {h : Header} (eh : h ≡ (decode im).header) {k : ℕ} (ek : (k ≡ next_slot h) × (k < slot_count)) {im₁ : List ℕ} (e₁ : im₁ ≡ store_slot im k m) where
  pub is_slotted : im₁ ≡ store_slot im (next_slot (decode im).header) m
  is_slotted = rw (e₁, ek.0, eh)

  pub labels-slotted : (decode im₁).labels ≡ (decode im).labels
  labels-slotted = same_labels im₁ im (rw is_slotted (slotted-zeroth im m size sf f place))

  module _ {im₂ : List ℕ} (e₂ : im₂ ≡ further_stored im₁ f) where
    pub labels-put : (decode im₂).labels ≡ (decode im).labels
    labels-put = same_labels im₂ im (ap (λ (i : List ℕ). block i 0) (e₂ ∙ ap (λ (i : List ℕ). further_stored i f) is_slotted) ∙ put-zeroth im m size sf f place)

    pub stored_is : (kind : Kind) (change : Change) {h' : Header} {im₃ : List ℕ} → h' ≡ header_queued h kind → im₃ ≡ store0 im₂ h' (changed (decode im₂).labels change)
        → im₃ ≡ store0 (further_stored (store_slot im (next_slot (decode im).header) m) f) (header_queued (decode im).header kind) (changed (decode im).labels change)
    stored_is kind change eh' e₃ = rw (e₃, labels-put, e₂, is_slotted, eh', eh)

-- ---- what is stored for the state with the message queued
module _ (im m : List ℕ) (s : IsSound im) (kind : Kind) (label : ℕ) (j : submission_of m ≡ Ok (kind, label)) where
  -- another count of messages held, and the marks
  queued_header : header_for (decode im).header.first (submitted (state_of im) m) ≡ header_queued (decode im).header kind
  unfolding submitted
  queued_header =
      let n : length ((decode im).queue ++ (m ∷ [])) ≡ (decode im).header.held + 1 =
      length-append (decode im).queue (m ∷ []) ∙ ap (λ (k : ℕ). k + 1) (queue_length im) in
      rw (j, n, kept_is (decode im).header.kept (sound_valid im s).kept)

  queued-labels : accepted_labels (state_of im).table (submission_of m) ≡ changed (decode im).labels (accepted_change (state_of im).table kind label)
  queued-labels = rw j (change-made (state_of im).table kind label).0

  abbrev f : Further
  f = accepted_further (state_of im).table kind label (entry_in m)

  pub is_further : f ≡ submitted_further (state_of im).table m
  is_further = rw j

  pub queued_puts : stored im (one_more m) (submitted_further (state_of im).table m) (submitted (state_of im) m)
      ≡ store0 (further_stored (store_slot im (next_slot (decode im).header) m) f) (header_queued (decode im).header kind)
      (changed (decode im).labels (accepted_change (state_of im).table kind label))
  unfolding submitted
  queued_puts = rw (queued_header, queued-labels, j)

  module _ (r : InRange (decode im)) (sf : SlotFits im (one_more m)) (place : HasPlace f) where
    header_fits : Fits (header_queued (decode im).header kind)
    header_fits = record {
      released = r.header.released;
      issued = r.header.issued;
      secured = r.header.secured;
      first = r.header.first;
      held = omega (arith, sf.1);
      timeout = r.header.timeout;
      kept = r.header.kept;
      marks = marks_low (record { stopped = (marks_of (decode im).header.marks).stopped; stopping = stop_after (marks_of (decode im).header.marks).stopping kind });
      keepalive = r.header.keepalive;
      maxpdu = r.header.maxpdu;
    }

    -- the count of held messages is another, so block 0 is
    pub image_changed : true ≡ is_other im (stored im (one_more m) (submitted_further (state_of im).table m) (submitted (state_of im) m)) 0
    image_changed =
        let t : List ℕ = further_stored (store_slot im (next_slot (decode im).header) m) f in
        let zeroth : block t 0 ≡ block im 0 = put-zeroth im m s.size sf f place in
        let fit : Words word_count (changed (decode im).labels (accepted_change (state_of im).table kind label)) =
        rw (← queued-labels) (labels_fit (state_of im).table (sound_valid im s).labels (submission_of m) r.labels.count) in
        rw (queued_puts, ← zeroth)
        (store-changed t (header_queued (decode im).header kind) (changed (decode im).labels (accepted_change (state_of im).table kind label)) (put_size im m s.size sf f place) header_fits fit
        (λ p q. let more : (decode im).header.held + 1 ≡ (decode im).header.held = ap (λ (x : Header). x.held) (p ∙ same_header t im zeroth) in omega arith))
