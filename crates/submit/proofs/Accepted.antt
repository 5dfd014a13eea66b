-- What accepting a message is answered and changes: one label word, or none; the words are as many and valid again. Assumes nothing.
use Rattle.std.specs.Prelude.{Result, Option, Some, None}
use Prim.Native.Nat.{ℕ}
use mathlib.Core.Bool.{Bool, false, not, true}
use mathlib.Core.List.{List}
use mathlib.Core.Path.{◌∙◌, ◌≡◌, ap, refl}
use native.Mathlib.Omega.{arith}
use lib.Dec.{eqb}
use lib.ListN.{get_or, length}
use Rattle.octets.specs.Pick.{both, pick}
use Rattle.octets.proofs.Choice.{pick_all}
use Rattle.block.specs.Run.{Words}
use Rattle.ft_number.specs.declared.MessageId.{MessageId}
use Rattle.label_list.specs.declared.LabelMessage.{LabelMessage}
use Rattle.label_list.specs.declared.Side.{Side}
use Rattle.label_list.specs.Beside.{entry_at}
use Rattle.label_list.specs.Find.{FoundIn, find_of, is_found}
use Rattle.label_list.specs.Requests.{open_at}
use Rattle.label_list.specs.Rules.{code_accepted, sent_side}
use Rattle.label_list.specs.Valid.{valid_of}
use Rattle.label_list.specs.Word.{is_free, listable, lists_label, request_word, stands_for, word_count, word_of}
use Rattle.label_list.proofs.OpenIds.{open_counting}
use Rattle.label_list.proofs.Reached.{found_in_lem, found_passes}
use Rattle.fec_index.proofs.Counted.{listed_at}
use Rattle.label_events.specs.declared.Acceptance.{Acceptance}
use Rattle.label_events.specs.declared.Change.{Change}
use Rattle.label_events.specs.Accept.{accepted_by, accepted_of, plan_by, plan_change, plan_of}
use Rattle.label_events.specs.Change.{ChangeIn, change_at, changed, code_at, take_free}
use Rattle.label_events.specs.Requests.{aborted_at, aborted_plan, asked_plan}
use Rattle.label_events.proofs.Asked.{aborted_change, asked-change}
use Rattle.label_events.proofs.Planned.{told-change}
use Rattle.message.specs.declared.Kind.{Kind}
use Rattle.message.specs.declared.SubmissionError.{SubmissionError}
use Rattle.label_meaning.proofs.Kept.{step-length}
use Rattle.label_meaning.proofs.Listed.{stands_lists}
use Rattle.image.specs.State.{decode, stored_ids, stored_index}
use Rattle.image.proofs.Ranges.{labels-count, stored-count, valid_words}
use Rattle.protocol.specs.Accepting.{accepted_as, changes_entry}
use Rattle.protocol.specs.State.{Table}
use Rattle.protocol.specs.Submit.{accepted_labels}
use Rattle.protocol.proofs.Words.{accepted_keeps, accepted_valid}
use Rattle.calls.specs.State.{state_of}
use Rattle.submit.specs.Change.{accepted_change}
use Rattle.submit.specs.Mapping.{MovesNone, accepted_for, change_for}

-- ---- only the IDs that count are found
module _ (im : List ℕ) (id : MessageId) where
  open_stored : open_at id (decode im).labels (decode im).ids ≡ open_at id (decode im).labels (stored_ids im)
  unfolding decode
  open_stored = open_counting id (decode im).labels (stored_ids im) (omega (arith, labels-count im, stored-count im))

  asked-stored : asked_plan (decode im).labels (decode im).ids id ≡ asked_plan (decode im).labels (stored_ids im) id
  unfolding asked_plan
  asked-stored = rw open_stored

  aborted_stored : aborted_plan (decode im).labels (decode im).ids id ≡ aborted_plan (decode im).labels (stored_ids im) id
  unfolding aborted_plan
  aborted_stored = rw open_stored

-- ---- where a label is listed, the entry that counts is the one that is stored
module _ (im : List ℕ) (label : ℕ) where
  listed-entry : (f : Option ℕ) → f ≡ find_of (stands_for Side.Given label) (decode im).labels → entry_at (decode im).index f ≡ entry_at (stored_index im) f
  unfolding decode entry_at
  listed-entry (Some i) e =
      let lists : lists_label (get_or (decode im).labels i 0) ≡ true =
      stands_lists Side.Given label (get_or (decode im).labels i 0) (found_passes (stands_for Side.Given label) (decode im).labels i e refl) in
      listed_at (decode im).labels (stored_index im) i ∙ ap (λ (b : Bool). pick b (get_or (stored_index im) i 0) 0) lists
  listed-entry None e = refl

-- what the searches over the image's words, over its IDs and at the label's place answered
module _ (im : List ℕ) {words : List ℕ} (ew : words ≡ (decode im).labels) where
  module _ (label entry : ℕ) {f : Option ℕ} (ef : f ≡ find_of (stands_for Side.Given label) words) where
    pub found_inside : FoundIn (decode im).labels f
    found_inside = found_in_lem (stands_for Side.Given label) (decode im).labels (rw ew at ef)

    module _ {b : Bool} (eb : b ≡ both (is_found f) (not (eqb (entry_at (stored_index im) f) entry))) where
      changes_is : b ≡ changes_entry (state_of im).table Kind.Mapping label entry
      changes_is =
          let e : f ≡ find_of (stands_for Side.Given label) (decode im).labels = rw ew at ef in
          eb ∙ rw (← listed-entry im label f e, e)

      pub mapping-other : {x : Acceptance} {y : Change} → b ≡ true → x ≡ Acceptance.NotAllowed → y ≡ Change.Keep
          → (x ≡ accepted_for (state_of im).table Kind.Mapping label entry) × (y ≡ change_for (state_of im).table Kind.Mapping label entry)
      unfolding accepted_for change_for
      mapping-other t p q = rw (← changes_is, t) (p, q)

      pub mapping_is : {x : Acceptance} {y : Change} → b ≡ false → x ≡ (accepted_of words LabelMessage.Mapping label).0 → y ≡ plan_change (plan_of words LabelMessage.Mapping label)
          → (x ≡ accepted_for (state_of im).table Kind.Mapping label entry) × (y ≡ change_for (state_of im).table Kind.Mapping label entry)
      unfolding accepted_for change_for accepted_as accepted_change
      mapping_is n p q = rw (← changes_is, n, ← ew) (p, q)

  module _ {x : Acceptance} {y : Change} {ids : List ℕ} (ei : ids ≡ stored_ids im) (id : MessageId) where
    pub request_is : x ≡ (accepted_by words (asked_plan words ids id)).0 → y ≡ plan_change (asked_plan words ids id)
        → (x ≡ (accepted_by (decode im).labels (asked_plan (decode im).labels (decode im).ids id)).0) × (y ≡ plan_change (asked_plan (decode im).labels (decode im).ids id))
    request_is p q = rw (asked-stored im id, ← ei, ← ew) (p, q)

    pub abort_is : x ≡ (accepted_by words (aborted_plan words ids id)).0 → y ≡ plan_change (aborted_plan words ids id)
        → (x ≡ (accepted_by (decode im).labels (aborted_plan (decode im).labels (decode im).ids id)).0) × (y ≡ plan_change (aborted_plan (decode im).labels (decode im).ids id))
    abort_is p q = rw (aborted_stored im id, ← ei, ← ew) (p, q)

-- ---- the change makes the label words, and writes inside them
pub change-made : (t : Table) (kind : Kind) (label : ℕ)
    → ((accepted_as t kind label).1 ≡ changed t.words (accepted_change t kind label)) × ChangeIn t.words (accepted_change t kind label)
unfolding accepted_as accepted_change changed
change-made t Kind.Mapping label = told-change t.words LabelMessage.Mapping label refl
change-made t Kind.Withdraw label = told-change t.words LabelMessage.Withdraw label refl
change-made t Kind.Release label = told-change t.words LabelMessage.Release label refl
change-made t Kind.Address label = (refl, tt)
change-made t Kind.AddressWithdraw label = (refl, tt)
change-made t Kind.ResourcesAvailable label = (refl, tt)
change-made t (Kind.Request id) label = asked-change t.words t.ids id refl
change-made t (Kind.Abort id) label = aborted_change t.words t.ids id refl
change-made t Kind.NoResources label = (refl, tt)
change-made t Kind.NoKind label = (refl, tt)

pub labels_fit : (t : Table) → valid_of t.words ≡ true → (j : Result (Kind × ℕ) SubmissionError) → length t.words ≡ word_count → Words word_count (accepted_labels t j)
labels_fit t valid j count =
    let same : length (accepted_labels t j) ≡ length t.words =
    accepted_keeps (λ (ws : List ℕ). length ws ≡ length t.words) t refl (λ e. step-length t.words e) j in
    valid_words (accepted_labels t j) (same ∙ count) (accepted_valid t valid j)

-- ---- a message of ours moves no label
take_none : (g : Option ℕ) (w : ℕ) → MovesNone (take_free g w)
take_none (Some i) w = tt
take_none None w = tt

change_none : (f g : Option ℕ) (label code : ℕ) → MovesNone (change_at f g label code)
unfolding change_at
change_none (Some i) g label code = tt
change_none None g label code = pick_all MovesNone (eqb code 0) tt (take_none g (word_of label code))

by_none : (n : Option ℕ) (words : List ℕ) (side : Side) (label : ℕ) → MovesNone (plan_change (plan_by n words side label))
by_none (Some code) words side label = change_none (find_of (stands_for side label) words) (find_of is_free words) label code
by_none None words side label = tt

plan_none : (words : List ℕ) (message : LabelMessage) (label : ℕ) → MovesNone (plan_change (plan_of words message label))
unfolding plan_of
plan_none words message label =
    pick_all (λ (p : Option Change). MovesNone (plan_change p)) (not (listable label)) tt
    (by_none (code_accepted message (code_at words (sent_side message) label)) words (sent_side message) label)

asked_none : (words ids : List ℕ) (id : MessageId) → MovesNone (plan_change (asked_plan words ids id))
unfolding asked_plan
asked_none words ids id =
    pick_all (λ (p : Option Change). MovesNone (plan_change p)) (is_found (open_at id words ids)) tt (take_none (find_of is_free words) request_word)

aborted_none : (f : Option ℕ) → MovesNone (plan_change (aborted_at f))
aborted_none (Some i) = tt
aborted_none None = tt

pub moves_none : (t : Table) (kind : Kind) (label : ℕ) → MovesNone (accepted_change t kind label)
unfolding accepted_change aborted_plan
moves_none t Kind.Mapping label = plan_none t.words LabelMessage.Mapping label
moves_none t Kind.Withdraw label = plan_none t.words LabelMessage.Withdraw label
moves_none t Kind.Release label = plan_none t.words LabelMessage.Release label
moves_none t Kind.Address label = tt
moves_none t Kind.AddressWithdraw label = tt
moves_none t Kind.ResourcesAvailable label = tt
moves_none t (Kind.Request id) label = asked_none t.words t.ids id
moves_none t (Kind.Abort id) label = aborted_none (open_at id t.words t.ids)
moves_none t Kind.NoResources label = tt
moves_none t Kind.NoKind label = tt
