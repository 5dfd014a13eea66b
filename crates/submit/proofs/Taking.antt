-- What becomes of the further blocks with a message that is accepted: a Mapping that takes a word puts its entry at that place, a Request its ID;
-- the word there was free, so neither counted yet. Assumes nothing.
use Rattle.std.specs.Prelude.{Ok, Option, Some, None}
use Prim.Native.Nat.{◌*◌, ◌<◌, ℕ}
use mathlib.Core.Bool.{false, false≢true, not, true}
use mathlib.Core.List.{List}
use mathlib.Core.Path.{◌∙◌, ◌≡◌, ap, refl, sym}
use native.Mathlib.Omega.{arith}
use lib.Dec.{eqb}
use lib.ListN.{get_or}
use borrow.Author.Tests.{eq-eqb, eqb-true, ne_eqb}
use Rattle.octets.specs.Bytes.{Bytes}
use Rattle.octets.proofs.Choice.{by_test, pick_all}
use Rattle.ft_number.specs.declared.MessageId.{MessageId}
use Rattle.label_list.specs.declared.LabelMessage.{LabelMessage}
use Rattle.label_list.specs.declared.Side.{Side}
use Rattle.label_list.specs.Find.{FoundIn, find_of, is_found}
use Rattle.label_list.specs.Requests.{open_at}
use Rattle.label_list.specs.Rules.{code_accepted, sent_side}
use Rattle.label_list.specs.Word.{is_free, listable, lists_label, request_word, stands_for, word_count, word_of}
use Rattle.label_list.proofs.Reached.{found_passes}
use Rattle.fec_index.specs.Entries.{word_span}
use Rattle.fec_index.proofs.Counted.{lists_none}
use Rattle.label_events.specs.declared.Change.{Change}
use Rattle.label_events.specs.declared.Change.TheVariants.{Keep, Move, NoRoom, Put}
use Rattle.label_events.specs.Accept.{plan_by, plan_change, plan_of}
use Rattle.label_events.specs.Change.{ChangeIn, change_at, code_at, new_at, take_free, taken_at}
use Rattle.label_events.specs.Requests.{asked_plan}
use Rattle.label_events.proofs.Written.{change-place}
use Rattle.message.specs.declared.Kind.{Kind}
use Rattle.message.specs.Submission.{entry_in, submission_of}
use Rattle.message.proofs.Widths.{entry_in_width}
use Rattle.label_meaning.proofs.Effect.{FreeAt, free_first}
use Rattle.label_meaning.proofs.Listed.{stands_lists}
use Rattle.label_meaning.proofs.Requests.{free-plain}
use Rattle.image.specs.State.{decode}
use Rattle.image.proofs.Ranges.{labels-count}
use Rattle.protocol.specs.State.{Table}
use Rattle.protocol.proofs.KeepingLabels.{id_fits}
use Rattle.calls.specs.State.{state_of}
use Rattle.calls.specs.Storing.{Further, entry_put, same}
use Rattle.calls.proofs.Slots.{FurtherFits}
use Rattle.calls.proofs.Told.{HasWidth}
use Rattle.submit.specs.Change.{accepted_change, accepted_further, id_put}
use Rattle.submit.specs.Mapping.{entry_for, further_by, change_takes}
use Rattle.submit.proofs.Accepted.{change-made}

-- ---- the word that a Mapping takes was free, and the one that it writes in place was not
lists_taken : (w : ℕ) → lists_label w ≡ true → is_free w ≡ false
unfolding is_free
lists_taken w t = by_test (eqb w 0) (λ e. absurd (false≢true (lists_none w (omega (arith, eqb-true w 0 e)) ∙ t))) (λ n. n)

module _ (words : List ℕ) where
  take-taken : (g : Option ℕ) (w : ℕ) → FreeAt words g → change_takes words (take_free g w) ≡ taken_at None (take_free g w)
  unfolding is_free
  take-taken (Some j) w free = rw free.1
  take-taken None w free = refl

  change-taken : (label code : ℕ) (f g : Option ℕ) → f ≡ find_of (stands_for Side.Given label) words → FreeAt words g
      → change_takes words (change_at f g label code) ≡ taken_at f (change_at f g label code)
  unfolding change_at
  change-taken label code (Some i) g e free =
      let here : is_free (get_or words i 0) ≡ false =
      lists_taken (get_or words i 0) (stands_lists Side.Given label (get_or words i 0) (found_passes (stands_for Side.Given label) words i e refl)) in
      rw here
  change-taken label code None g e free = by_test (eqb code 0) (λ t. rw t) (λ n. rw n (take-taken g (word_of label code) free))

  by_taken : (label : ℕ) (n : Option ℕ)
      → change_takes words (plan_change (plan_by n words Side.Given label)) ≡ taken_at (find_of (stands_for Side.Given label) words) (plan_change (plan_by n words Side.Given label))
  by_taken label (Some code) =
      change-taken label code (find_of (stands_for Side.Given label) words) (find_of is_free words) refl (free_first words (find_of is_free words) refl)
  by_taken label None = refl

  mapping-taken : (label : ℕ)
      → change_takes words (plan_change (plan_of words LabelMessage.Mapping label)) ≡ taken_at (find_of (stands_for Side.Given label) words) (plan_change (plan_of words LabelMessage.Mapping label))
  unfolding plan_of sent_side
  mapping-taken label =
      pick_all (λ (p : Option Change). change_takes words (plan_change p) ≡ taken_at (find_of (stands_for Side.Given label) words) (plan_change p)) (not (listable label)) refl
      (by_taken label (code_accepted LabelMessage.Mapping (code_at words Side.Given label)))

-- what the code finds where the change writes, and it lies inside the list
module _ (words : List ℕ) (change : Change) where
  module _ (place word : ℕ) (e : change ≡ Put place word) {w : ℕ} (ew : w ≡ get_or words place 0) where
    pub not_taken : (w ≡ 0 → ⊥) → (None ≡ change_takes words change) × FoundIn words None
    unfolding is_free
    not_taken n = (rw (e, ← ew, ne_eqb w 0 n), tt)

    pub is_taken : w ≡ 0 → ChangeIn words change → (Some place ≡ change_takes words change) × FoundIn words (Some place)
    unfolding is_free
    is_taken z inside = (rw (e, ← ew, eq-eqb w 0 z), change-place words change place word inside e)

-- so the code, which looks at the word and reads a Mapping's entry alone, puts what the definition says
pub further_is : (t : Table) (kind : Kind) (label entry : ℕ) → further_by t.words kind (accepted_change t kind label) (entry_for kind entry) ≡ accepted_further t kind label entry
unfolding further_by accepted_further accepted_change
further_is t Kind.Mapping label entry = ap (λ (f : Option ℕ). entry_put f entry) (mapping-taken t.words label)
further_is t Kind.Withdraw label entry = refl
further_is t Kind.Release label entry = refl
further_is t Kind.Address label entry = refl
further_is t Kind.AddressWithdraw label entry = refl
further_is t Kind.ResourcesAvailable label entry = refl
further_is t (Kind.Request id) label entry = refl
further_is t (Kind.Abort id) label entry = refl
further_is t Kind.NoResources label entry = refl
further_is t Kind.NoKind label entry = refl

-- ---- no other kind puts anything
further_all : (P : Further → Type 0) (t : Table) (kind : Kind) (label entry : ℕ) → P same
    → (kind ≡ Kind.Mapping → P (entry_put (taken_at (find_of (stands_for Side.Given label) t.words) (accepted_change t Kind.Mapping label)) entry))
    → ((id : MessageId) → kind ≡ Kind.Request id → P (id_put (accepted_change t (Kind.Request id) label) id))
    → P (accepted_further t kind label entry)
unfolding accepted_further
further_all P t Kind.Mapping label entry none mapped asked = mapped refl
further_all P t Kind.Withdraw label entry none mapped asked = none
further_all P t Kind.Release label entry none mapped asked = none
further_all P t Kind.Address label entry none mapped asked = none
further_all P t Kind.AddressWithdraw label entry none mapped asked = none
further_all P t Kind.ResourcesAvailable label entry none mapped asked = none
further_all P t (Kind.Request id) label entry none mapped asked = asked id refl
further_all P t (Kind.Abort id) label entry none mapped asked = none
further_all P t Kind.NoResources label entry none mapped asked = none
further_all P t Kind.NoKind label entry none mapped asked = none

-- ---- it is put at a free word, so that nothing counted there
module _ (im : List ℕ) (entry : ℕ) where
  abbrev words : List ℕ
  words = (decode im).labels

  free-asked : (f : Option ℕ) → FreeAt words f → (id : MessageId) → FurtherFits im (id_put (take_free f request_word) id)
  free-asked (Some i) free id = free-plain (get_or words i 0) free.1
  free-asked None free id = tt

  asked_fits : (id : MessageId) (label : ℕ) → FurtherFits im (id_put (accepted_change (state_of im).table (Kind.Request id) label) id)
  unfolding accepted_change asked_plan
  asked_fits id label =
      pick_all (λ (p : Option Change). FurtherFits im (id_put (plan_change p) id)) (is_found (open_at id words (decode im).ids)) tt
      (free-asked (find_of is_free words) (free_first words (find_of is_free words) refl) id)

  free_mapped : (g : Option ℕ) (w : ℕ) → FreeAt words g → FurtherFits im (entry_put (taken_at None (take_free g w)) entry)
  free_mapped (Some j) w free = (omega (arith, labels-count im, free.0), sym (lists_none (get_or words j 0) (omega (arith, free.1))))
  free_mapped None w free = tt

  change_fits : (label code : ℕ) (f g : Option ℕ) → FreeAt words g → FurtherFits im (entry_put (taken_at f (change_at f g label code)) entry)
  unfolding change_at
  change_fits label code (Some i) g free = tt
  change_fits label code None g free =
      pick_all (λ (c : Change). FurtherFits im (entry_put (taken_at None c) entry)) (eqb code 0) tt (free_mapped g (word_of label code) free)

  by_fits : (label : ℕ) (n : Option ℕ) → FurtherFits im (entry_put (taken_at (find_of (stands_for Side.Given label) words) (plan_change (plan_by n words Side.Given label))) entry)
  by_fits label (Some code) =
      change_fits label code (find_of (stands_for Side.Given label) words) (find_of is_free words) (free_first words (find_of is_free words) refl)
  by_fits label None = tt

  mapped_fits : (label : ℕ)
      → FurtherFits im (entry_put (taken_at (find_of (stands_for Side.Given label) words) (accepted_change (state_of im).table Kind.Mapping label)) entry)
  unfolding accepted_change plan_of sent_side
  mapped_fits label =
      pick_all (λ (p : Option Change). FurtherFits im (entry_put (taken_at (find_of (stands_for Side.Given label) words) (plan_change p)) entry)) (not (listable label)) tt
      (by_fits label (code_accepted LabelMessage.Mapping (code_at words Side.Given label)))

  pub further_fits : (kind : Kind) (label : ℕ) → FurtherFits im (accepted_further (state_of im).table kind label entry)
  further_fits kind label =
      further_all (FurtherFits im) (state_of im).table kind label entry tt (λ e. mapped_fits label) (λ id e. asked_fits id label)

-- ---- it has its width
module _ (im : List ℕ) where
  id_width : (change : Change) (id : MessageId) → ChangeIn (decode im).labels change → id.0 < 4294967296 → HasWidth (id_put change id)
  id_width Keep id inside small = tt
  id_width (Put place word) id inside small = (omega (arith, labels-count im), small)
  id_width (Move from place word) id inside small = tt
  id_width NoRoom id inside small = tt

  module _ (entry : ℕ) (small : entry < word_span * word_span) where
    new_width : (f : Option ℕ) (j : ℕ) → j < word_count → HasWidth (entry_put (new_at f j) entry)
    new_width (Some i) j low = tt
    new_width None j low = (low, small)

    entry_width : (f : Option ℕ) (change : Change) → ChangeIn (decode im).labels change → HasWidth (entry_put (taken_at f change) entry)
    entry_width f Keep inside = tt
    entry_width f (Put place word) inside = new_width f place (omega (arith, labels-count im))
    entry_width f (Move from place word) inside = (omega (arith, labels-count im, inside.1), small)
    entry_width f NoRoom inside = tt

  pub further_width : (m : List ℕ) (kind : Kind) (label : ℕ) → Bytes m → submission_of m ≡ Ok (kind, label)
      → HasWidth (accepted_further (state_of im).table kind label (entry_in m))
  further_width m kind label bytes j =
      let t : Table = (state_of im).table in
      further_all HasWidth t kind label (entry_in m) tt
      (λ e. entry_width (entry_in m) (entry_in_width m bytes) (find_of (stands_for Side.Given label) t.words) (accepted_change t Kind.Mapping label) (change-made t Kind.Mapping label).1)
      (λ id e. id_width (accepted_change t (Kind.Request id) label) id (change-made t (Kind.Request id) label).1
      (id_fits m bytes id label (j ∙ ap (λ (k : Kind). (Ok (k, label))) e)))
