-- Which Requests are open in a state as its words change by an event, beside the IDs that stay. Assumes nothing.
use Rattle.std.specs.Prelude.{Some}
use Prim.Native.Nat.{ℕ}
use mathlib.Core.Bool.{Bool, false}
use mathlib.Core.List.{List}
use mathlib.Core.Logic.{◌≢◌}
use mathlib.Core.Path.{◌≡◌, refl, sym, ap, ◌∙◌}
use native.Mathlib.Omega.{arith}
use lib.ListN.{length, take}
use Rattle.octets.proofs.Choice.{no}
use Rattle.ft_number.specs.declared.MessageId.{MessageId}
use Rattle.label_list.specs.Find.{is_found}
use Rattle.label_list.specs.Requests.{open_at, open_ids, RequestAt}
use Rattle.label_list.specs.Word.{is_request, word_count}
use Rattle.label_list.proofs.OpenIds.{open_counting, found_request}
use Rattle.label_meaning.specs.Event.{LabelEvent, after_event, Asked, Broken}
use Rattle.label_meaning.specs.Requests.{ends_at}
use Rattle.label_meaning.proofs.Kept.{step-length}
use Rattle.protocol.specs.Acked.{acked, released_labels}
use Rattle.protocol.specs.Lawful.{Lawful}
use Rattle.protocol.specs.MeaningRequests.{is_open, opens_in}
use Rattle.protocol.specs.State.{State, no_table, with_words}
use Rattle.protocol.specs.Step.{broken}
use Rattle.protocol.proofs.KeepingLabels.{acked-keeps, Beside}
use Rattle.protocol.proofs.KeepingStates.{table_lawful}
use Rattle.protocol.proofs.Requests.{event_open, acked_open, event-closed}

-- no Request is open in a state that is released
pub none_open : (id : MessageId) → opens_in no_table id ≡ false
unfolding open_at is_request
none_open id = refl

-- the Requests that are open by words and IDs, whatever stands beside them
abbrev pub opens_of : List ℕ → List ℕ → MessageId → Bool
opens_of words ids id = is_found (open_at id words (open_ids words ids))

-- of words whose IDs are masked anew the same are open
pub masked_open : (id : MessageId) (words ids : List ℕ) → length words ≡ word_count → length ids ≡ word_count → opens_of words ids id ≡ is_found (open_at id words ids)
masked_open id words ids n k = ap is_found (open_counting id words ids (omega arith))

module _ (s : State) (law : Lawful s) (id : MessageId) where
  -- the words change by an event, beside the IDs
  pub event_is : (words : List ℕ) (e : LabelEvent) → length words ≡ word_count → opens_of (after_event words e) s.table.ids id ≡ is_found (open_at id (after_event words e) s.table.ids)
  event_is words e n = masked_open id (after_event words e) s.table.ids (step-length words e ∙ n) law.ids

  -- an event that does not end it
  pub kept_by_lem : (words : List ℕ) (e : LabelEvent) → length words ≡ word_count → e ≢ Asked → ((i : ℕ) → ends_at e ≡ Some i → RequestAt words s.table.ids id.0 i → ⊥)
      → opens_of (after_event words e) s.table.ids id ≡ is_found (open_at id words s.table.ids)
  kept_by_lem words e n other apart = event_is words e n ∙ event_open words s.table.ids e other id apart

  -- an event that ends, if anything, the Request of q: every other stays, and that of q is open no more
  module _ (words : List ℕ) (b : Beside words s.table.ids s.table.index) (e : LabelEvent) (other : e ≢ Asked) (q : MessageId) (at : ends_at e ≡ open_at q words s.table.ids) where
    pub ended-other : q.0 ≢ id.0 → opens_of (after_event words e) s.table.ids id ≡ is_found (open_at id words s.table.ids)
    ended-other apart =
        kept_by_lem words e b.words other (λ i here r.
        let same : RequestAt words s.table.ids q.0 i = found_request q words s.table.ids i (sym at ∙ here) in
        apart (sym same.same ∙ r.same))

    pub ended_same : q.0 ≡ id.0 → (i : ℕ) → open_at q words s.table.ids ≡ Some i → opens_of (after_event words e) s.table.ids id ≡ false
    ended_same same i o =
        event_is words e b.words
        ∙ event-closed words s.table.ids e other id i (at ∙ o) b.once (rw same at (found_request q words s.table.ids i o))

  -- ---- an ACK, and the end of a connection
  pub acked_is : (k a : ℕ) → is_open (acked s k a) id ≡ is_open s id
  unfolding acked
  acked_is k a =
      let n = (acked-keeps s.table.ids s.table.index (take k s.queue) s.table.words (table_lawful s law).beside).words in
      masked_open id (released_labels (take k s.queue) s.table.words) s.table.ids n law.ids ∙ acked_open s.table.ids id (take k s.queue) s.table.words

  pub broken_is : is_open (broken s) id ≡ is_open s id
  unfolding after_event
  broken_is = kept_by_lem s.table.words Broken law.words (λ z. no cc) (λ i at r. no cc)

  -- words that stay
  pub same_words : is_open (with_words s s.table.words) id ≡ is_open s id
  same_words = ap (λ (l : List ℕ). is_found (open_at id s.table.words l)) law.counted
