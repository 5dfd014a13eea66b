-- The Request that a message answers: the IDs of the image find it in the words that the ACK leaves. Assumes nothing.
use Rattle.std.specs.Prelude.{Option, Some, None}
use Prim.Native.Nat.{ℕ}
use mathlib.Core.Bool.{true, false}
use mathlib.Core.List.{List}
use mathlib.Core.Path.{◌≡◌, refl, sym, ap₂, ◌∙◌}
use native.Mathlib.Omega.{arith}
use lib.ListN.{length, take}
use Rattle.octets.proofs.Choice.{no}
use Rattle.ft_number.specs.declared.MessageId.{MessageId}
use Rattle.label_list.specs.declared.LabelMessage.{LabelMessage}
use Rattle.label_list.specs.Counting.{counting}
use Rattle.label_list.specs.Find.{find_of}
use Rattle.label_list.specs.Requests.{open_at}
use Rattle.label_list.specs.Rules.{sent_side}
use Rattle.label_list.specs.Valid.{valid_of}
use Rattle.label_list.specs.Word.{lists_label, stands_for, word_count}
use Rattle.label_list.proofs.Counting.{counting-freed}
use Rattle.label_list.proofs.OpenIds.{found_request, open_counting}
use Rattle.label_events.specs.Ack.{acked_of}
use Rattle.message.specs.declared.Message.{Message}
use Rattle.label_meaning.specs.Event.{Acked, after_event}
use Rattle.label_meaning.proofs.Kept.{step-length}
use Rattle.label_meaning.proofs.Listed.{ListedOld, acked-listed, same_listed, then_listed}
use Rattle.label_meaning.proofs.Requests.{request-old}
use Rattle.image.specs.State.{decode, stored_ids, stored_index}
use Rattle.image.specs.Verdict.{IsSound}
use Rattle.image.proofs.Ranges.{labels-count, stored-count}
use Rattle.image.proofs.Requests.{Fewer, ids_fewer}
use Rattle.image.proofs.Sound.{sound_valid}
use Rattle.protocol.specs.Acked.{released_labels, acked}
use Rattle.protocol.specs.Labels.{answered_by, answers, answered_at, label_effect, request_at}
use Rattle.protocol.specs.State.{Table}
use Rattle.protocol.proofs.Words.{released-keeps, released_valid}
use Rattle.calls.specs.State.{state_of}
use Rattle.receive.specs.Speed.{labels_stay, touches_none}
use Rattle.receive.specs.Words.{RequestFound, table_on}

pub answers_is : (g : Message) {j : Option MessageId} → j ≡ answered_by g.typename g.statusid g.requestid → j ≡ answers g
unfolding answers
answers_is g e = e

module _ (im words : List ℕ) (g : Message) {j : Option MessageId} (e : j ≡ answers g) where
  pub answered_none : j ≡ None → None ≡ answered_at (table_on im words) g
  unfolding answered_at
  answered_none t = rw (← e, t)

  pub answered_open : {id : MessageId} {f : Option ℕ} → length words ≡ word_count → j ≡ Some id → f ≡ open_at id words (stored_ids im) → f ≡ answered_at (table_on im words) g
  unfolding answered_at
  answered_open {id} n t p = rw (← e, t) (p ∙ sym (open_counting id words (stored_ids im) (omega (arith, n, stored-count im))))

-- what was found is a Request's word
pub answered-request : (t : Table) (g : Message) {f : Option ℕ} → f ≡ answered_at t g → RequestFound t.words f
unfolding answered_at
answered-request t g e = rw e (by (answers g))
  where
    at : (id : MessageId) (f : Option ℕ) → open_at id t.words t.ids ≡ f → RequestFound t.words f
    at id (Some i) q = (found_request id t.words t.ids i q).request
    at id None q = tt

    by : (j : Option MessageId) → RequestFound t.words (request_at t j)
    by None = tt
    by (Some id) = at id (open_at id t.words t.ids) refl

-- an ACK makes no Request, and lists no label
pub released_fewer : (ms : List (List ℕ)) (words : List ℕ) → (length (released_labels ms words) ≡ length words) × Fewer (released_labels ms words) words
released_fewer ms words =
    released-keeps (λ (ws : List ℕ). (length ws ≡ length words) × Fewer ws words)
    (λ ws p message label. (step-length ws (Acked message label) ∙ p.0, λ i t. p.1 i (request-old ws (Acked message label) (λ z. no cc) i t)))
    ms words (refl, λ i t. t)

one_listed : (words ws : List ℕ) → ListedOld words ws None → (message : LabelMessage) (label : ℕ) → ListedOld words (after_event ws (Acked message label)) None
unfolding after_event
one_listed words ws p message label = then_listed words ws (acked_of ws message label) None p (acked-listed ws message label (find_of (stands_for (sent_side message) label) ws) refl)

pub released-listed : (ms : List (List ℕ)) (words : List ℕ) → ListedOld words (released_labels ms words) None
released-listed ms words = released-keeps (λ (ws : List ℕ). ListedOld words ws None) (one_listed words) ms words (same_listed words None)

-- so of the IDs in block 65, and of the entries in blocks 66 and 67, those that count then counted before
module _ (im : List ℕ) (k : ℕ) where
  abbrev released : List ℕ
  released = released_labels (take k (decode im).queue) (decode im).labels

  entries_counted : counting 0 lists_label released (decode im).index ≡ counting 0 lists_label released (stored_index im)
  unfolding decode
  entries_counted =
      counting-freed 0 lists_label released (decode im).labels (stored_index im) (released_fewer (take k (decode im).queue) (decode im).labels).0
      (λ i t. released-listed (take k (decode im).queue) (decode im).labels i (λ z. no cc) t)

  pub acked_table : (a : ℕ) → (acked (state_of im) k a).table ≡ table_on im released
  unfolding acked
  acked_table a =
      let p = released_fewer (take k (decode im).queue) (decode im).labels in
      ap₂ (λ (ids index : List ℕ). record { words = released; ids = ids; index = index }) (sym (ids_fewer im released (p.0 ∙ labels-count im) p.1)) entries_counted

-- the words that the ACK leaves are valid
pub loaded_valid : (im : List ℕ) (g : Message) (k : ℕ) {ws : List ℕ} → IsSound im
    → (labels_stay (state_of im) k g ≡ false → ws ≡ released_labels (take k (decode im).queue) (decode im).labels) → touches_none (label_effect g) ≡ false → valid_of ws ≡ true
loaded_valid im g k s ew n =
    let f : labels_stay (state_of im) k g ≡ false = rw n in
    rw (ew f) (released_valid (take k (decode im).queue) (decode im).labels (sound_valid im s).labels)
