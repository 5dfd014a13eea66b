-- The label words and the IDs after each of the session's events: as many as before, the words valid again, and no ID twice. Assumes nothing.
use Rattle.std.specs.Prelude.{Result, Ok, Err, Option, Some, None}
use Prim.Native.Nat.{ℕ, ◌<◌, ◌≤◌, suc, zero}
use mathlib.Core.Bool.{Bool, true}
use mathlib.Core.List.{List, [], ◌∷◌}
use mathlib.Core.Logic.{◌≢◌, ⊎_elim}
use mathlib.Core.Path.{◌≡◌, refl, ◌∙◌}
use native.Mathlib.Omega.{arith}
use lib.Dec.{eqb}
use lib.ListN.{length, get_or, set, replicate, length-set}
use lib.Seq.{get_or-set_same, get_or-set_other}
use borrow.Author.Tests.{eqb-true, eqb-false}
use Rattle.octets.specs.Bytes.{Bytes}
use Rattle.octets.proofs.Choice.{by_test, no, below_or_not, pick_all}
use Rattle.ft_number.specs.declared.MessageId.{MessageId}
use Rattle.label_list.specs.declared.LabelMessage.{LabelMessage}
use Rattle.label_list.specs.declared.Side.{Side}
use Rattle.label_list.specs.declared.SweepRule.TheVariants.{AfterBreak}
use Rattle.label_list.specs.Counting.{counting}
use Rattle.label_list.specs.Find.{find_of}
use Rattle.label_list.specs.Requests.{once_of, open_at, open_ids}
use Rattle.label_list.specs.Sweep.{swept_of}
use Rattle.label_list.specs.Valid.{valid_of}
use Rattle.label_list.specs.Word.{is_request, lists_label, stands_for, word_count, on_side}
use Rattle.label_list.proofs.Counting.{counting-length, counting_twice}
use Rattle.label_list.proofs.OpenIds.{once_freed, once_counting, past_end}
use Rattle.label_events.specs.declared.Change.{Change}
use Rattle.label_events.specs.declared.Change.TheVariants.{Keep, Put, Move, NoRoom}
use Rattle.label_events.specs.declared.Meets.{Meets}
use Rattle.label_events.specs.declared.Touched.{Touched}
use Rattle.label_events.specs.Accept.{accepted_by, plan_change, plan_of}
use Rattle.label_events.specs.Change.{taken_at, put_at}
use Rattle.label_events.specs.Receive.{takes_at}
use Rattle.label_events.specs.Requests.{asked_plan, ids_put, asked_change}
use Rattle.message.specs.declared.Kind.{Kind}
use Rattle.message.specs.declared.SubmissionError.{SubmissionError}
use Rattle.message.specs.Submission.{submission_of}
use Rattle.message.proofs.Laws.{accepted, request-id}
use Rattle.message.proofs.Widths.{read_widths}
use Rattle.label_meaning.specs.Event.{LabelEvent, Accepted, Acked, Asked, Ended, Received, Broken, after_event}
use Rattle.label_meaning.proofs.Kept.{step-length}
use Rattle.label_meaning.proofs.RequestIds.{asked-event, asked_once, aborted_event}
use Rattle.label_meaning.proofs.Requests.{request-old}
use Rattle.label_meaning.proofs.Step.{step_valid}
use Rattle.protocol.specs.Accepting.{accepted_as, ids_accepted, index_accepted}
use Rattle.protocol.specs.Acked.{released_labels}
use Rattle.protocol.specs.Labels.{effect_labels, effect_takes, reached}
use Rattle.protocol.specs.State.{Table, no_table, table_of}
use Rattle.protocol.specs.Submit.{accepted_table}
use Rattle.protocol.proofs.Words.{none_valid, released-keeps}

-- words and a list of IDs beside them, those that count and those that do not
pub record Beside (ws xs es : List ℕ) : Type 0 where
  pub words : length ws ≡ word_count
  pub valid : valid_of ws ≡ true
  pub ids : length xs ≡ word_count
  pub width : (i : ℕ) → get_or xs i 0 < 4294967296
  pub once : once_of ws xs ≡ true
  pub index : length es ≡ word_count
  pub entries : (i : ℕ) → get_or es i 0 < 18446744073709551616

-- the table of such lists
pub record TableLaw (t : Table) : Type 0 where
  pub beside : Beside t.words t.ids t.index
  pub counted : open_ids t.words t.ids ≡ t.ids
  pub indexed : counting 0 lists_label t.words t.index ≡ t.index

-- the entries that count have the width that all of them have
counting_width : (live : ℕ → Bool) (ws xs : List ℕ) (n : ℕ) → 0 < n → ((i : ℕ) → get_or xs i 0 < n) → (i : ℕ) → get_or (counting 0 live ws xs) i 0 < n
unfolding counting
counting_width live [] xs n h each i = h
counting_width live (w ∷ ws) [] n h each zero = h
counting_width live (w ∷ ws) [] n h each (suc i) = counting_width live ws [] n h each i
counting_width live (w ∷ ws) (x ∷ xs) n h each zero = pick_all (λ (v : ℕ). v < n) (live w) (each 0) h
counting_width live (w ∷ ws) (x ∷ xs) n h each (suc i) = counting_width live ws xs n h (λ j. each (suc j)) i

set_width : (xs : List ℕ) (k v n : ℕ) → ((i : ℕ) → get_or xs i 0 < n) → v < n → (i : ℕ) → get_or (set xs k v) i 0 < n
set_width xs k v n each w i =
    by_test (eqb i k)
    (λ e. ⊎_elim
    (λ (h : k < length xs). rw (eqb-true i k e, get_or-set_same xs k v 0 h) w)
    (λ (h : length xs ≤ k). rw (eqb-true i k e, past_end (set xs k v) k (omega (arith, length-set xs k v, h))) (omega (arith, w)))
    (below_or_not k (length xs)))
    (λ e. rw (get_or-set_other xs k i v 0 (eqb-false i k e)) (each i))

pub table_law : (words ids index : List ℕ) → Beside words ids index → TableLaw (table_of words ids index)
table_law words ids index b =
    record {
      beside = record {
        words = b.words;
        valid = b.valid;
        ids = counting-length 0 is_request words ids ∙ b.words;
        width = counting_width is_request words ids 4294967296 (omega arith) b.width;
        once = once_counting words ids (omega (arith, b.words, b.ids)) ∙ b.once;
        index = counting-length 0 lists_label words index ∙ b.words;
        entries = counting_width lists_label words index 18446744073709551616 (omega arith) b.entries;
      };
      counted = counting_twice 0 is_request words ids;
      indexed = counting_twice 0 lists_label words index;
    }

none_width : (m n i : ℕ) → 0 < m → get_or (replicate n 0) i 0 < m
none_width m zero i h = h
none_width m (suc n) zero h = h
none_width m (suc n) (suc i) h = none_width m n i h

pub none_law : TableLaw no_table
unfolding once_of is_request lists_label on_side counting
none_law =
    record {
      beside = record {
        words = refl;
        valid = none_valid;
        ids = refl;
        width = λ i. none_width 4294967296 word_count i (omega arith);
        once = refl;
        index = refl;
        entries = λ i. none_width 18446744073709551616 word_count i (omega arith);
      };
      counted = refl;
      indexed = refl;
    }

-- an event of the words that opens no Request
module _ (ids index : List ℕ) where
  event-keeps : (words : List ℕ) → Beside words ids index → (e : LabelEvent) → e ≢ Asked → Beside (after_event words e) ids index
  event-keeps words b e other = record {
    words = step-length words e ∙ b.words;
    valid = step_valid words e b.valid;
    ids = b.ids;
    width = b.width;
    once = once_freed (after_event words e) words ids (request-old words e other) b.once;
    index = b.index;
    entries = b.entries;
  }

  pub broken-keeps : (words : List ℕ) → Beside words ids index → Beside (swept_of words AfterBreak) ids index
  unfolding after_event
  broken-keeps words b = event-keeps words b Broken (λ z. no cc)

  -- released by an ACK
  pub acked-keeps : (ms : List (List ℕ)) (words : List ℕ) → Beside words ids index → Beside (released_labels ms words) ids index
  acked-keeps ms words b =
      released-keeps (λ (ws : List ℕ). Beside ws ids index) (λ ws v message label. event-keeps ws v (Acked message label) (λ z. no cc)) ms words b

-- an entry put at a place, or none
module _ (words ids index : List ℕ) (entry : ℕ) (w : entry < 18446744073709551616) where
  pub put_keeps : (f : Option ℕ) → Beside words ids index → Beside words ids (put_at f entry index)
  put_keeps None b = b
  put_keeps (Some i) b = record {
    words = b.words;
    valid = b.valid;
    ids = b.ids;
    width = b.width;
    once = b.once;
    index = length-set index i entry ∙ b.index;
    entries = set_width index i entry 18446744073709551616 b.entries w;
  }

-- received: a message is one event, or ends a Request
pub effect_keeps : (t : Table) (x : Meets) (p : Bool) (e : Option (LabelMessage × Touched)) (entry : ℕ) → entry < 18446744073709551616 → Beside t.words t.ids t.index
    → Beside (effect_labels t x p e) t.ids (put_at (effect_takes t x p e) entry t.index)
unfolding after_event
effect_keeps t x p None entry w b = event-keeps t.ids t.index t.words b (Ended x.request) (λ z. no cc)
effect_keeps t x p (Some (m, touched)) entry w b =
    put_keeps (after_event t.words (Received x m p (reached t m touched))) t.ids t.index entry w (takes_at t.words x m p touched)
    (event-keeps t.ids t.index t.words b (Received x m p (reached t m touched)) (λ z. no cc))

-- ---- accepted for sending
-- the ID of a Request has 32 bits
abbrev IdFits : Result (Kind × ℕ) SubmissionError → Type 0
IdFits j = (id : MessageId) (label : ℕ) → j ≡ Ok (Kind.Request id, label) → id.0 < 4294967296

pub id_fits : (m : List ℕ) → Bytes m → IdFits (submission_of m)
id_fits m byte id label e =
    let a = accepted m (Kind.Request id) label e in
    rw (← request-id a.message id a.kind) (read_widths m byte a.message a.reading).id

put-length : (ids : List ℕ) (c : Change) (id : MessageId) → length (ids_put ids c id) ≡ length ids
put-length ids Keep id = refl
put-length ids (Put i w) id = length-set ids i id.0
put-length ids (Move i j w) id = refl
put-length ids NoRoom id = refl

put_width : (ids : List ℕ) (c : Change) (id : MessageId) → ((i : ℕ) → get_or ids i 0 < 4294967296) → id.0 < 4294967296 → (i : ℕ) → get_or (ids_put ids c id) i 0 < 4294967296
put_width ids Keep id each w i = each i
put_width ids (Put k v) id each w i = set_width ids k id.0 4294967296 each w i
put_width ids (Move k j v) id each w i = each i
put_width ids NoRoom id each w i = each i

module _ (t : Table) (law : TableLaw t) (entry : ℕ) (fits : entry < 18446744073709551616) where
  b : Beside t.words t.ids t.index
  b = law.beside

  each : (e : LabelEvent) → e ≢ Asked → Beside (after_event t.words e) t.ids t.index
  each e other = event-keeps t.ids t.index t.words b e other

  -- a Request takes the first free word, and its ID stands beside it
  asked_beside : (id : MessageId) → id.0 < 4294967296
      → Beside (accepted_by t.words (asked_plan t.words t.ids id)).1 (ids_put t.ids (plan_change (asked_plan t.words t.ids id)) id) t.index
  unfolding asked_plan
  asked_beside id w = by (open_at id t.words t.ids) refl
    where
      by : (f : Option ℕ) → open_at id t.words t.ids ≡ f
          → Beside (accepted_by t.words (asked_plan t.words t.ids id)).1 (ids_put t.ids (plan_change (asked_plan t.words t.ids id)) id) t.index
      by (Some i) e = rw e b
      by None e =
          let c : Change = asked_change t.words in
          let is = asked-event t.words t.ids id e in
          rw (is.0, is.1)
          (record {
            words = step-length t.words Asked ∙ b.words;
            valid = step_valid t.words Asked b.valid;
            ids = put-length t.ids c id ∙ b.ids;
            width = put_width t.ids c id b.width w;
            once = asked_once t.words t.ids id b.once e;
            index = b.index;
            entries = b.entries;
          })

  kind_beside : (kind : Kind) (label : ℕ) → IdFits (Ok (kind, label)) → Beside (accepted_as t kind label).1 (ids_accepted t kind) (index_accepted t kind label entry)
  unfolding accepted_as ids_accepted index_accepted after_event
  kind_beside Kind.Mapping label w =
      put_keeps (after_event t.words (Accepted LabelMessage.Mapping label)) t.ids t.index entry fits
      (taken_at (find_of (stands_for Side.Given label) t.words) (plan_change (plan_of t.words LabelMessage.Mapping label)))
      (each (Accepted LabelMessage.Mapping label) (λ z. no cc))
  kind_beside Kind.Withdraw label w = each (Accepted LabelMessage.Withdraw label) (λ z. no cc)
  kind_beside Kind.Release label w = each (Accepted LabelMessage.Release label) (λ z. no cc)
  kind_beside Kind.Address label w = b
  kind_beside Kind.AddressWithdraw label w = b
  kind_beside Kind.ResourcesAvailable label w = b
  kind_beside (Kind.Request id) label w = asked_beside id (w id label refl)
  kind_beside (Kind.Abort id) label w = rw (aborted_event t.words t.ids id) (each (Ended (open_at id t.words t.ids)) (λ z. no cc))
  kind_beside Kind.NoResources label w = b
  kind_beside Kind.NoKind label w = b

  pub accepted_law : (j : Result (Kind × ℕ) SubmissionError) → IdFits j → TableLaw (accepted_table t j entry)
  accepted_law (Err SubmissionError.Malformed) w = table_law t.words t.ids t.index b
  accepted_law (Err SubmissionError.Refused) w = table_law t.words t.ids t.index b
  accepted_law (Ok (kind, label)) w = table_law (accepted_as t kind label).1 (ids_accepted t kind) (index_accepted t kind label entry) (kind_beside kind label w)
