-- The entries of the state that a call leaves are those that blocks 66 and 67 bear under its words: only a Mapping that takes a word puts one. Assumes nothing.
use Rattle.std.specs.Prelude.{Result, Ok, Err, Option, Some, None}
use Prim.Native.Nat.{ℕ, ◌≤◌, ◌<◌}
use mathlib.Core.Bool.{Bool, true, false, true≢false}
use mathlib.Core.List.{List}
use mathlib.Core.Logic.{◌≢◌}
use mathlib.Core.Path.{◌≡◌, refl, sym, ap, ◌∙◌}
use native.Mathlib.Omega.{arith}
use lib.Dec.{eqb}
use lib.ListN.{get_or, length, length-map, length-set, take}
use lib.Seq.{ext_get_or, get_or-set_other, get_or-set_same}
use borrow.Author.Tests.{eqb-false, eqb-true}
use Rattle.octets.specs.Pick.{pick}
use Rattle.octets.proofs.Choice.{by_test, no}
use Rattle.ft_number.specs.declared.MessageId.{MessageId}
use Rattle.label_list.specs.declared.LabelMessage.{LabelMessage}
use Rattle.label_list.specs.declared.SweepRule.TheVariants.{AfterBreak}
use Rattle.label_list.specs.Counting.{counting}
use Rattle.label_list.specs.Find.{find_of, is_found}
use Rattle.label_list.specs.Requests.{open_at}
use Rattle.label_list.specs.Rules.{sent_side}
use Rattle.label_list.specs.Sweep.{swept_of, word_swept}
use Rattle.label_list.specs.Word.{is_free, lists_label, on_side, request_word}
use Rattle.label_list.proofs.Counting.{counting-length}
use Rattle.label_list.proofs.Reached.{found_in_lem}
use Rattle.tlv.specs.Element.{entry_by}
use Rattle.fec_index.proofs.Counted.{listed_at}
use Rattle.label_events.specs.declared.Change.{Change}
use Rattle.label_events.specs.declared.Meets.{Meets}
use Rattle.label_events.specs.declared.Touched.{Touched}
use Rattle.label_events.specs.Accept.{accepted_by, plan_change}
use Rattle.label_events.specs.Ack.{acked_of}
use Rattle.label_events.specs.Change.{changed, put_at, take_free}
use Rattle.label_events.specs.Receive.{received_place, takes_at}
use Rattle.label_events.specs.Requests.{asked_plan}
use Rattle.message.specs.declared.Kind.{Kind}
use Rattle.message.specs.declared.Message.{Message}
use Rattle.message.specs.declared.SubmissionError.{SubmissionError}
use Rattle.message.specs.Submission.{entry_in, submission_of}
use Rattle.label_meaning.specs.Event
use Rattle.label_meaning.specs.Event.{Acked, Ended, LabelEvent, Received, after_event}
use Rattle.label_meaning.proofs.Effect.{at-index}
use Rattle.label_meaning.proofs.Kept.{step-length}
use Rattle.label_meaning.proofs.Listed.{ListedOld, ended-listed, same_listed, then_listed}
use Rattle.label_meaning.proofs.RequestIds.{aborted_event}
use Rattle.image.specs.State.{stored_index, decode}
use Rattle.image.proofs.Changes.{none_indexed}
use Rattle.image.proofs.Entries.{index-count}
use Rattle.protocol.specs.Accepting.{accepted_as, index_accepted}
use Rattle.protocol.specs.Acked.{acked, released_labels}
use Rattle.protocol.specs.Labels.{effect_labels, is_protected, label_effect, meets, reached, effect_takes}
use Rattle.protocol.specs.Lawful.{Lawful}
use Rattle.protocol.specs.Receive.{taken, message_takes}
use Rattle.protocol.specs.State.{State, Table, no_table}
use Rattle.protocol.specs.Step.{broken}
use Rattle.protocol.specs.Submit.{accepted_index, accepted_labels, submitted}
use Rattle.protocol.proofs.Words.{released-keeps}
use Rattle.calls.specs.State.{state_of}
use Rattle.calls.specs.Storing.{Further, entry_put, same}
use Rattle.call_meaning.proofs.Putting.{index_after}
use Rattle.submit.specs.Call.{further_left, submitted_further}
use Rattle.submit.specs.Change.{accepted_change, accepted_further, id_put}
use Rattle.session.proofs.Listed.{accepted_listed, broken-listed, nothing_listed, reached-listed, received-listed, released-listed}
use Rattle.session.proofs.Taking.{given-takes_none, returned_takes_none}

at_same : (j k : ℕ) → Some j ≡ Some k → j ≡ k
at_same j k z = cc

-- ---- what counted and counts still, and what is put
module _ (ws after xs : List ℕ) (place : Option ℕ) (e : ℕ) (same-long : length after ≡ length ws) (enough : length ws ≤ length xs) (old : ListedOld ws after place) where
  kept_at : (i : ℕ) → place ≢ Some i → lists_label (get_or after i 0) ≡ true → get_or (counting 0 lists_label ws xs) i 0 ≡ get_or xs i 0
  kept_at i apart t = listed_at ws xs i ∙ rw (old i apart t)

  put-at : (i : ℕ) → i < length after → lists_label (get_or after i 0) ≡ true → get_or (put_at place e (counting 0 lists_label ws xs)) i 0 ≡ get_or (put_at place e xs) i 0
  put-at i l t = by place refl
    where
      by : (p : Option ℕ) → place ≡ p → get_or (put_at p e (counting 0 lists_label ws xs)) i 0 ≡ get_or (put_at p e xs) i 0
      by None is = kept_at i (λ z. no (let q = sym is ∙ z in cc)) t
      by (Some j) is =
          by_test (eqb i j)
          (λ y.
          let here : i ≡ j = eqb-true i j y in
          rw here
          (get_or-set_same (counting 0 lists_label ws xs) j e 0 (omega (arith, counting-length 0 lists_label ws xs))
          ∙ sym (get_or-set_same xs j e 0 (omega arith))))
          (λ n.
          let apart : i ≢ j = eqb-false i j n in
          get_or-set_other (counting 0 lists_label ws xs) j i e 0 apart
          ∙ kept_at i (λ z. apart (sym (at_same j i (sym is ∙ z)))) t
          ∙ sym (get_or-set_other xs j i e 0 apart))

  -- the entries under the words after: those that counted, and the one that is put
  pub counted_put : counting 0 lists_label after (put_at place e (counting 0 lists_label ws xs)) ≡ counting 0 lists_label after (put_at place e xs)
  counted_put =
      ext_get_or 0 (counting 0 lists_label after (put_at place e (counting 0 lists_label ws xs))) (counting 0 lists_label after (put_at place e xs))
      (counting-length 0 lists_label after (put_at place e (counting 0 lists_label ws xs)) ∙ sym (counting-length 0 lists_label after (put_at place e xs)))
      (λ i l.
      let inside : i < length after = omega (arith, counting-length 0 lists_label after (put_at place e (counting 0 lists_label ws xs))) in
      listed_at after (put_at place e (counting 0 lists_label ws xs)) i
      ∙ by_test (lists_label (get_or after i 0)) (λ t. rw t (put-at i inside t)) (λ f. rw f)
      ∙ sym (listed_at after (put_at place e xs) i))

entry-put : (im : List ℕ) (place : Option ℕ) (e : ℕ) → index_after im (entry_put place e) ≡ put_at place e (stored_index im)
entry-put im (Some j) e = refl
entry-put im None e = refl

-- an ID leaves the entries
id-index : (im : List ℕ) (c : Change) (id : MessageId) → index_after im (id_put c id) ≡ stored_index im
id-index im Change.Keep id = refl
id-index im (Change.Put place word) id = refl
id-index im (Change.Move from place word) id = refl
id-index im Change.NoRoom id = refl

module _ (im : List ℕ) (law : Lawful (state_of im)) where
  abbrev words : List ℕ
  words = (state_of im).table.words

  abbrev stored : List ℕ
  stored = stored_index im

  enough : length words ≤ length stored
  enough = omega (arith, law.words, index-count im)

  -- what blocks 66 and 67 bear under the words of t, where that becomes of them, is its index
  abbrev pub Indexed : Further → State → Type 0
  Indexed f t = counting 0 lists_label t.table.words (index_after im f) ≡ t.table.index

  -- ---- nothing is listed
  pub none_indexed_left : (t : State) → t.table ≡ no_table → Indexed same t
  none_indexed_left t e = rw e (none_indexed stored)

  -- ---- words that list no label more
  fewer_indexed : (after : List ℕ) → length after ≡ length words → ListedOld words after None → counting 0 lists_label after stored ≡ counting 0 lists_label after (state_of im).table.index
  unfolding decode
  fewer_indexed after n old = sym (counted_put words after stored None 0 n enough old)

  pub broken_indexed : Indexed same (broken (state_of im))
  broken_indexed = fewer_indexed (swept_of words AfterBreak) (length-map words (word_swept AfterBreak)) (broken-listed words)

  -- ---- an ACK, and then a message
  module _ (k a : ℕ) where
    abbrev left : List ℕ
    left = released_labels (take k (state_of im).queue) words

    acked-old : (length left ≡ length words) × ListedOld words left None
    unfolding after_event
    acked-old =
        released-keeps (λ (ws : List ℕ). (length ws ≡ length words) × ListedOld words ws None)
        (λ ws p message label. (step-length ws (Acked message label) ∙ p.0, then_listed words ws (acked_of ws message label) None p.1 (released-listed ws message label)))
        (take k (state_of im).queue) words (refl, same_listed words None)

    pub acked_indexed : Indexed same (acked (state_of im) k a)
    unfolding acked
    acked_indexed = fewer_indexed left acked-old.0 acked-old.1

    abbrev t : Table
    t = (acked (state_of im) k a).table

    touched-old : (x : Meets) (m : LabelMessage) (p : Bool) (touched : Touched) → ListedOld t.words (effect_labels t x p (Some (m, touched))) (takes_at t.words x m p touched)
    unfolding received_place
    touched-old x m p (Touched.Label l) = received-listed t.words x m p l
    touched-old x m p Touched.Every = reached-listed t.words x m p (λ k. true)
    touched-old x m p (Touched.Prefix e) = reached-listed t.words x m p _
    touched-old x m p Touched.Nothing = nothing_listed t.words x m p

    effect_old : (x : Meets) (p : Bool) (e : Option (LabelMessage × Touched)) → ListedOld t.words (effect_labels t x p e) (effect_takes t x p e)
    effect_old x p None = ended-listed t.words x.request
    effect_old x p (Some (m, touched)) = touched-old x m p touched

    effect_long : (x : Meets) (p : Bool) (e : Option (LabelMessage × Touched)) → length (effect_labels t x p e) ≡ length t.words
    unfolding after_event
    effect_long x p None = step-length t.words (Ended x.request)
    effect_long x p (Some (m, touched)) = step-length t.words (Received x m p (reached t m touched))

    pub taken_indexed : (g : Message) → Indexed (entry_put (message_takes words t g) (entry_by g.fec)) (taken words (acked (state_of im) k a) g)
    unfolding acked taken decode
    taken_indexed g =
        let x : Meets = meets words t g in
        let p : Bool = is_protected g.protection in
        let e : (Option (LabelMessage × Touched)) = label_effect g in
        let ws : List ℕ = effect_labels t x p e in
        let place : (Option ℕ) = effect_takes t x p e in
        let entry : ℕ = entry_by g.fec in
        let now-left : t.index ≡ counting 0 lists_label left stored = counted_put words left stored None 0 acked-old.0 enough acked-old.1 in
        rw (entry-put im place entry)
        (sym (counted_put left ws stored place entry (effect_long x p e) (omega (arith, acked-old.0, enough)) (effect_old x p e))
        ∙ ap (λ (xs : List ℕ). counting 0 lists_label ws (put_at place entry xs)) (sym now-left))

  -- ---- Submit
  abbrev Left : Kind → ℕ → ℕ → Type 0
  Left kind label entry = counting 0 lists_label (accepted_as (state_of im).table kind label).1 (index_after im (accepted_further (state_of im).table kind label entry))
      ≡ counting 0 lists_label (accepted_as (state_of im).table kind label).1 (index_accepted (state_of im).table kind label entry)

  event-left : (e : LabelEvent) → ListedOld words (after_event words e) None → counting 0 lists_label (after_event words e) stored ≡ counting 0 lists_label (after_event words e) (state_of im).table.index
  event-left e old = fewer_indexed (after_event words e) (step-length words e) old

  same_left : counting 0 lists_label words stored ≡ counting 0 lists_label words (state_of im).table.index
  same_left = fewer_indexed words refl (same_listed words None)

  -- a Mapping that takes a word puts its entry
  mapped_left : (label entry : ℕ) → Left Kind.Mapping label entry
  unfolding accepted_as index_accepted accepted_further accepted_change after_event decode sent_side
  mapped_left label entry =
      rw (entry-put im _ entry)
      (sym (counted_put words (after_event words (Event.Accepted LabelMessage.Mapping label)) stored _ entry
      (step-length words (Event.Accepted LabelMessage.Mapping label)) enough (accepted_listed words LabelMessage.Mapping label)))

  -- a Request's word lists no label
  request_lists : lists_label request_word ≡ false
  unfolding lists_label on_side
  request_lists = refl

  asked-old : (f : Option ℕ) → find_of is_free words ≡ f → ListedOld words (changed words (take_free f request_word)) None
  unfolding changed
  asked-old (Some i) e = λ j apart.
      at-index words i request_word (found_in_lem is_free words (sym e)) (λ (w : ℕ). lists_label w ≡ true → lists_label (get_or words j 0) ≡ true) j
      (λ here t. absurd (true≢false (sym t ∙ request_lists))) (λ there t. t)
  asked-old None e = same_listed words None

  asked_long : (f : Option ℕ) → length (changed words (take_free f request_word)) ≡ length words
  unfolding changed
  asked_long (Some i) = length-set words i request_word
  asked_long None = refl

  asked-left : (id : MessageId) (label entry : ℕ) → Left (Kind.Request id) label entry
  unfolding accepted_as index_accepted accepted_further accepted_change asked_plan
  asked-left id label entry = by (is_found (open_at id words (state_of im).table.ids)) (find_of is_free words) refl
    where
      by : (b : Bool) (f : Option ℕ) → find_of is_free words ≡ f
          → counting 0 lists_label (accepted_by words (pick b None (Some (take_free f request_word)))).1
          (index_after im (id_put (plan_change (pick b None (Some (take_free f request_word)))) id))
          ≡ counting 0 lists_label (accepted_by words (pick b None (Some (take_free f request_word)))).1 (state_of im).table.index
      by true f e = same_left
      by false f e = rw (id-index im (take_free f request_word) id) (fewer_indexed (changed words (take_free f request_word)) (asked_long f) (asked-old f e))

  kind_left : (kind : Kind) (label entry : ℕ) → Left kind label entry
  unfolding accepted_as index_accepted accepted_further after_event sent_side
  kind_left Kind.Mapping label entry = mapped_left label entry
  kind_left Kind.Withdraw label entry =
      event-left (Event.Accepted LabelMessage.Withdraw label) (rw (given-takes_none words label) at (accepted_listed words LabelMessage.Withdraw label))
  kind_left Kind.Release label entry =
      event-left (Event.Accepted LabelMessage.Release label) (rw (returned_takes_none words label) at (accepted_listed words LabelMessage.Release label))
  kind_left Kind.Address label entry = same_left
  kind_left Kind.AddressWithdraw label entry = same_left
  kind_left Kind.ResourcesAvailable label entry = same_left
  kind_left (Kind.Request id) label entry = asked-left id label entry
  kind_left (Kind.Abort id) label entry =
      rw (aborted_event words (state_of im).table.ids id) (event-left (Ended (open_at id words (state_of im).table.ids)) (ended-listed words (open_at id words (state_of im).table.ids)))
  kind_left Kind.NoResources label entry = same_left
  kind_left Kind.NoKind label entry = same_left

  pub submitted_indexed : (m : List ℕ) → Indexed (submitted_further (state_of im).table m) (submitted (state_of im) m)
  unfolding submitted
  submitted_indexed m = by (submission_of m)
    where
      by : (j : Result (Kind × ℕ) SubmissionError) → counting 0 lists_label (accepted_labels (state_of im).table j) (index_after im (further_left (state_of im).table j (entry_in m)))
          ≡ counting 0 lists_label (accepted_labels (state_of im).table j) (accepted_index (state_of im).table j (entry_in m))
      by (Err SubmissionError.Malformed) = same_left
      by (Err SubmissionError.Refused) = same_left
      by (Ok (kind, label)) = kind_left kind label (entry_in m)
