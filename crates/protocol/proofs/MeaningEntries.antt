-- The index of prefixes over all calls: a listed label has the entry that it had, or that of the Mapping which took its word. Assumes nothing.
use Rattle.std.specs.Prelude.{Result, Ok, Err, Option, Some, None}
use Prim.Native.Nat.{ℕ, ◌≤◌}
use mathlib.Core.Bool.{Bool, true, false}
use mathlib.Core.List.{List, [], ◌∷◌}
use mathlib.Core.Logic.{◌≢◌, ◌⊎◌, ⊎_elim, inl, inr}
use mathlib.Core.Path.{◌≡◌, refl, sym, ap, ◌∙◌}
use native.Mathlib.Omega.{arith}
use lib.Dec.{eqb, ltb}
use lib.ListN.{length, get_or, take}
use borrow.Author.Tests.{eqb-true, not-false}
use Rattle.octets.proofs.Choice.{by_test, no, pick_all}
use Rattle.octets.proofs.Pairs.{ok_pair}
use Rattle.label_list.specs.declared.LabelMessage.{LabelMessage}
use Rattle.label_list.specs.declared.Side.{Side}
use Rattle.label_list.specs.Beside.{entry_at, entry_on}
use Rattle.label_list.specs.Counting.{counting}
use Rattle.label_list.specs.Find.{find_of}
use Rattle.label_list.specs.Requests.{open_at}
use Rattle.label_list.specs.Rules.{received_side}
use Rattle.label_list.specs.Word.{listable, is_request, lists_label, on_side, stands_for}
use Rattle.label_list.proofs.Counting.{counting-length}
use Rattle.label_list.proofs.Spare.{spare_free}
use Rattle.tlv.specs.Element.{entry_by}
use Rattle.label_events.specs.declared.Acceptance.{Acceptance}
use Rattle.label_events.specs.declared.Meets.{Meets}
use Rattle.label_events.specs.declared.Reception.{Reception}
use Rattle.label_events.specs.declared.Touched.{Touched}
use Rattle.label_events.specs.Ack.{acked_of}
use Rattle.label_events.specs.Change.{code_in, code_at, put_at}
use Rattle.label_events.specs.Reach.{Reach, Label}
use Rattle.label_events.specs.Receive.{received_place, takes_at}
use Rattle.label_events.specs.Requests.{asked_plan}
use Rattle.message.specs.declared.Kind.{Kind}
use Rattle.message.specs.declared.Message.{Message}
use Rattle.message.specs.declared.MessageType.{MessageType}
use Rattle.message.specs.declared.SubmissionError.{SubmissionError}
use Rattle.message.specs.Reading.{reading_of}
use Rattle.message.specs.Storable.{kind_in, label_in}
use Rattle.message.specs.Submission.{submission_of, entry_in}
use Rattle.label_meaning.specs.Entries as after
use Rattle.label_meaning.specs.Entries.{TakesWord, ours, its_request, spare_word, EntryAfter, set_by}
use Rattle.label_meaning.specs.Event.{LabelEvent, Accepted, Acked, Received, Asked, Ended, Broken, after_event}
use Rattle.label_meaning.specs.Keep.{taken_by, StandsOld}
use Rattle.label_meaning.specs.Valid.{IsValid}
use Rattle.label_meaning.proofs.Entries.{entry_counted}
use Rattle.label_meaning.proofs.Listed.{same_old, then_old, event-old}
use Rattle.label_meaning.proofs.Meaning.{valid_means}
use Rattle.label_meaning.proofs.RequestIds.{aborted_event, asked-event}
use Rattle.label_meaning.proofs.Requests.{request-old}
use Rattle.label_meaning.proofs.Sets.{received_sets, accepted_sets}
use Rattle.label_meaning.proofs.Step.{step_is_valid}
use Rattle.label_meaning.proofs.Taken.{event-entry, quiet_entry}
use Rattle.protocol.specs.declared.Answer.{Answer}
use Rattle.protocol.specs.declared.Phase.{Phase}
use Rattle.protocol.specs.declared.Start.{Start}
use Rattle.protocol.specs.Accepting.{changes_entry, accepted_as, ids_accepted, index_accepted}
use Rattle.protocol.specs.Acked.{acked, released_kind, released_labels}
use Rattle.protocol.specs.Calls.{Call, formats, restores, fails, opens, greets, passes, submits, sends, keeps-alive, receives, step}
use Rattle.protocol.specs.Cases.{Takes, table_after}
use Rattle.protocol.specs.Init.{fresh, init_deed, init_start, resumed}
use Rattle.protocol.specs.Judged.{done}
use Rattle.protocol.specs.Labels.{effect_place, effect_reception, touched_by, effect_takes, is_protected, label_effect, meets, reached}
use Rattle.protocol.specs.Lawful.{Lawful}
use Rattle.protocol.specs.MeaningEntries.{label_entry, Unlisted, was_free, was_request, EntryFrom, stays, by_ours, by_peers}
use Rattle.protocol.specs.MeaningLabels.{LabelType, of_mapping}
use Rattle.protocol.specs.MeaningLife.{effect_event}
use Rattle.protocol.specs.Phases.{issued_count, is_up_ft}
use Rattle.protocol.specs.Receive.{ack_count, ack_on, message_takes, received_state, taken, taken_as, taken_in_ft}
use Rattle.protocol.specs.Send.{numbered, place_sent, sent_state}
use Rattle.protocol.specs.State.{State, Table, no_table, table_of}
use Rattle.protocol.specs.Step.{Step, unchanged}
use Rattle.protocol.specs.Submit.{submit_rule, submit_deed, submitted}
use Rattle.protocol.specs.TimePassed.{expired}
use Rattle.protocol.proofs.KeepingStates.{table_lawful}
use Rattle.protocol.proofs.MeaningLabels.{type_of_lem, named_in}
use Rattle.protocol.proofs.MeaningLife.{effect_event_lem, request_open}
use Rattle.protocol.proofs.Settles.{ends}
use Rattle.protocol.proofs.SubmitCases.{done_last}

-- ---- an ACK moves no label, and leaves the Requests
acked_then : (ls : List ℕ) → IsValid ls → (e : LabelEvent) → taken_by ls e ≡ None → (last : List ℕ)
    → (IsValid (after_event ls e) → IsValid last × StandsOld (after_event ls e) last None) → IsValid last × StandsOld ls last None
acked_then ls v e none last rest =
    let r = rest (step_is_valid ls v e) in
    (r.0, then_old ls (after_event ls e) last None (rw none at (event-old ls e)) r.1)

released-old : (ms : List (List ℕ)) (ls : List ℕ) → IsValid ls → IsValid (released_labels ms ls) × StandsOld ls (released_labels ms ls) None
unfolding released_labels released_kind after_event
released-old [] ls v = (v, same_old ls None)
released-old (m ∷ ms) ls v =
    let kind = kind_in (submission_of m) in
    let label = label_in (submission_of m) in
    by_test
    (eqb kind 2)
    (λ t. rw t (acked_then ls v (Acked LabelMessage.Withdraw label) refl _ (released-old ms (acked_of ls LabelMessage.Withdraw label))))
    (λ f. by_test
    (eqb kind 3)
    (λ t. rw (f, t) (acked_then ls v (Acked LabelMessage.Release label) refl _ (released-old ms (acked_of ls LabelMessage.Release label))))
    (λ g. rw (f, g) (released-old ms ls v)))

released-request : (ms : List (List ℕ)) (ls : List ℕ) (i : ℕ) → is_request (get_or (released_labels ms ls) i 0) ≡ true → is_request (get_or ls i 0) ≡ true
unfolding released_labels released_kind after_event
released-request [] ls i = λ r. r
released-request (m ∷ ms) ls i =
    let kind = kind_in (submission_of m) in
    let label = label_in (submission_of m) in
    by_test
    (eqb kind 2)
    (λ t. rw t (λ r. request-old ls (Acked LabelMessage.Withdraw label) (λ z. no cc) i (released-request ms (acked_of ls LabelMessage.Withdraw label) i r)))
    (λ f. by_test
    (eqb kind 3)
    (λ t. rw (f, t) (λ r. request-old ls (Acked LabelMessage.Release label) (λ z. no cc) i (released-request ms (acked_of ls LabelMessage.Release label) i r)))
    (λ g. rw (f, g) (released-request ms ls i)))

-- ---- the word that is taken, taken apart
ours_word : {words : List ℕ} {j k : ℕ} {side : Side} {l : ℕ} → TakesWord words j (Accepted LabelMessage.Mapping k) side l
    → (side ≡ Side.Given) × (l ≡ k) × (get_or words j 0 ≡ 0)
ours_word (ours free) = (refl, refl, free)

-- of a message of the peer's
pub record PeersWord (words : List ℕ) (j : ℕ) (x : Meets) (m : LabelMessage) (r : Reach) (side : Side) (l : ℕ) : Type 0 where
  pub mapping : m ≡ LabelMessage.Mapping
  pub names : r ≡ Label l
  pub used : side ≡ Side.Used
  pub word : ((x.request ≡ Some j) × (is_request (get_or words j 0) ≡ true)) ⊎ ((x.spare ≡ Some j) × (get_or words j 0 ≡ 0))

peers_word : {words : List ℕ} {j : ℕ} {x : Meets} {m : LabelMessage} {p : Bool} {r : Reach} {side : Side} {l : ℕ} → TakesWord words j (Received x m p r) side l
    → PeersWord words j x m r side l
peers_word (its_request at request) = record { mapping = refl; names = refl; used = refl; word = inl (at, request) }
peers_word (spare_word at free) = record { mapping = refl; names = refl; used = refl; word = inr (at, free) }

not-ended : {words : List ℕ} {j : ℕ} {e : LabelEvent} {side : Side} {l : ℕ} (r : Option ℕ) → TakesWord words j e side l → e ≡ Ended r → ⊥
not-ended r (ours free) z = no cc
not-ended r (its_request at request) z = no cc
not-ended r (spare_word at free) z = no cc

-- a message that reaches one label names it
reach_named : (t : Table) (m : LabelMessage) (touched : Touched) (l : ℕ) → reached t m touched ≡ Label l → touched ≡ Touched.Label l
reach_named t m (Touched.Label k) l e = let same : k ≡ l = cc in ap Touched.Label same
reach_named t m Touched.Every l e = no cc
reach_named t m (Touched.Prefix entry) l e = no cc
reach_named t m Touched.Nothing l e = no cc

mapping_type_lem : (x : MessageType) → LabelType x LabelMessage.Mapping → x ≡ MessageType.Mapping
mapping_type_lem MessageType.Mapping of_mapping = refl
mapping_type_lem x none = elim none [ ]

-- the place is that of the rules
reached-takes : (t : Table) (x : Meets) (p : Bool) (m : LabelMessage) (touched : Touched) → taken_by t.words (Received x m p (reached t m touched)) ≡ takes_at t.words x m p touched
reached-takes t x p m (Touched.Label l) = refl
reached-takes t x p m Touched.Every = refl
reached-takes t x p m (Touched.Prefix entry) = refl
reached-takes t x p m Touched.Nothing = refl

-- no label is listed where nothing is
none_coded : (side : Side) (l : ℕ) → code_at no_table.words side l ≡ 0
unfolding code_in find_of stands_for on_side
none_coded Side.Given l = refl
none_coded Side.Used l = refl

module _ (s : State) (ph : Phase) (law : Lawful s) where
  abbrev words : List ℕ
  words = s.table.words

  abbrev index : List ℕ
  index = s.table.index

  v : IsValid words
  v = valid_means words law.labels

  long : length words ≤ length index
  long = let b = (table_lawful s law).beside in omega (arith, b.words, b.index)

  abbrev From : Call → Step → Type 0
  From c x = (side : Side) (l : ℕ) → code_at x.state.table.words side l ≢ 0 → EntryFrom s ph side l c x

  same : (c : Call) (x : Step) → x.state.table ≡ s.table → From c x
  same c x e side l listed =
      stays {x = x} (rw e at listed) (ap (λ (t : Table). entry_on t.words t.index side l) e)

  forgotten : (c : Call) (x : Step) → x.state.table ≡ no_table → From c x
  forgotten c x e side l listed = absurd (listed (ap (λ (t : Table). code_at t.words side l) e ∙ none_coded side l))

  -- labels leave, and none takes a word
  leaving : (c : Call) (x : Step) (left : List ℕ) → x.state.table.words ≡ left → x.state.table.index ≡ counting 0 lists_label left index
      → IsValid left → StandsOld words left None → From c x
  leaving c x left e f va old side l listed =
      let kept = quiet_entry words left index v va old side l (rw e at listed) in
      stays {x = x} kept.0 (rw (e, f) kept.1)

  -- one event that takes no word
  by_event : (c : Call) (x : Step) (e : LabelEvent) → taken_by words e ≡ None → x.state.table.words ≡ after_event words e
      → x.state.table.index ≡ counting 0 lists_label (after_event words e) index → From c x
  by_event c x e none same listed = leaving c x (after_event words e) same listed (step_is_valid words v e) (rw none at (event-old words e))

  breaks : (c : Call) (x : Step) → x.state.table ≡ table_of (after_event words Broken) s.table.ids index → From c x
  breaks c x e = by_event c x Broken refl (ap (λ (t : Table). t.words) e) (ap (λ (t : Table). t.index) e)

  -- ---- Submit
  module _ (m : List ℕ) (label : ℕ) where
    mapping_from : submission_of m ≡ Ok (Kind.Mapping, label) → From (submits m) (submit_deed s ph m)
    unfolding submitted accepted_as ids_accepted index_accepted after_event
    mapping_from e side l listed =
        let event : LabelEvent = Accepted LabelMessage.Mapping label in
        let here : EntryAfter words index (entry_in m) event side l (entry_on (after_event words event) (put_at (taken_by words event) (entry_in m) index) side l) =
        event-entry words index v long (entry_in m) event side l (rw e at listed) in
        let counts = entry_counted (after_event words event) (put_at (taken_by words event) (entry_in m) index) side l in
        by here (rw e counts)
      where
        by : {n : ℕ} → EntryAfter words index (entry_in m) (Accepted LabelMessage.Mapping label) side l n → label_entry (submitted s m) side l ≡ n
            → EntryFrom s ph side l (submits m) (submit_deed s ph m)
        by (after.stays was kept) is = stays {x = submit_deed s ph m} was (is ∙ kept)
        by (set_by j word set) is =
            let w = ours_word word in
            by_ours {m = m} {x = submit_deed s ph m} j w.0 (e ∙ ap (λ (k : ℕ). Ok (Kind.Mapping, k)) (sym w.1)) w.2 (is ∙ set)

    -- A Mapping that is accepted leaves its label with the entry of its FEC: it takes a word, or has that entry already.
    pub accepted_sets_entry : submission_of m ≡ Ok (Kind.Mapping, label) → submit_rule s ph m ≡ Answer.Done
        → label_entry (submitted s m) Side.Given label ≡ entry_in m
    unfolding submitted accepted_as ids_accepted index_accepted after_event
    accepted_sets_entry e done =
        let last = (done_last s ph m done).0 in
        let accepted = ok_pair (sym last.unbarred.accepted ∙ e) in
        let kind : last.kind ≡ Kind.Mapping = accepted.0 in
        let named : last.label ≡ label = accepted.1 in
        let event : LabelEvent = Accepted LabelMessage.Mapping label in
        let taken : (accepted_as s.table Kind.Mapping label).0 ≡ Acceptance.Taken = rw (kind, named) at last.taken in
        let keeps : changes_entry s.table Kind.Mapping label (entry_in m) ≡ false = rw (kind, named) at last.unbarred.same in
        rw e
        (entry_counted (after_event words event) (put_at (taken_by words event) (entry_in m) index) Side.Given label
        ∙ accepted_sets words index v long (entry_in m) label
        (λ found. eqb-true (entry_on words index Side.Given label) (entry_in m) (not-false _ (rw found at keeps)))
        taken)

    abbrev From-kind : Kind → Type 0
    From-kind kind = submission_of m ≡ Ok (kind, label) → From (submits m) (submit_deed s ph m)

    kind_from : (kind : Kind) → From-kind kind
    unfolding submitted accepted_as ids_accepted index_accepted after_event asked_plan
    kind_from Kind.Mapping e = mapping_from e
    kind_from Kind.Withdraw e = by_event (submits m) (submit_deed s ph m) (Accepted LabelMessage.Withdraw label) refl (rw e) (rw e)
    kind_from Kind.Release e = by_event (submits m) (submit_deed s ph m) (Accepted LabelMessage.Release label) refl (rw e) (rw e)
    kind_from Kind.Address e = leaving (submits m) (submit_deed s ph m) words (rw e) (rw e) v (same_old words None)
    kind_from Kind.AddressWithdraw e = leaving (submits m) (submit_deed s ph m) words (rw e) (rw e) v (same_old words None)
    kind_from Kind.ResourcesAvailable e = leaving (submits m) (submit_deed s ph m) words (rw e) (rw e) v (same_old words None)
    kind_from (Kind.Request id) e = by (open_at id words s.table.ids) refl
      where
        by : (f : Option ℕ) → open_at id words s.table.ids ≡ f → From (submits m) (submit_deed s ph m)
        by (Some i) o =
            let is = request_open s.table id label i o in
            leaving (submits m) (submit_deed s ph m) words (rw e is) (rw e (ap (λ (ws : List ℕ). counting 0 lists_label ws index) is)) v (same_old words None)
        by None o =
            let is = (asked-event words s.table.ids id o).0 in
            by_event (submits m) (submit_deed s ph m) Asked refl (rw e is) (rw e (ap (λ (ws : List ℕ). counting 0 lists_label ws index) is))
    kind_from (Kind.Abort id) e =
        let is = aborted_event words s.table.ids id in
        by_event (submits m) (submit_deed s ph m) (Ended (open_at id words s.table.ids)) refl (rw e is) (rw e (ap (λ (ws : List ℕ). counting 0 lists_label ws index) is))
    kind_from Kind.NoResources e = leaving (submits m) (submit_deed s ph m) words (rw e) (rw e) v (same_old words None)
    kind_from Kind.NoKind e = leaving (submits m) (submit_deed s ph m) words (rw e) (rw e) v (same_old words None)

  submit_from : (m : List ℕ) → From (submits m) (submit_deed s ph m)
  unfolding submitted
  submit_from m = by (submission_of m) refl
    where
      by : (j : Result (Kind × ℕ) SubmissionError) → submission_of m ≡ j → From (submits m) (submit_deed s ph m)
      by (Err SubmissionError.Malformed) e = leaving (submits m) (submit_deed s ph m) words (rw e) (rw e) v (same_old words None)
      by (Err SubmissionError.Refused) e = leaving (submits m) (submit_deed s ph m) words (rw e) (rw e) v (same_old words None)
      by (Ok (kind, label)) e = kind_from m label kind e

  -- ---- the peer's Init
  greet_from : (m : List ℕ) → From (greets m) (init_deed s ph m)
  unfolding fresh resumed acked
  greet_from m = by (init_start s ph m) refl
    where
      by : (st : Result Start Answer) → init_start s ph m ≡ st → From (greets m) (init_deed s ph m)
      by (Err a) e = same (greets m) (init_deed s ph m) (rw e)
      by (Ok Start.Plain) e = forgotten (greets m) (init_deed s ph m) (rw e)
      by (Ok (Start.Fresh t)) e = forgotten (greets m) (init_deed s ph m) (rw e)
      by (Ok (Start.Resumed t k a)) e =
          let acks = released-old (take k s.queue) words v in
          leaving (greets m) (init_deed s ph m) (released_labels (take k s.queue) words) (rw e) (rw e) acks.0 acks.1

  -- ---- a message received: its ACK, and then itself
  module _ (g : Message) where
    abbrev gone : List (List ℕ)
    gone = take (ack_count (ack_on s g)) s.queue

    abbrev t : Table
    t = table_after s (ack_count (ack_on s g))

    abbrev x : Meets
    x = meets words t g

    abbrev p : Bool
    p = is_protected g.protection

    abbrev entry : ℕ
    entry = entry_by g.fec

    acks : IsValid t.words × StandsOld words t.words None
    acks = released-old gone words v

    enough : length t.words ≤ length t.index
    enough = omega (arith, counting-length 0 lists_label t.words index)

    takes_is : (f : Option (LabelMessage × Touched)) → taken_by t.words (effect_event t x p f) ≡ effect_takes t x p f
    takes_is None = refl
    takes_is (Some (n, touched)) = reached-takes t x p n touched

    unlisted : (j : ℕ) → ((x.request ≡ Some j) × (is_request (get_or t.words j 0) ≡ true)) ⊎ ((x.spare ≡ Some j) × (get_or t.words j 0 ≡ 0)) → Unlisted s g j
    unlisted j =
        ⊎_elim
        (λ (r : (x.request ≡ Some j) × (is_request (get_or t.words j 0) ≡ true)). was_request r.0 (released-request gone words j r.1))
        (λ (r : (x.spare ≡ Some j) × (get_or t.words j 0 ≡ 0)). was_free (spare_free words t.words j r.0).before)

    -- the label whose word is taken is that of a Mapping
    whose : (f : Option (LabelMessage × Touched)) → label_effect g ≡ f → (j : ℕ) {side : Side} {l : ℕ} → TakesWord t.words j (effect_event t x p f) side l
        → (side ≡ Side.Used) × (g.typename ≡ MessageType.Mapping) × (g.label ≡ Some l) × Unlisted s g j
    unfolding label_effect
    whose None q j word = absurd (not-ended x.request word refl)
    whose (Some (n, touched)) q j {side} {l} word =
        let w = peers_word word in
        let k = type_of_lem g.typename (touched_by g.label g.fec) n touched q in (
          w.used,
          mapping_type_lem g.typename (rw w.mapping at k.0),
          named_in g.label g.fec l (k.1 ∙ reach_named t n touched l w.names),
          unlisted j w.word,
        )

    abbrev event : LabelEvent
    event = effect_event t x p (label_effect g)

    abbrev left : List ℕ
    left = after_event t.words event

    -- the entry in the state that the message leaves
    entry_is : (side : Side) (l : ℕ) → label_entry (received_state s g) side l ≡ entry_on left (put_at (taken_by t.words event) entry t.index) side l
    unfolding received_state taken acked
    entry_is side l =
        ap (λ (ws : List ℕ). entry_on ws (counting 0 lists_label ws (put_at (message_takes words t g) entry t.index)) side l) (effect_event_lem t x p (label_effect g))
        ∙ entry_counted left (put_at (message_takes words t g) entry t.index) side l
        ∙ ap (λ (place : Option ℕ). entry_on left (put_at place entry t.index) side l) (sym (takes_is (label_effect g)))

    -- A Mapping that is taken leaves its label with the entry of its FEC: it takes a word, moves, or has that entry already.
    module _ (l : ℕ) (mapping : g.typename ≡ MessageType.Mapping) (names : g.label ≡ Some l) (may : listable l ≡ true) where
      effect : label_effect g ≡ Some (LabelMessage.Mapping, Touched.Label l)
      unfolding label_effect
      effect = rw (mapping, names)

      same_entry : x.another ≡ false → entry_on t.words t.index Side.Used l ≡ entry
      unfolding received_place received_side
      same_entry e =
          ap (entry_at t.index) (sym (ap (effect_place t.words) effect))
          ∙ eqb-true (entry_at t.index (effect_place t.words (label_effect g))) entry (not-false _ e)

      sets_by : (f : Option (LabelMessage × Touched)) → f ≡ Some (LabelMessage.Mapping, Touched.Label l) → effect_reception t x p f ≡ Reception.Taken
          → entry_on (after_event t.words (effect_event t x p f)) (put_at (taken_by t.words (effect_event t x p f)) entry t.index) Side.Used l ≡ entry
      sets_by f q room = rw q (received_sets t.words t.index acks.0 enough entry x p l may same_entry (rw q at room))

      pub taken_sets : (resumed : Bool) → Takes s resumed g (ack_count (ack_on s g)) → label_entry (received_state s g) Side.Used l ≡ entry
      taken_sets resumed takes = entry_is Side.Used l ∙ sets_by (label_effect g) effect takes.room

    whole_from : (m : List ℕ) → reading_of m ≡ Some g → is_up_ft ph ≡ true → (y : Step) → y.state ≡ received_state s g → y.answer ≡ Answer.Done → From (receives m) y
    unfolding received_state taken acked
    whole_from m read up y same done side l listed =
        let words_are : y.state.table.words ≡ left = ap (λ (z : State). z.table.words) same ∙ effect_event_lem t x p (label_effect g) in
        by (event-entry t.words t.index acks.0 enough entry event side l (rw words_are at listed))
        (ap (λ (z : State). label_entry z side l) same ∙ entry_is side l)
      where
        by : {n : ℕ} → EntryAfter t.words t.index entry event side l n → label_entry y.state side l ≡ n → EntryFrom s ph side l (receives m) y
        by (after.stays was kept) is =
            let acked-entry = quiet_entry words t.words index v acks.0 acks.1 side l was in
            stays {x = y} acked-entry.0 (is ∙ kept ∙ acked-entry.1)
        by (set_by j word set) is =
            let w = whose (label_effect g) refl j word in
            by_peers {m = m} {x = y} {g = g} j w.0 (record { done = done; up = up; read = read }) w.1 w.2 w.3 (is ∙ set)

  take_from : (m : List ℕ) → From (receives m) (taken_as s ph (reading_of m))
  take_from m =
      by_test (is_up_ft ph)
      (λ up. rw up (by up (reading_of m) refl))
      (λ f. rw f (same (receives m) (unchanged Answer.Done s ph) refl))
    where
      by : is_up_ft ph ≡ true → (r : Option Message) → reading_of m ≡ r → From (receives m) (taken_in_ft s ph r)
      by up None q = same (receives m) (taken_in_ft s ph None) refl
      by up (Some g) q = whole_from g m q up (taken_in_ft s ph (Some g)) refl refl

  sent_table : (sent : ℕ) → (sent_state s sent).table ≡ s.table
  unfolding sent_state numbered
  sent_table sent = pick_all (λ (x : State). x.table ≡ s.table) (ltb sent (issued_count s)) refl refl

  done_from : (c : Call) → From c (done c s ph)
  unfolding done after_event
  done_from formats = forgotten formats (done formats s ph) refl
  done_from restores = breaks restores (done restores s ph) refl
  done_from fails = breaks fails (done fails s ph) refl
  done_from (opens n own proposal) = same (opens n own proposal) (done (opens n own proposal) s ph) refl
  done_from (greets m) = greet_from m
  done_from (passes elapsed) = pick_all (From (passes elapsed)) (expired s elapsed) (forgotten (passes elapsed) _ refl) (same (passes elapsed) _ refl)
  done_from (submits m) = submit_from m
  done_from (sends ask) = same (sends ask) (done (sends ask) s ph) (sent_table (place_sent s ph))
  done_from (keeps-alive n) = same (keeps-alive n) (done (keeps-alive n) s ph) refl
  done_from (receives m) = take_from m

  -- THE THEOREM: after every call, whatever it answers, a label that is listed has the entry that it had, or the call is the Mapping that took its
  -- word, which listed no label before, and the entry is that of its FEC.
  pub step_entries : (c : Call) (room : ℕ) (side : Side) (l : ℕ) → code_at (step c s ph room).state.table.words side l ≢ 0 → EntryFrom s ph side l c (step c s ph room)
  unfolding after_event
  step_entries c room =
      ends c s ph room (From c) (λ e. same c _ refl) (λ e. breaks c _ refl) (λ e. forgotten c _ refl) (λ e. done_from c)
