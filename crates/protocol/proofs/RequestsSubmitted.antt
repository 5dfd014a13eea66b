-- A message that Submit takes and the Requests that are open: a Request opens its ID, an Abort ends the one that it names, every other message leaves all. Assumes nothing.
use Rattle.std.specs.Prelude.{Ok, Option, Some, None}
use Prim.Native.Nat.{ℕ, ◌<◌}
use mathlib.Core.Bool.{true, false}
use mathlib.Core.List.{List}
use mathlib.Core.Logic.{inl, inr, ◌≢◌}
use mathlib.Core.Path.{◌≡◌, refl, sym, ap, ◌∙◌}
use native.Mathlib.Omega.{arith}
use lib.Dec.{eqb}
use lib.ListN.{length, set, length-set}
use borrow.Author.Tests.{eqb-true, eqb-false}
use Rattle.octets.specs.Pick.{pick}
use Rattle.octets.proofs.Choice.{by_test, no}
use Rattle.octets.proofs.Pairs.{ok_pair}
use Rattle.ft_number.specs.declared.MessageId.{MessageId}
use Rattle.label_list.specs.declared.LabelMessage.{LabelMessage}
use Rattle.label_list.specs.Find.{is_found, find_of}
use Rattle.label_list.specs.Requests.{open_at}
use Rattle.label_list.specs.Word.{is_free, request_word}
use Rattle.label_list.proofs.OpenIds.{taken-request}
use Rattle.label_list.proofs.Reached.{found_in_lem}
use Rattle.label_events.specs.declared.Acceptance.{Acceptance}
use Rattle.label_events.specs.Accept.{accepted_by}
use Rattle.label_events.specs.Change.{changed, take_free}
use Rattle.label_events.specs.Requests.{asked_plan, aborted_plan, aborted_at}
use Rattle.message.specs.declared.Kind.{Kind}
use Rattle.message.specs.Submission.{submission_of}
use Rattle.label_meaning.specs.Event
use Rattle.label_meaning.specs.Event.{after_event, Ended}
use Rattle.label_meaning.proofs.Effect.{free_word}
use Rattle.label_meaning.proofs.RequestIds.{asked-event, aborted_event}
use Rattle.protocol.specs.declared.Answer.{Answer}
use Rattle.protocol.specs.declared.Phase.{Phase}
use Rattle.protocol.specs.Accepting.{accepted_as, ids_accepted}
use Rattle.protocol.specs.Calls.{submits}
use Rattle.protocol.specs.Lawful.{Lawful}
use Rattle.protocol.specs.MeaningRequests.{is_open, opens_in, asked, aborted, RequestFrom}
use Rattle.protocol.specs.State.{State, table_of, Table}
use Rattle.protocol.specs.Step.{Step}
use Rattle.protocol.specs.Submit.{submit_deed, submitted, submit_rule, submit}
use Rattle.protocol.proofs.Answered.{submit-does}
use Rattle.protocol.proofs.KeepingLabels.{Beside}
use Rattle.protocol.proofs.KeepingStates.{table_lawful}
use Rattle.protocol.proofs.OpenRequests.{opens_of, kept_by_lem, same_words, masked_open, ended_same, ended-other}
use Rattle.protocol.proofs.Passing.{done-passes}
use Rattle.protocol.proofs.Requests.{other-asked, is_found_lem, id_same}
use Rattle.protocol.proofs.SubmitCases.{done_last}

module _ (s : State) (ph : Phase) (law : Lawful s) (id : MessageId) where
  -- ---- Submit
  abbrev Left : Kind → ℕ → Type 0
  Left kind label = opens_of (accepted_as s.table kind label).1 (ids_accepted s.table kind) id ≡ is_open s id

  accepted_is : (message : LabelMessage) (label : ℕ) → opens_of (after_event s.table.words (Event.Accepted message label)) s.table.ids id ≡ is_open s id
  accepted_is message label = kept_by_lem s law id s.table.words (Event.Accepted message label) law.words (λ z. no cc) (λ i at r. no cc)

  -- every kind but a Request and an Abort of that ID leaves it; of these two see below
  kind_is : (kind : Kind) (label : ℕ) → ((q : MessageId) → kind ≡ Kind.Request q → Left (Kind.Request q) label) → ((q : MessageId) → kind ≡ Kind.Abort q → Left (Kind.Abort q) label)
      → Left kind label
  unfolding accepted_as ids_accepted after_event
  kind_is Kind.Mapping label r a = accepted_is LabelMessage.Mapping label
  kind_is Kind.Withdraw label r a = accepted_is LabelMessage.Withdraw label
  kind_is Kind.Release label r a = accepted_is LabelMessage.Release label
  kind_is Kind.Address label r a = (same_words s law id)
  kind_is Kind.AddressWithdraw label r a = (same_words s law id)
  kind_is Kind.ResourcesAvailable label r a = (same_words s law id)
  kind_is (Kind.Request q) label r a = r q refl
  kind_is (Kind.Abort q) label r a = a q refl
  kind_is Kind.NoResources label r a = (same_words s law id)
  kind_is Kind.NoKind label r a = (same_words s law id)

  -- what Done tells of a Request: its ID was not open, and a word was free
  asked-done : (q : MessageId) (label : ℕ) → (accepted_as s.table (Kind.Request q) label).0 ≡ Acceptance.Taken
      → (open_at q s.table.words s.table.ids ≡ None) × ((i : ℕ) × (find_of is_free s.table.words ≡ Some i))
  unfolding accepted_as asked_plan
  asked-done q label e = by (open_at q s.table.words s.table.ids) refl (find_of is_free s.table.words) refl e
    where
      by : (f : Option ℕ) → open_at q s.table.words s.table.ids ≡ f → (g : Option ℕ) → find_of is_free s.table.words ≡ g
          → (accepted_by s.table.words (pick (is_found f) None (Some (take_free g request_word)))).0 ≡ Acceptance.Taken
          → (open_at q s.table.words s.table.ids ≡ None) × ((i : ℕ) × (find_of is_free s.table.words ≡ Some i))
      by (Some i) o g p z = no cc
      by None o (Some i) p z = (o, (i, p))
      by None o None p z = no cc

  module _ (q : MessageId) (label : ℕ) (taken : (accepted_as s.table (Kind.Request q) label).0 ≡ Acceptance.Taken) where
    abbrev asked_table : Table
    asked_table = table_of (accepted_as s.table (Kind.Request q) label).1 (ids_accepted s.table (Kind.Request q)) s.table.index

    -- the words and the IDs then
    asked_is : (i : ℕ) → find_of is_free s.table.words ≡ Some i → opens_in asked_table id ≡ is_found (open_at id (set s.table.words i request_word) (set s.table.ids i q.0))
    unfolding accepted_as ids_accepted after_event changed
    asked_is i free =
        let is = asked-event s.table.words s.table.ids q (asked-done q label taken).0 in
        rw (is.0, is.1, free)
        (masked_open id (set s.table.words i request_word) (set s.table.ids i q.0) (length-set s.table.words i request_word ∙ law.words)
        (length-set s.table.ids i q.0 ∙ law.ids))

    request-other : q.0 ≢ id.0 → Left (Kind.Request q) label
    request-other apart =
        let d = (asked-done q label taken).1 in
        asked_is d.0 d.1 ∙ other-asked s.table.words s.table.ids d.0 (free_word s.table.words d.0 (sym d.1) refl) q id apart

    request_same : q.0 ≡ id.0 → opens_in asked_table id ≡ true
    request_same same =
        let d = (asked-done q label taken).1 in
        let words = s.table.words in
        let ids = s.table.ids in
        let inside : d.0 < length words = found_in_lem is_free words (sym d.1) in
        let r = taken-request words ids d.0 q inside (omega (arith, law.words, law.ids, inside)) in
        asked_is d.0 d.1
        ∙ is_found_lem id (set words d.0 request_word) (set ids d.0 q.0) d.0 (record { request = r.request; inside = r.inside; same = r.same ∙ same })

  -- ---- an Abort
  aborted_done : (q : MessageId) (label : ℕ) → (accepted_as s.table (Kind.Abort q) label).0 ≡ Acceptance.Taken
      → (i : ℕ) × (open_at q s.table.words s.table.ids ≡ Some i)
  unfolding accepted_as aborted_plan
  aborted_done q label e = by (open_at q s.table.words s.table.ids) refl e
    where
      by : (f : Option ℕ) → open_at q s.table.words s.table.ids ≡ f → (accepted_by s.table.words (aborted_at f)).0 ≡ Acceptance.Taken
          → (i : ℕ) × (open_at q s.table.words s.table.ids ≡ Some i)
      by (Some i) o z = (i, o)
      by None o z = no cc

  -- ---- Submit
  module _ (m : List ℕ) where
    abbrev deed : Step
    deed = submit_deed s ph m

    left_is : (kind : Kind) (label : ℕ) → submission_of m ≡ Ok (kind, label)
        → is_open (submitted s m) id ≡ opens_of (accepted_as s.table kind label).1 (ids_accepted s.table kind) id
    unfolding submitted
    left_is kind label e = rw e

    request_moves : (q : MessageId) (label : ℕ) → (accepted_as s.table (Kind.Request q) label).0 ≡ Acceptance.Taken
        → submission_of m ≡ Ok (Kind.Request q, label) → RequestFrom s ph id (submits m) deed
    request_moves q label t e =
        by_test (eqb q.0 id.0)
        (λ z.
        let same : q ≡ id = id_same q id (eqb-true q.0 id.0 z) in
        let before : is_open s id ≡ false = rw same at (ap is_found (asked-done q label t).0) in
        let after : is_open (submitted s m) id ≡ true = left_is (Kind.Request q) label e ∙ request_same q label t (ap (λ (x : MessageId). x.0) same) in
        inr (rw (before, after) (asked refl (rw same at e))))
        (λ z. inl (left_is (Kind.Request q) label e ∙ request-other q label t (eqb-false q.0 id.0 z)))

    abort_moves : (q : MessageId) (label : ℕ) → (accepted_as s.table (Kind.Abort q) label).0 ≡ Acceptance.Taken
        → submission_of m ≡ Ok (Kind.Abort q, label) → RequestFrom s ph id (submits m) deed
    unfolding accepted_as ids_accepted
    abort_moves q label t e =
        let words = s.table.words in
        let ids = s.table.ids in
        let o = aborted_done q label t in
        let b : Beside words ids s.table.index = (table_lawful s law).beside in
        let is : is_open (submitted s m) id ≡ opens_of (after_event words (Ended (open_at q words ids))) ids id =
        left_is (Kind.Abort q) label e ∙ rw (aborted_event words ids q) in
        by_test (eqb q.0 id.0)
        (λ z.
        let same : q ≡ id = id_same q id (eqb-true q.0 id.0 z) in
        let before : is_open s id ≡ true = rw same at (ap is_found o.1) in
        let after : is_open (submitted s m) id ≡ false =
        is ∙ ended_same s law id words b (Ended (open_at q words ids)) (λ y. no cc) q refl (ap (λ (x : MessageId). x.0) same) o.0 o.1 in
        inr (rw (before, after) (aborted refl (rw same at e))))
        (λ z. inl (is ∙ ended-other s law id words b (Ended (open_at q words ids)) (λ y. no cc) q refl (eqb-false q.0 id.0 z)))

    plain_moves : (kind : Kind) (label : ℕ) → submission_of m ≡ Ok (kind, label) → ((q : MessageId) → kind ≡ Kind.Request q → ⊥) → ((q : MessageId) → kind ≡ Kind.Abort q → ⊥)
        → RequestFrom s ph id (submits m) deed
    plain_moves kind label e r a = inl (left_is kind label e ∙ kind_is kind label (λ q z. absurd (r q z)) (λ q z. absurd (a q z)))

    kind_moves : (kind : Kind) (label : ℕ) → (accepted_as s.table kind label).0 ≡ Acceptance.Taken → submission_of m ≡ Ok (kind, label) → RequestFrom s ph id (submits m) deed
    kind_moves Kind.Mapping label t e = plain_moves Kind.Mapping label e (λ q z. no cc) (λ q z. no cc)
    kind_moves Kind.Withdraw label t e = plain_moves Kind.Withdraw label e (λ q z. no cc) (λ q z. no cc)
    kind_moves Kind.Release label t e = plain_moves Kind.Release label e (λ q z. no cc) (λ q z. no cc)
    kind_moves Kind.Address label t e = plain_moves Kind.Address label e (λ q z. no cc) (λ q z. no cc)
    kind_moves Kind.AddressWithdraw label t e = plain_moves Kind.AddressWithdraw label e (λ q z. no cc) (λ q z. no cc)
    kind_moves Kind.ResourcesAvailable label t e = plain_moves Kind.ResourcesAvailable label e (λ q z. no cc) (λ q z. no cc)
    kind_moves (Kind.Request q) label t e = request_moves q label t e
    kind_moves (Kind.Abort q) label t e = abort_moves q label t e
    kind_moves Kind.NoResources label t e = plain_moves Kind.NoResources label e (λ q z. no cc) (λ q z. no cc)
    kind_moves Kind.NoKind label t e = plain_moves Kind.NoKind label e (λ q z. no cc) (λ q z. no cc)

    pub submitted_moves : submit_rule s ph m ≡ Answer.Done → RequestFrom s ph id (submits m) deed
    submitted_moves d = let w = (done_last s ph m d).0 in kind_moves w.kind w.label w.taken w.unbarred.accepted

  -- ---- and each of them does so
  -- a Request that is accepted is open,
  pub asked_opens : (m : List ℕ) (label : ℕ) → (submit s ph m).answer ≡ Answer.Done → submission_of m ≡ Ok (Kind.Request id, label) → is_open (submit s ph m).state id ≡ true
  asked_opens m label d e =
      let w = (done-passes s ph m d).0 in
      let kind : w.storable.kind ≡ Kind.Request id = (ok_pair (sym w.storable.accepted ∙ e)).0 in
      let t : (accepted_as s.table (Kind.Request id) w.storable.label).0 ≡ Acceptance.Taken = rw kind at w.allowed in
      rw (submit-does s ph m d) (left_is m (Kind.Request id) w.storable.label (rw kind at w.storable.accepted) ∙ request_same id w.storable.label t refl)

  -- one whose Abort is accepted is open no more,
  pub abort_ends : (m : List ℕ) (label : ℕ) → (submit s ph m).answer ≡ Answer.Done → submission_of m ≡ Ok (Kind.Abort id, label) → is_open (submit s ph m).state id ≡ false
  unfolding accepted_as ids_accepted
  abort_ends m label d e =
      let words = s.table.words in
      let ids = s.table.ids in
      let w = (done-passes s ph m d).0 in
      let kind : w.storable.kind ≡ Kind.Abort id = (ok_pair (sym w.storable.accepted ∙ e)).0 in
      let t : (accepted_as s.table (Kind.Abort id) w.storable.label).0 ≡ Acceptance.Taken = rw kind at w.allowed in
      let o = aborted_done id w.storable.label t in
      rw (submit-does s ph m d)
      (left_is m (Kind.Abort id) w.storable.label (rw kind at w.storable.accepted)
      ∙ rw (aborted_event words ids id) (ended_same s law id words (table_lawful s law).beside (Ended (open_at id words ids)) (λ y. no cc) id refl refl o.0 o.1))
