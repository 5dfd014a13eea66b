-- The life of a label that we gave over all calls: it ends with the state, by a Release while it is given, or by both a Release and the ACK of its Withdraw. Assumes nothing.
use Rattle.std.specs.Prelude.{Result, Ok, Err, Option, Some, None}
use Prim.Native.Nat.{ℕ}
use mathlib.Core.Bool.{Bool, false, true≢false}
use mathlib.Core.List.{List, [], ◌∷◌, ◌++◌}
use mathlib.Core.Path.{◌≡◌, refl, sym, ap, ◌∙◌}
use lib.Dec.{eqb, ltb}
use lib.ListN.{take}
use Rattle.octets.specs.Pick.{both}
use Rattle.octets.proofs.Choice.{by_test, pick_all}
use Rattle.ft_number.specs.declared.MessageId.{MessageId}
use Rattle.label_list.specs.declared.LabelMessage.{LabelMessage}
use Rattle.label_list.specs.declared.Side.{Side}
use Rattle.label_list.specs.Requests.{open_at}
use Rattle.label_list.specs.Rules.{sent_side}
use Rattle.label_events.specs.declared.Acceptance.{Acceptance}
use Rattle.label_events.specs.declared.Meets.{Meets}
use Rattle.label_events.specs.declared.Touched.{Touched}
use Rattle.label_events.specs.Change.{code_at}
use Rattle.label_events.specs.Reach.{Reach}
use Rattle.label_events.specs.Requests.{asked_plan}
use Rattle.message.specs.declared.Kind.{Kind}
use Rattle.message.specs.declared.Message.{Message}
use Rattle.message.specs.declared.SubmissionError.{SubmissionError}
use Rattle.message.specs.Reading.{reading_of}
use Rattle.message.specs.Storable.{kind_in, label_in}
use Rattle.message.specs.Submission.{submission_of, entry_in}
use Rattle.label_meaning.specs.Event.{LabelEvent, Acked, Asked, Broken, Ended, Received, after_event}
use Rattle.label_meaning.specs.Valid.{IsValid}
use Rattle.label_meaning.specs.Withdrawal.{GivenMoves, after_events, comes, offers, withdraws, withdrawn_code}
use Rattle.label_meaning.proofs.GivenMoves.{accepted_moves, heard_moves}
use Rattle.label_meaning.proofs.Meaning.{valid_means}
use Rattle.label_meaning.proofs.RequestIds.{aborted_event, asked-event}
use Rattle.label_meaning.proofs.Withdrawal.{refused}
use Rattle.protocol.specs.declared.Answer.{Answer}
use Rattle.protocol.specs.declared.Phase.{Phase}
use Rattle.protocol.specs.declared.Start.{Start}
use Rattle.protocol.specs.Accepting.{accepted_as, is_barred, changes_entry}
use Rattle.protocol.specs.Acked.{acked, released_kind, released_labels}
use Rattle.protocol.specs.Calls.{Call, formats, restores, fails, opens, greets, passes, submits, sends, keeps-alive, receives, step}
use Rattle.protocol.specs.Cases.{table_after}
use Rattle.protocol.specs.Init.{fresh, init_deed, init_start, resumed}
use Rattle.protocol.specs.Judged.{done}
use Rattle.protocol.specs.Labels.{effect_labels, is_protected, label_effect, meets, reached}
use Rattle.protocol.specs.Lawful.{Lawful}
use Rattle.protocol.specs.MeaningLabels.{sent-mapping, sent-release, sent-withdraw}
use Rattle.protocol.specs.MeaningLife
use Rattle.protocol.specs.MeaningLife.{Events, LabelsFrom, LifeFrom, ack_events, aborted, asked, broke, by_events, ends_with_state, forgotten, goes_on, effect_event, message_event, nothing, took}
use Rattle.protocol.specs.Phases.{issued_count}
use Rattle.protocol.specs.Receive.{ack_count, ack_on, received_state, taken, taken_as}
use Rattle.protocol.specs.Send.{numbered, place_sent, sent_state}
use Rattle.protocol.specs.State.{State, Table, no_table}
use Rattle.protocol.specs.Step.{Step}
use Rattle.protocol.specs.Submit.{submit_deed, submitted, submit_rule}
use Rattle.protocol.specs.SubmitCases.{Fitting, still-held, another_entry, code_forbids}
use Rattle.protocol.specs.TimePassed.{expired}
use Rattle.protocol.proofs.Settles.{ends}
use Rattle.protocol.proofs.SubmitCases.{case-submit}

-- ---- what an ACK releases is the run of its events
acked-run : (ms : List (List ℕ)) (ls : List ℕ) → released_labels ms ls ≡ after_events ls (ack_events ms)
unfolding released_labels released_kind after_event
acked-run [] ls = refl
acked-run (m ∷ ms) ls =
    let kind = kind_in (submission_of m) in
    let label = label_in (submission_of m) in
    by_test
    (eqb kind 2)
    (λ t. rw t (acked-run ms (after_event ls (Acked LabelMessage.Withdraw label))))
    (λ f. by_test (eqb kind 3) (λ t. rw (f, t) (acked-run ms (after_event ls (Acked LabelMessage.Release label)))) (λ g. rw (f, g) (acked-run ms ls)))

run-append : (ls : List ℕ) (es fs : List LabelEvent) → after_events ls (es ++ fs) ≡ after_events (after_events ls es) fs
run-append ls [] fs = refl
run-append ls (e ∷ es) fs = run-append (after_event ls e) es fs

-- a message received is one event of the list
pub effect_event_lem : (t : Table) (y : Meets) (protected : Bool) (x : Option (LabelMessage × Touched)) → effect_labels t y protected x ≡ after_event t.words (effect_event t y protected x)
unfolding after_event
effect_event_lem t y protected None = refl
effect_event_lem t y protected (Some (m, touched)) = refl

-- a Request of an ID that is open is not taken
pub request_open : (t : Table) (id : MessageId) (label i : ℕ) → open_at id t.words t.ids ≡ Some i → (accepted_as t (Kind.Request id) label).1 ≡ t.words
unfolding accepted_as asked_plan
request_open t id label i o = rw o

module _ (s : State) (ph : Phase) where
  abbrev words : List ℕ
  words = s.table.words

  eventful : (c : Call) (x : Step) {es : List LabelEvent} → Events s ph c x es → x.state.table.words ≡ after_events words es → LabelsFrom s ph c x
  eventful c x e same = by_events e same

  same : (c : Call) (x : Step) → x.state.table.words ≡ words → LabelsFrom s ph c x
  same c x e = eventful c x nothing e

  ends_broken : (c : Call) (x : Step) → x.state.table.words ≡ after_event words Broken → LabelsFrom s ph c x
  ends_broken c x e = eventful c x broke e

  forgets : (c : Call) (x : Step) → x.state.table ≡ no_table → LabelsFrom s ph c x
  forgets c x e = forgotten e

  -- ---- Submit
  module _ (m : List ℕ) (label : ℕ) where
    abbrev Kinds : Kind → Type 0
    Kinds kind = submission_of m ≡ Ok (kind, label) → LabelsFrom s ph (submits m) (submit_deed s ph m)

    kind_events : (kind : Kind) → Kinds kind
    unfolding submitted accepted_as after_event asked_plan
    kind_events Kind.Mapping e = eventful (submits m) (submit_deed s ph m) (took refl e sent-mapping) (rw e)
    kind_events Kind.Withdraw e = eventful (submits m) (submit_deed s ph m) (took refl e sent-withdraw) (rw e)
    kind_events Kind.Release e = eventful (submits m) (submit_deed s ph m) (took refl e sent-release) (rw e)
    kind_events Kind.Address e = same (submits m) (submit_deed s ph m) (rw e)
    kind_events Kind.AddressWithdraw e = same (submits m) (submit_deed s ph m) (rw e)
    kind_events Kind.ResourcesAvailable e = same (submits m) (submit_deed s ph m) (rw e)
    kind_events (Kind.Request id) e = by (open_at id words s.table.ids) refl
      where
        by : (f : Option ℕ) → open_at id words s.table.ids ≡ f → LabelsFrom s ph (submits m) (submit_deed s ph m)
        by (Some i) o = same (submits m) (submit_deed s ph m) (rw e (request_open s.table id label i o))
        by None o = eventful (submits m) (submit_deed s ph m) asked (rw e (asked-event words s.table.ids id o).0)
    kind_events (Kind.Abort id) e = eventful (submits m) (submit_deed s ph m) (aborted (open_at id words s.table.ids)) (rw e (aborted_event words s.table.ids id))
    kind_events Kind.NoResources e = same (submits m) (submit_deed s ph m) (rw e)
    kind_events Kind.NoKind e = same (submits m) (submit_deed s ph m) (rw e)

  submit_events : (m : List ℕ) → LabelsFrom s ph (submits m) (submit_deed s ph m)
  unfolding submitted
  submit_events m = by (submission_of m) refl
    where
      by : (j : Result (Kind × ℕ) SubmissionError) → submission_of m ≡ j → LabelsFrom s ph (submits m) (submit_deed s ph m)
      by (Err SubmissionError.Malformed) e = same (submits m) (submit_deed s ph m) (rw e)
      by (Err SubmissionError.Refused) e = same (submits m) (submit_deed s ph m) (rw e)
      by (Ok (kind, label)) e = kind_events m label kind e

  -- ---- the peer's Init, and a message received
  greet_events : (m : List ℕ) → LabelsFrom s ph (greets m) (init_deed s ph m)
  unfolding fresh resumed acked
  greet_events m = by (init_start s ph m) refl
    where
      by : (st : Result Start Answer) → init_start s ph m ≡ st → LabelsFrom s ph (greets m) (init_deed s ph m)
      by (Err a) e = same (greets m) (init_deed s ph m) (rw e)
      by (Ok Start.Plain) e = forgets (greets m) (init_deed s ph m) (rw e)
      by (Ok (Start.Fresh t)) e = forgets (greets m) (init_deed s ph m) (rw e)
      by (Ok (Start.Resumed t k a)) e = eventful (greets m) (init_deed s ph m) (MeaningLife.resumed k refl) (rw e (acked-run (take k s.queue) words))

  take_events : (m : List ℕ) → LabelsFrom s ph (receives m) (taken_as s ph (reading_of m))
  unfolding received_state taken acked
  take_events m = by ph refl (reading_of m) refl
    where
      by : (p : Phase) → ph ≡ p → (r : Option Message) → reading_of m ≡ r → LabelsFrom s ph (receives m) (taken_as s p r)
      by Phase.Idle e r q = same (receives m) (taken_as s Phase.Idle r) refl
      by (Phase.InitWait v) e r q = same (receives m) (taken_as s (Phase.InitWait v) r) refl
      by (Phase.UpFT u) e None q = same (receives m) (taken_as s (Phase.UpFT u) None) refl
      by (Phase.UpFT u) e (Some g) q =
          let gone = take (ack_count (ack_on s g)) s.queue in
          let t : Table = table_after s (ack_count (ack_on s g)) in
          let event = message_event words t g in
          eventful (receives m) (taken_as s (Phase.UpFT u) (Some g)) (MeaningLife.received (record { done = refl; up = rw e; read = q }))
          (effect_event_lem t (meets words t g) (is_protected g.protection) (label_effect g)
          ∙ ap (λ (l : List ℕ). after_event l event) (acked-run gone words) ∙ sym (run-append words (ack_events gone) (event ∷ [])))
      by Phase.UpPlain e r q = same (receives m) (taken_as s Phase.UpPlain r) refl
      by Phase.Failed e r q = same (receives m) (taken_as s Phase.Failed r) refl

  sent-words : (sent : ℕ) → (sent_state s sent).table.words ≡ words
  unfolding sent_state numbered
  sent-words sent = pick_all (λ (x : State). x.table.words ≡ words) (ltb sent (issued_count s)) refl refl

  done_events : (c : Call) → LabelsFrom s ph c (done c s ph)
  unfolding done after_event
  done_events formats = forgotten refl
  done_events restores = ends_broken restores (done restores s ph) refl
  done_events fails = ends_broken fails (done fails s ph) refl
  done_events (opens n own proposal) = same (opens n own proposal) (done (opens n own proposal) s ph) refl
  done_events (greets m) = greet_events m
  done_events (passes elapsed) = pick_all (LabelsFrom s ph (passes elapsed)) (expired s elapsed) (forgotten refl) (same (passes elapsed) _ refl)
  done_events (submits m) = submit_events m
  done_events (sends ask) = same (sends ask) (done (sends ask) s ph) (sent-words (place_sent s ph))
  done_events (keeps-alive n) = same (keeps-alive n) (done (keeps-alive n) s ph) refl
  done_events (receives m) = take_events m

  -- Of every call, whatever it answers: the label words are those of the state before after the events that it names, or the state is released.
  pub step_events : (c : Call) (room : ℕ) → LabelsFrom s ph c (step c s ph room)
  unfolding after_event
  step_events c room =
      ends c s ph room (LabelsFrom s ph c) (λ e. same c _ refl) (λ e. ends_broken c _ refl) (λ e. forgotten refl) (λ e. done_events c)

-- ---- no event of an ACK, and none of a message received, is of a message of ours
module _ (brings : LabelEvent → Bool) where
  comes-append : (es fs : List LabelEvent) → comes brings es ≡ false → comes brings fs ≡ false → comes brings (es ++ fs) ≡ false
  comes-append [] fs x y = y
  comes-append (e ∷ es) fs x y = by_test (brings e) (λ t. absurd (true≢false (rw t at x))) (λ f. rw f (comes-append es fs (rw f at x) y))

  quiet_acks : ((m : LabelMessage) (l : ℕ) → brings (Acked m l) ≡ false) → (ms : List (List ℕ)) → comes brings (ack_events ms) ≡ false
  quiet_acks none [] = refl
  quiet_acks none (m ∷ ms) =
      let kind = kind_in (submission_of m) in
      let label = label_in (submission_of m) in
      by_test
      (eqb kind 2)
      (λ t. rw (t, none LabelMessage.Withdraw label) (quiet_acks none ms))
      (λ f. by_test (eqb kind 3) (λ t. rw (f, t, none LabelMessage.Release label) (quiet_acks none ms)) (λ g. rw (f, g) (quiet_acks none ms)))

module _ (s : State) (ph : Phase) (law : Lawful s) (k : ℕ) where
  abbrev ls : List ℕ
  ls = s.table.words

  valid : IsValid ls
  valid = valid_means ls law.labels

  quiet : (brings : LabelEvent → Bool) → ((m : LabelMessage) (l : ℕ) → brings (Acked m l) ≡ false) → ((r : Meets) (m : LabelMessage) (p : Bool) (t : Reach) → brings (Received r m p t) ≡ false)
      → ((r : Option ℕ) → brings (Ended r) ≡ false) → (n : ℕ) (g : Message) → comes brings (ack_events (take n s.queue) ++ (message_event ls (table_after s n) g ∷ [])) ≡ false
  quiet brings acks heard ended n g = comes-append brings (ack_events (take n s.queue)) _ (quiet_acks brings acks (take n s.queue)) (by (label_effect g))
    where
      by : (x : Option (LabelMessage × Touched)) → comes brings (effect_event (table_after s n) (meets ls (table_after s n) g) (is_protected g.protection) x ∷ []) ≡ false
      by None = rw (ended (meets ls (table_after s n) g).request)
      by (Some (m, touched)) = rw (heard (meets ls (table_after s n) g) m (is_protected g.protection) (reached (table_after s n) m touched))

  life : {c : Call} {x : Step} {es : List LabelEvent} → Events s ph c x es → GivenMoves k es (code_at ls Side.Given k) (code_at (after_events ls es) Side.Given k)
  life nothing = heard_moves k [] ls valid refl refl
  life broke = heard_moves k (Broken ∷ []) ls valid refl refl
  life (took {message = message} {label} d e kind) = accepted_moves k message label ls valid
  life asked = heard_moves k (Asked ∷ []) ls valid refl refl
  life (aborted request) = heard_moves k (Ended request ∷ []) ls valid refl refl
  life (MeaningLife.resumed n d) =
      heard_moves k (ack_events (take n s.queue)) ls valid (quiet_acks (offers k) (λ m l. refl) (take n s.queue)) (quiet_acks (withdraws k) (λ m l. refl) (take n s.queue))
  life (MeaningLife.received {g = g} up) =
      let n = ack_count (ack_on s g) in
      heard_moves k (ack_events (take n s.queue) ++ (message_event ls (table_after s n) g ∷ [])) ls valid
      (quiet (offers k) (λ m l. refl) (λ r m p t. refl) (λ r. refl) n g) (quiet (withdraws k) (λ m l. refl) (λ r m p t. refl) (λ r. refl) n g)

  -- THE THEOREM: of every call, whatever it answers: a label that we gave, or did not give, moves as the call's events say, or ends with the state.
  pub step_life : (c : Call) (room : ℕ) → LifeFrom s ph k c (step c s ph room)
  step_life c room = by (step_events s ph c room)
    where
      by : {x : Step} → LabelsFrom s ph c x → LifeFrom s ph k c x
      by (forgotten e) = ends_with_state e
      by (by_events e is) = goes_on e (rw is (life e))

-- From the acceptance of its Withdraw until it is free a label is offered to nobody: a Mapping or a Withdraw of it that passes 1, 3, 4 and 5 is answered 6.
module _ (s : State) (ph : Phase) (k : ℕ) (a r : Bool) (waits : both a r ≡ false) (code : code_at s.table.words Side.Given k ≡ withdrawn_code a r) (m : List ℕ) (fits : Fitting s m) where
  forbidden : (kind : Kind) → submission_of m ≡ Ok (kind, k) → (accepted_as s.table kind k).0 ≡ Acceptance.NotAllowed → submit_rule s ph m ≡ Answer.LabelNotAllowed
  forbidden kind e n =
      by_test
      (is_barred s.queue kind k)
      (λ t. case-submit s ph m (still-held fits e t))
      (λ f. by_test
      (changes_entry s.table kind k (entry_in m))
      (λ o. case-submit s ph m (another_entry fits e f o))
      (λ o. case-submit s ph m (code_forbids (record { fitting = fits; accepted = e; free = f; same = o }) n)))

  pub not-offered : submission_of m ≡ Ok (Kind.Mapping, k) → submit_rule s ph m ≡ Answer.LabelNotAllowed
  unfolding accepted_as sent_side
  not-offered e = forbidden Kind.Mapping e (rw (refused s.table.words k a r waits code LabelMessage.Mapping refl))

  pub not_withdrawn : submission_of m ≡ Ok (Kind.Withdraw, k) → submit_rule s ph m ≡ Answer.LabelNotAllowed
  unfolding accepted_as sent_side
  not_withdrawn e = forbidden Kind.Withdraw e (rw (refused s.table.words k a r waits code LabelMessage.Withdraw refl))
