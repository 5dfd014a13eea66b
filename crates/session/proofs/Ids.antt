-- The IDs of the state that a call leaves are those that block 65 bears under its words: no call but the Submit of a Request opens one. Assumes nothing.
use Rattle.std.specs.Prelude.{Result, Ok, Err, Option, Some, None}
use Prim.Native.Nat.{ℕ, ◌<◌}
use mathlib.Core.Bool.{Bool, true, false}
use mathlib.Core.List.{List}
use mathlib.Core.Logic.{◌≢◌}
use mathlib.Core.Path.{◌≡◌, refl, sym, ap, ◌∙◌}
use native.Mathlib.Omega.{arith}
use lib.ListN.{take, length, length-map, set}
use Rattle.octets.specs.Pick.{pick}
use Rattle.octets.proofs.Choice.{no}
use Rattle.ft_number.specs.declared.MessageId.{MessageId}
use Rattle.label_list.specs.declared.LabelMessage.{LabelMessage}
use Rattle.label_list.specs.declared.Side.{Side}
use Rattle.label_list.specs.declared.SweepRule.TheVariants.{AfterBreak}
use Rattle.label_list.specs.Find.{any, find_of, is_found}
use Rattle.label_list.specs.Requests.{open_ids, open_at}
use Rattle.label_list.specs.Sweep.{swept_of, word_swept}
use Rattle.label_list.specs.Word.{word_count, is_request, is_free, request_word, stands_for}
use Rattle.label_list.proofs.Counting.{counting-freed, counting-taken}
use Rattle.label_list.proofs.Reached.{found_in_lem}
use Rattle.tlv.specs.Element.{entry_by}
use Rattle.block0.specs.Layout.{no_labels}
use Rattle.label_events.specs.declared.Meets.{Meets}
use Rattle.label_events.specs.declared.Touched.{Touched}
use Rattle.label_events.specs.Accept.{accepted_by, plan_change}
use Rattle.label_events.specs.Change.{changed, take_free, taken_at}
use Rattle.label_events.specs.Requests.{asked_plan, ids_put}
use Rattle.message.specs.declared.Kind.{Kind}
use Rattle.message.specs.declared.Message.{Message}
use Rattle.message.specs.declared.SubmissionError.{SubmissionError}
use Rattle.message.specs.Submission.{submission_of, entry_in}
use Rattle.label_meaning.specs.Event
use Rattle.label_meaning.specs.Event.{LabelEvent, Acked, Asked, Broken, Ended, Received, after_event}
use Rattle.label_meaning.proofs.Kept.{step-length}
use Rattle.label_meaning.proofs.RequestIds.{aborted_event}
use Rattle.label_meaning.proofs.Requests.{request-old, request_itself}
use Rattle.image.specs.State.{stored_ids}
use Rattle.image.proofs.Requests.{Fewer, ids_fewer, no_ids, ids-taken}
use Rattle.protocol.specs.Accepting.{accepted_as, ids_accepted}
use Rattle.protocol.specs.Acked.{released_labels, acked}
use Rattle.protocol.specs.Labels.{effect_labels, is_protected, label_effect, meets, reached}
use Rattle.protocol.specs.Lawful.{Lawful}
use Rattle.protocol.specs.Receive.{taken, message_takes}
use Rattle.protocol.specs.State.{State, no_table, Table}
use Rattle.protocol.specs.Step.{broken}
use Rattle.protocol.specs.Submit.{submitted, accepted_labels, accepted_table}
use Rattle.protocol.proofs.Words.{released-keeps}
use Rattle.calls.specs.State.{state_of}
use Rattle.calls.specs.Storing.{Further, entry_put, same}
use Rattle.call_meaning.proofs.Putting.{ids_after}
use Rattle.submit.specs.Call.{further_left, submitted_further}
use Rattle.submit.specs.Change.{accepted_change, accepted_further, id_put}

-- ---- no Request is new: over events, and over what an ACK releases
event_fewer : (words ws : List ℕ) (e : LabelEvent) → e ≢ Asked → Fewer ws words → Fewer (after_event ws e) words
event_fewer words ws e other f i t = f i (request-old ws e other i t)

acked_fewer : (words : List ℕ) (ms : List (List ℕ)) → Fewer (released_labels ms words) words
acked_fewer words ms = released-keeps (λ (ws : List ℕ). Fewer ws words) (λ ws f message label. event_fewer words ws (Acked message label) (λ z. no cc) f) ms words (λ i t. t)

module _ (im : List ℕ) (law : Lawful (state_of im)) where
  abbrev words : List ℕ
  words = (state_of im).table.words

  abbrev ids : List ℕ
  ids = (state_of im).table.ids

  -- what block 65 bears under the words of t, where that becomes of it, are its IDs
  abbrev pub Borne : Further → State → Type 0
  Borne f t = open_ids t.table.words (ids_after im f) ≡ t.table.ids

  -- an entry leaves the IDs
  entry-ids : (place : Option ℕ) (entry : ℕ) → ids_after im (entry_put place entry) ≡ stored_ids im
  entry-ids (Some j) entry = refl
  entry-ids None entry = refl

  -- ---- nothing is open
  pub none_borne : (t : State) → t.table ≡ no_table → Borne same t
  unfolding any
  none_borne t e = rw e (no_ids no_labels refl word_count refl (stored_ids im))

  -- ---- a connection ends
  swept_fewer : Fewer (swept_of words AfterBreak) words
  unfolding after_event
  swept_fewer = event_fewer words words Broken (λ z. no cc) (λ i t. t)

  pub broken-borne : Borne same (broken (state_of im))
  broken-borne = ids_fewer im (swept_of words AfterBreak) (length-map words (word_swept AfterBreak) ∙ law.words) swept_fewer

  -- ---- an ACK, and then a message
  module _ (k a : ℕ) where
    abbrev left : List ℕ
    left = released_labels (take k (state_of im).queue) words

    long : length left ≡ word_count
    long = released-keeps (λ (ws : List ℕ). length ws ≡ word_count) (λ ws n message label. step-length ws (Acked message label) ∙ n) (take k (state_of im).queue) words law.words

    pub acked-borne : Borne same (acked (state_of im) k a)
    unfolding acked
    acked-borne = ids_fewer im left long (acked_fewer words (take k (state_of im).queue))

    abbrev t : Table
    t = (acked (state_of im) k a).table

    effect_fewer : (x : Meets) (p : Bool) (e : Option (LabelMessage × Touched)) → Fewer (effect_labels t x p e) t.words
    unfolding after_event
    effect_fewer x p None = event_fewer t.words t.words (Ended x.request) (λ z. no cc) (λ i t. t)
    effect_fewer x p (Some (m, touched)) = event_fewer t.words t.words (Received x m p (reached t m touched)) (λ z. no cc) (λ i t. t)

    effect_long : (x : Meets) (p : Bool) (e : Option (LabelMessage × Touched)) → length (effect_labels t x p e) ≡ length t.words
    unfolding after_event
    effect_long x p None = step-length t.words (Ended x.request)
    effect_long x p (Some (m, touched)) = step-length t.words (Received x m p (reached t m touched))

    pub taken-borne : (g : Message) → Borne (entry_put (message_takes words t g) (entry_by g.fec)) (taken words (acked (state_of im) k a) g)
    unfolding acked taken
    taken-borne g =
        let x : Meets = meets words t g in
        let p : Bool = is_protected g.protection in
        let ws : List ℕ = effect_labels t x p (label_effect g) in
        let n : length ws ≡ word_count = effect_long x p (label_effect g) ∙ long in
        ap (open_ids ws) (entry-ids (message_takes words t g) (entry_by g.fec))
        ∙ ids_fewer im ws n (λ i y. acked_fewer words (take k (state_of im).queue) i (effect_fewer x p (label_effect g) i y))
        ∙ sym (counting-freed 0 is_request ws left ids (n ∙ sym long) (effect_fewer x p (label_effect g)))

  -- ---- Submit
  abbrev Left : Kind → ℕ → ℕ → Type 0
  Left kind label entry = open_ids (accepted_as (state_of im).table kind label).1 (ids_after im (accepted_further (state_of im).table kind label entry))
      ≡ open_ids (accepted_as (state_of im).table kind label).1 (ids_accepted (state_of im).table kind)

  event-left : (e : LabelEvent) → e ≢ Asked → open_ids (after_event words e) (stored_ids im) ≡ open_ids (after_event words e) ids
  event-left e other = ids_fewer im (after_event words e) (step-length words e ∙ law.words) (event_fewer words words e other (λ i t. t))

  same_left : open_ids words (stored_ids im) ≡ open_ids words ids
  same_left = ids_fewer im words law.words (λ i t. t)

  -- a Request puts its own
  asked-left : (id : MessageId) (label entry : ℕ) → Left (Kind.Request id) label entry
  unfolding accepted_as ids_accepted accepted_further accepted_change asked_plan changed
  asked-left id label entry = by (is_found (open_at id words ids)) (find_of is_free words) refl
    where
      by : (b : Bool) (f : Option ℕ) → find_of is_free words ≡ f
          → open_ids (accepted_by words (pick b None (Some (take_free f request_word)))).1
          (ids_after im (id_put (plan_change (pick b None (Some (take_free f request_word)))) id))
          ≡ open_ids (accepted_by words (pick b None (Some (take_free f request_word)))).1
          (ids_put ids (plan_change (pick b None (Some (take_free f request_word)))) id)
      by true f e = same_left
      by false (Some i) e =
          let inside : i < length words = found_in_lem is_free words (sym e) in
          ids-taken im i id (omega (arith, law.words, inside))
          ∙ sym (counting-taken 0 is_request words ids i request_word id.0 request_itself inside (omega (arith, law.words, law.ids, inside))
          ∙ ap (λ (l : List ℕ). set l i id.0) law.counted)
      by false None e = same_left

  kind_left : (kind : Kind) (label entry : ℕ) → Left kind label entry
  unfolding accepted_as ids_accepted accepted_further accepted_change after_event
  kind_left Kind.Mapping label entry =
      ap (open_ids (after_event words (Event.Accepted LabelMessage.Mapping label))) (entry-ids (taken_at (find_of (stands_for Side.Given label) words) (accepted_change (state_of im).table Kind.Mapping label)) entry) ∙ event-left (Event.Accepted LabelMessage.Mapping label) (λ z. no cc)
  kind_left Kind.Withdraw label entry = event-left (Event.Accepted LabelMessage.Withdraw label) (λ z. no cc)
  kind_left Kind.Release label entry = event-left (Event.Accepted LabelMessage.Release label) (λ z. no cc)
  kind_left Kind.Address label entry = same_left
  kind_left Kind.AddressWithdraw label entry = same_left
  kind_left Kind.ResourcesAvailable label entry = same_left
  kind_left (Kind.Request id) label entry = asked-left id label entry
  kind_left (Kind.Abort id) label entry = rw (aborted_event words ids id) (event-left (Ended (open_at id words ids)) (λ z. no cc))
  kind_left Kind.NoResources label entry = same_left
  kind_left Kind.NoKind label entry = same_left

  pub submitted-borne : (m : List ℕ) → Borne (submitted_further (state_of im).table m) (submitted (state_of im) m)
  unfolding submitted
  submitted-borne m = by (submission_of m)
    where
      by : (j : Result (Kind × ℕ) SubmissionError) → open_ids (accepted_labels (state_of im).table j) (ids_after im (further_left (state_of im).table j (entry_in m)))
          ≡ (accepted_table (state_of im).table j (entry_in m)).ids
      by (Err SubmissionError.Malformed) = same_left
      by (Err SubmissionError.Refused) = same_left
      by (Ok (kind, label)) = kind_left kind label (entry_in m)
