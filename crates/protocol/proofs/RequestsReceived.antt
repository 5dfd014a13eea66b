-- A message that Receive takes in UpFT and the Requests that are open: its ACK ends none, and then the message ends the one that it names. Assumes nothing.
use Rattle.std.specs.Prelude.{Option, Some, None}
use Prim.Native.Nat.{ℕ}
use mathlib.Core.Bool.{true, false}
use mathlib.Core.List.{List, []}
use mathlib.Core.Logic.{inl, inr, ◌≢◌}
use mathlib.Core.Path.{◌≡◌, refl, sym, ap, ◌∙◌}
use native.Mathlib.Omega.{arith}
use lib.Dec.{eqb}
use lib.ListN.{take}
use borrow.Author.Tests.{eqb-true, eqb-false}
use Rattle.octets.proofs.Choice.{by_test, no}
use Rattle.ft_number.specs.declared.MessageId.{MessageId}
use Rattle.label_list.specs.declared.LabelMessage.{LabelMessage}
use Rattle.label_list.specs.Find.{is_found}
use Rattle.label_list.specs.Requests.{open_at, open_ids}
use Rattle.label_list.proofs.OpenIds.{open_counting}
use Rattle.label_events.specs.declared.Meets.{Meets}
use Rattle.label_events.specs.declared.Touched.{Touched}
use Rattle.message.specs.declared.Message.{Message}
use Rattle.message.specs.Reading.{reading_of}
use Rattle.label_meaning.specs.Event.{LabelEvent, after_event, Asked}
use Rattle.label_meaning.specs.Requests.{ends_at}
use Rattle.label_meaning.proofs.RequestIds.{step-ids}
use Rattle.protocol.specs.declared.Answer.{Answer}
use Rattle.protocol.specs.declared.Phase.{Phase}
use Rattle.protocol.specs.declared.Progress.{Progress}
use Rattle.protocol.specs.Acked.{acked, released_labels}
use Rattle.protocol.specs.Calls.{receives}
use Rattle.protocol.specs.Labels.{label_effect, is_protected, answered_at, answers, meets}
use Rattle.protocol.specs.Lawful.{Lawful}
use Rattle.protocol.specs.MeaningLife.{effect_event}
use Rattle.protocol.specs.MeaningRequests.{is_open, answered, RequestFrom}
use Rattle.protocol.specs.Phases.{is_up_ft}
use Rattle.protocol.specs.Receive.{ack_count, ack_on, received_state, taken, received_phase, receive, left_before}
use Rattle.protocol.specs.State.{State, table_of, Table}
use Rattle.protocol.specs.Step.{Step, stepped_past}
use Rattle.protocol.proofs.Answered.{receive-does}
use Rattle.protocol.proofs.KeepingLabels.{acked-keeps, Beside}
use Rattle.protocol.proofs.KeepingStates.{table_lawful}
use Rattle.protocol.proofs.MeaningLife.{effect_event_lem}
use Rattle.protocol.proofs.OpenRequests.{opens_of, kept_by_lem, ended_same, ended-other}
use Rattle.protocol.proofs.Requests.{acked_open, id_same}

module _ (s : State) (ph : Phase) (law : Lawful s) (id : MessageId) where
  -- ---- Receive, in UpFT: the ACK ends none, then the message ends, if any, the Request that it names
  module _ (m : List ℕ) (u : Progress) (g : Message) (read : reading_of m ≡ Some g) where
    abbrev acked-words : List ℕ
    acked-words = released_labels (take (ack_count (ack_on s g)) s.queue) s.table.words

    abbrev acked_table : Table
    acked_table = table_of acked-words s.table.ids s.table.index

    b : Beside acked-words s.table.ids s.table.index
    b = acked-keeps s.table.ids s.table.index (take (ack_count (ack_on s g)) s.queue) s.table.words (table_lawful s law).beside

    abbrev met : Meets
    met = meets s.table.words acked_table g

    -- the event of the message, and where it ends a Request
    abbrev message_event_lem : Option (LabelMessage × Touched) → LabelEvent
    message_event_lem x = effect_event acked_table met (is_protected g.protection) x

    event_ends : (x : Option (LabelMessage × Touched)) → ends_at (message_event_lem x) ≡ answered_at acked_table g
    event_ends None = refl
    event_ends (Some (x, t)) = refl

    event-other : (x : Option (LabelMessage × Touched)) → message_event_lem x ≢ Asked
    event-other None z = no cc
    event-other (Some (x, t)) z = no cc

    abbrev ending : LabelEvent
    ending = message_event_lem (label_effect g)

    -- the table that the message leaves
    received_is : is_open (received_state s g) id ≡ opens_of (after_event acked-words ending) (open_ids acked-words s.table.ids) id
    unfolding received_state taken acked
    received_is = ap (λ (ws : List ℕ). opens_of ws (open_ids acked-words s.table.ids) id) (effect_event_lem acked_table met (is_protected g.protection) (label_effect g))

    -- in the words after the ACK, beside the IDs as they were
    left_by_lem : is_open (received_state s g) id ≡ opens_of (after_event acked-words ending) s.table.ids id
    left_by_lem =
        received_is
        ∙ ap (λ (l : List ℕ). is_found (open_at id (after_event acked-words ending) l)) (step-ids acked-words s.table.ids ending (event-other (label_effect g)))

    before_is : is_found (open_at id acked-words s.table.ids) ≡ is_open s id
    before_is = acked_open s.table.ids id (take (ack_count (ack_on s g)) s.queue) s.table.words

    -- one that ends none
    none_moves : answered_at acked_table g ≡ None → is_open (received_state s g) id ≡ is_open s id
    none_moves e =
        left_by_lem
        ∙ kept_by_lem s law id acked-words ending b.words (event-other (label_effect g))
        (λ i at r. let z : None ≡ Some i = sym e ∙ sym (event_ends (label_effect g)) ∙ at in no cc)
        ∙ before_is

    abbrev up_deed : Step
    up_deed = stepped_past (left_before s (Phase.UpFT u) g) Answer.Done (received_state s g) (received_phase s (Phase.UpFT u) g) []

    -- one that names q
    module _ (q : MessageId) (named : answers g ≡ Some q) where
      place : answered_at acked_table g ≡ open_at q acked-words s.table.ids
      unfolding answered_at
      place = rw named (open_counting q acked-words s.table.ids (omega (arith, b.words, b.ids)))

      named_moves : (f : Option ℕ) → open_at q acked-words s.table.ids ≡ f → is_up_ft ph ≡ true → RequestFrom s ph id (receives m) up_deed
      named_moves None o up = inl (none_moves (place ∙ o))
      named_moves (Some i) o up =
          let at : ends_at ending ≡ open_at q acked-words s.table.ids = event_ends (label_effect g) ∙ place in
          let other : ending ≢ Asked = event-other (label_effect g) in
          by_test (eqb q.0 id.0)
          (λ z.
          let same : q ≡ id = id_same q id (eqb-true q.0 id.0 z) in
          let before : is_open s id ≡ true = sym before_is ∙ rw same at (ap is_found o) in
          let after : is_open (received_state s g) id ≡ false =
          left_by_lem ∙ ended_same s law id acked-words b ending other q at (ap (λ (x : MessageId). x.0) same) i o in
          inr (rw (before, after) (answered (record { done = refl; up = up; read = read }) (rw same at named))))
          (λ z. inl (left_by_lem ∙ ended-other s law id acked-words b ending other q at (eqb-false q.0 id.0 z) ∙ before_is))

    unnamed : answers g ≡ None → answered_at acked_table g ≡ None
    unfolding answered_at
    unnamed e = rw e

    pub message_moves : is_up_ft ph ≡ true → RequestFrom s ph id (receives m) up_deed
    message_moves up = by (answers g) refl
      where
        by : (a : Option MessageId) → answers g ≡ a → RequestFrom s ph id (receives m) up_deed
        by None e = inl (none_moves (unnamed e))
        by (Some q) e = named_moves q e (open_at q acked-words s.table.ids) refl up

  -- a Request that a message answers which is taken in UpFT is open no more
  pub answer_ends : (m : List ℕ) (u : Progress) (g : Message) → ph ≡ Phase.UpFT u → (receive s ph m).answer ≡ Answer.Done → reading_of m ≡ Some g → answers g ≡ Some id
      → is_open (receive s ph m).state id ≡ false
  answer_ends m u g up d read named =
      let is : is_open (receive s ph m).state id ≡ is_open (received_state s g) id = rw (receive-does s ph m d, up, read) in
      is ∙ by (open_at id (acked-words m u g read) s.table.ids) refl
    where
      by : (f : Option ℕ) → open_at id (acked-words m u g read) s.table.ids ≡ f → is_open (received_state s g) id ≡ false
      by (Some i) o =
          left_by_lem m u g read
          ∙ ended_same s law id (acked-words m u g read) (b m u g read) (ending m u g read) (event-other m u g read (label_effect g)) id
          (event_ends m u g read (label_effect g) ∙ place m u g read id named) refl i o
      by None o = none_moves m u g read (place m u g read id named ∙ o) ∙ sym (before_is m u g read) ∙ ap is_found o
