-- The life of a label that we gave, over all calls: by which events of the label list each call moves it.
-- 02: "Free a withdrawn label at the second of Release and ACK. .. A Release at code 1 still frees it."
use Rattle.std.specs.Prelude.{Ok, Option, Some, None, ℕ, Bool, List, [], ◌∷◌, ◌++◌, ◌≡◌, eqb, take}
use Rattle.octets.specs.Pick.{pick}
use Rattle.label_list.specs.declared.LabelMessage.{LabelMessage}
use Rattle.label_list.specs.declared.Side.{Side}
use Rattle.label_events.specs.declared.Meets.{Meets}
use Rattle.label_events.specs.declared.Touched.{Touched}
use Rattle.label_events.specs.Change.{code_at}
use Rattle.message.specs.declared.Kind.{Kind}
use Rattle.message.specs.declared.Message.{Message}
use Rattle.message.specs.Kinds.{kind_number}
use Rattle.message.specs.Storable.{kind_in, label_in}
use Rattle.message.specs.Submission.{submission_of}
use Rattle.label_meaning.specs.Event.{LabelEvent, Accepted, Acked, Received, Asked, Ended, Broken}
use Rattle.label_meaning.specs.Withdrawal.{GivenMoves, after_events}
use Rattle.protocol.specs.declared.Answer.{Answer}
use Rattle.protocol.specs.declared.Phase.{Phase}
use Rattle.protocol.specs.Calls.{Call, submits, greets, receives}
use Rattle.protocol.specs.Cases.{table_after}
use Rattle.protocol.specs.Labels.{label_effect, is_protected, reached, meets}
use Rattle.protocol.specs.MeaningLabels.{SentKind}
use Rattle.protocol.specs.MeaningRequests.{TakenUp}
use Rattle.protocol.specs.Receive.{ack_count, ack_on}
use Rattle.protocol.specs.State.{State, no_table, Table}
use Rattle.protocol.specs.Step.{Step}

-- ---- the events of a call
-- the ACK of a held message of that kind and label
abbrev pub ack_event : ℕ → ℕ → List LabelEvent
ack_event kind label =
    pick (eqb kind (kind_number Kind.Withdraw)) (Acked LabelMessage.Withdraw label ∷ [])
    (pick (eqb kind (kind_number Kind.Release)) (Acked LabelMessage.Release label ∷ []) [])

-- of all that an ACK releases, the oldest first
abbrev pub ack_events : List (List ℕ) → List LabelEvent
ack_events [] = []
ack_events (m ∷ ms) = ack_event (kind_in (submission_of m)) (label_in (submission_of m)) ++ ack_events ms

-- a message that has that effect on the labels is received, over that table, and meets `x` beside the words
abbrev pub effect_event : Table → Meets → Bool → Option (LabelMessage × Touched) → LabelEvent
effect_event t x protected None = Ended x.request
effect_event t x protected (Some (message, touched)) = Received x message protected (reached t message touched)

-- `old` are the words before the call, `t` the table as the message's ACK leaves it
abbrev pub message_event : List ℕ → Table → Message → LabelEvent
message_event old t g = effect_event t (meets old t g) (is_protected g.protection) (label_effect g)

pub data Events (s : State) (ph : Phase) : Call → Step → List LabelEvent → Type 0 where
  -- a call that leaves the labels
  nothing : {c : Call} {x : Step} → Events s ph c x []
  -- the connection has ended
  broke : {c : Call} {x : Step} → Events s ph c x (Broken ∷ [])
  -- a message of ours is taken: of a label, or about a Request
  took : {m : List ℕ} {x : Step} {kind : Kind} {message : LabelMessage} {label : ℕ} → x.answer ≡ Answer.Done → submission_of m ≡ Ok (kind, label) → SentKind kind message
      → Events s ph (submits m) x (Accepted message label ∷ [])
  asked : {m : List ℕ} {x : Step} → Events s ph (submits m) x (Asked ∷ [])
  aborted : {m : List ℕ} {x : Step} (request : Option ℕ) → Events s ph (submits m) x (Ended request ∷ [])
  -- the peer's Init acknowledges the oldest k
  resumed : {m : List ℕ} {x : Step} (k : ℕ) → x.answer ≡ Answer.Done → Events s ph (greets m) x (ack_events (take k s.queue))
  -- a message is received: its ACK first
  received : {m : List ℕ} {x : Step} {g : Message} → TakenUp ph m g x
      → Events s ph (receives m) x
      (ack_events (take (ack_count (ack_on s g)) s.queue) ++ (message_event s.table.words (table_after s (ack_count (ack_on s g))) g ∷ []))

-- what a call leaves of the label words: nothing with the state, or what its events make of them
pub data LabelsFrom (s : State) (ph : Phase) : Call → Step → Type 0 where
  forgotten : {c : Call} {x : Step} → x.state.table ≡ no_table → LabelsFrom s ph c x
  by_events : {c : Call} {x : Step} {es : List LabelEvent} → Events s ph c x es → x.state.table.words ≡ after_events s.table.words es → LabelsFrom s ph c x

-- and of one label that we gave
pub data LifeFrom (s : State) (ph : Phase) (k : ℕ) : Call → Step → Type 0 where
  ends_with_state : {c : Call} {x : Step} → x.state.table ≡ no_table → LifeFrom s ph k c x
  goes_on : {c : Call} {x : Step} {es : List LabelEvent} → Events s ph c x es
      → GivenMoves k es (code_at s.table.words Side.Given k) (code_at x.state.table.words Side.Given k) → LifeFrom s ph k c x
