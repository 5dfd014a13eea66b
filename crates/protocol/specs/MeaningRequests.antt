-- The life of a Request, and what both ends remember of "Requests stopped", over all calls.
-- 02: "It ends when its Abort is accepted, or a Notification (Status) or Mapping (TLV 0x0600, length 4) naming its ID is received"; "both ends remember this
-- over a break .. and forget it when state is released".
use Rattle.std.specs.Prelude.{Ok, Some, ℕ, Bool, true, false, List, ◌⊎◌, ◌≡◌}
use Rattle.ft_number.specs.declared.MessageId.{MessageId}
use Rattle.label_list.specs.Find.{is_found}
use Rattle.label_list.specs.Requests.{open_at}
use Rattle.message.specs.declared.Kind.{Kind}
use Rattle.message.specs.declared.Message.{Message}
use Rattle.message.specs.Kinds.{kind_of}
use Rattle.message.specs.Reading.{reading_of}
use Rattle.message.specs.Submission.{submission_of}
use Rattle.protocol.specs.declared.Answer.{Answer}
use Rattle.protocol.specs.declared.Phase.{Phase}
use Rattle.protocol.specs.Calls.{Call, submits, receives}
use Rattle.protocol.specs.Labels.{answers}
use Rattle.protocol.specs.Phases.{is_up_ft}
use Rattle.protocol.specs.Receive.{heard_marks}
use Rattle.protocol.specs.State.{State, Table, no_marks, no_table}
use Rattle.protocol.specs.Step.{Step}
use Rattle.protocol.specs.Submit.{accepted_marks}

-- a Request of that ID is open
abbrev pub opens_in : Table → MessageId → Bool
opens_in t id = is_found (open_at id t.words t.ids)

abbrev pub is_open : State → MessageId → Bool
is_open s id = opens_in s.table id

-- a message that was taken in UpFT, as it was read
pub record TakenUp (ph : Phase) (m : List ℕ) (g : Message) (x : Step) : Type 0 where
  pub done : x.answer ≡ Answer.Done
  pub up : is_up_ft ph ≡ true
  pub read : reading_of m ≡ Some g

-- by which call, which leaves x, a Request of that ID is open or open no more
pub data RequestMoves (ph : Phase) (id : MessageId) : Call → Step → Bool → Bool → Type 0 where
  -- it is accepted
  asked : {m : List ℕ} {x : Step} {label : ℕ} → x.answer ≡ Answer.Done → submission_of m ≡ Ok (Kind.Request id, label)
      → RequestMoves ph id (submits m) x false true
  -- "its Abort is accepted"
  aborted : {m : List ℕ} {x : Step} {label : ℕ} → x.answer ≡ Answer.Done → submission_of m ≡ Ok (Kind.Abort id, label)
      → RequestMoves ph id (submits m) x true false
  -- "or a Notification (Status) or Mapping (TLV 0x0600, length 4) naming its ID is received"
  answered : {m : List ℕ} {x : Step} {g : Message} → TakenUp ph m g x → answers g ≡ Some id → RequestMoves ph id (receives m) x true false
  -- "when state is released"
  forgotten : {c : Call} {x : Step} → x.state.table ≡ no_table → RequestMoves ph id c x true false

-- of a call that leaves x: a Request stays open, or not; or the call moves it
abbrev pub RequestFrom : State → Phase → MessageId → Call → Step → Type 0
RequestFrom s ph id c x = (is_open x.state id ≡ is_open s id) ⊎ RequestMoves ph id c x (is_open s id) (is_open x.state id)

-- of the marks: they stay, are forgotten with the state, or a message tells the peer or us
pub data MarksFrom (s : State) (ph : Phase) : Call → Step → Type 0 where
  remembered : {c : Call} {x : Step} → x.state.marks ≡ s.marks → MarksFrom s ph c x
  forgotten : {c : Call} {x : Step} → x.state.marks ≡ no_marks → x.state.table ≡ no_table → MarksFrom s ph c x
  telling : {m : List ℕ} {x : Step} → x.answer ≡ Answer.Done → x.state.marks ≡ accepted_marks s.marks (submission_of m) → MarksFrom s ph (submits m) x
  told : {m : List ℕ} {x : Step} {g : Message} → TakenUp ph m g x → x.state.marks ≡ heard_marks s.marks (kind_of g) → MarksFrom s ph (receives m) x
