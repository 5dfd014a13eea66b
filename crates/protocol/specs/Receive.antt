-- Receive: the answer to a message in 01's order, 1, 22, 36, 31, 30, 34, 33, 32, 20, 21, and what it makes of the state.
-- 01: "Receive (UpFT): the ACK acts first, then the message; a protected one must bear the successor of S, and S moves to it. In UpPlain messages are passed on."
-- 02, ticket 3: on a resumed connection it may be 1 to 64 steps ahead of S.
use Rattle.std.specs.Prelude.{Result, Ok, Err, Option, Some, None, ℕ, ◌-◌, Bool, false, List, [], eqb}
use Rattle.octets.specs.Pick.{pick}
use Rattle.ft_number.specs.declared.FtNumber.{FtNumber}
use Rattle.ft_number.specs.declared.TurnError.{TurnError}
use Rattle.ft_number.specs.Ack.{ack_of}
use Rattle.ft_number.specs.Turn.{turn_gap, number_turn}
use Rattle.label_list.specs.declared.Protection.{Protection}
use Rattle.tlv.specs.Element.{entry_by}
use Rattle.label_events.specs.declared.Reception.{Reception}
use Rattle.label_events.specs.Change.{put_at}
use Rattle.message.specs.declared.Kind.{Kind}
use Rattle.message.specs.declared.Message.{Message}
use Rattle.message.specs.Kinds.{fatal_of, kind_of}
use Rattle.message.specs.Reading.{reading_of}
use Rattle.message.specs.Submission.{bears_ft}
use Rattle.protocol.specs.declared.Answer.{Answer}
use Rattle.protocol.specs.declared.Phase.{Phase}
use Rattle.protocol.specs.Accepting.{stop_after}
use Rattle.protocol.specs.Acked.{ack_borne, acked}
use Rattle.protocol.specs.Labels.{effect_labels, effect_reception, is_protected, label_effect, protection_rule, meets, effect_takes}
use Rattle.protocol.specs.Phases.{up_with, sent_of, resumed_of, is_up_ft}
use Rattle.protocol.specs.Received.{is_init}
use Rattle.protocol.specs.State.{Marks, State, Table, table_of, with_marks, with_secured, with_table}
use Rattle.protocol.specs.Step.{Step, admitted, settle, stepped_past, unchanged}

-- "36: Status with E set"
abbrev pub is_fatal : Option ℕ → Bool
is_fatal None = false
is_fatal (Some v) = fatal_of v

-- "Init received in UpFT or UpPlain" is malformed (22); then 36; then the tests of the phase
unfoldable pub message_rule : Message → Answer → Answer
message_rule g a = pick (is_init g.typename) Answer.MalformedReceived (pick (is_fatal g.status) Answer.StatusFatal a)

-- "31: FT TLV in UpPlain"
abbrev pub plain_rule : Message → Answer
plain_rule g = message_rule g (pick (bears_ft g.found) Answer.FtTlvInPlain Answer.Done)

-- "30: zero number": of FT Protection alone
abbrev pub is_zero : Option FtNumber → Bool
is_zero None = false
is_zero (Some n) = eqb n.0 0

-- the turn of a protected message, with how many were left out before it; a message that is not protected is always in turn
abbrev pub turn_borne : Bool → ℕ → Option FtNumber → Result ℕ TurnError
turn_borne resumed s None = Ok 0
turn_borne resumed s (Some n) = number_turn resumed s n.0

-- "20: number out of turn"; zero has been answered before (30); only then the tests behind it, which say `a`
abbrev pub turn_rule : Result ℕ TurnError → Answer → Answer
turn_rule (Err TurnError.OutOfTurn) a = Answer.OutOfTurn
turn_rule (Err TurnError.ZeroNumber) a = Answer.ZeroNumber
turn_rule (Ok k) a = a

abbrev pub reception_rule : Reception → Answer
reception_rule Reception.Taken = Answer.Done
reception_rule Reception.NoRoom = Answer.NoWordForMapping

-- "33 and later judge labels as the ACK leaves them": t has those, `old` the words before the call; the turn of the message
abbrev pub protected_rule : List ℕ → Table → Result ℕ TurnError → Message → Protection → Answer
protected_rule old t turn g Protection.Missing = Answer.ProtectionMissing
protected_rule old t turn g Protection.Wrong = Answer.ProtectionWrong
protected_rule old t turn g Protection.Right =
    turn_rule turn (reception_rule (effect_reception t (meets old t g) (is_protected g.protection) (label_effect g)))

unfoldable pub labels_rule : List ℕ → Table → Result ℕ TurnError → Message → Answer
labels_rule old t turn g = protected_rule old t turn g (protection_rule t g)

abbrev pub read_rule : Option Message → (Message → Answer) → Answer
read_rule None rule = Answer.MalformedReceived
read_rule (Some g) rule = rule g

-- S moves to the number of a protected message
abbrev pub secured_by : FtNumber → Option FtNumber → FtNumber
secured_by s None = s
secured_by s (Some n) = n

-- how many messages the ACK releases
abbrev pub ack_count : Option ℕ → ℕ
ack_count (Some k) = k
ack_count None = 0

-- "34: ACK sequence error"; "33 and later judge labels as the ACK leaves them"
abbrev pub ack_rule : State → Bool → Message → Option ℕ → Answer
ack_rule s resumed g (Some k) =
    labels_rule s.table.words (acked s k (ack_borne s g.ack)).table (turn_borne resumed s.secured.0 g.protection) g
ack_rule s resumed g None = Answer.AckSequenceError

-- the ACK that the message bears, against R and I
unfoldable pub ack_on : State → Message → Option ℕ
ack_on s g = ack_of s.released.0 s.issued.0 (ack_borne s g.ack)

unfoldable pub ft_rule : State → Bool → Message → Answer
ft_rule s resumed g = message_rule g (pick (is_zero g.protection) Answer.ZeroNumber (ack_rule s resumed g (ack_on s g)))

abbrev pub receive_rule : State → Phase → Option Message → Answer
receive_rule s Phase.Idle r = Answer.WrongPhase
receive_rule s (Phase.InitWait v) r = Answer.WrongPhase
receive_rule s (Phase.UpFT u) r = read_rule r (ft_rule s u.resumed)
receive_rule s Phase.UpPlain r = read_rule r plain_rule
receive_rule s Phase.Failed r = Answer.WrongPhase

-- the state as the ACK leaves it
abbrev pub after_ack : State → Message → State
after_ack s g = acked s (ack_count (ack_on s g)) (ack_borne s g.ack)

-- the label words that a message leaves; `old` are the words before the call
abbrev pub message_labels : List ℕ → Table → Message → List ℕ
message_labels old t g = effect_labels t (meets old t g) (is_protected g.protection) (label_effect g)

-- where it takes a word for its label
abbrev pub message_takes : List ℕ → Table → Message → Option ℕ
message_takes old t g = effect_takes t (meets old t g) (is_protected g.protection) (label_effect g)

-- 02: the index then: the entry of the message's FEC at that place; no other entry is another
abbrev pub message_index : List ℕ → Table → Message → List ℕ
message_index old t g = put_at (message_takes old t g) (entry_by g.fec) t.index

abbrev pub message_table : List ℕ → Table → Message → Table
message_table old t g = table_of (message_labels old t g) t.ids (message_index old t g)

-- 02: "2 if told so": by kind 9, until kind 6
abbrev pub heard_marks : Marks → Kind → Marks
heard_marks m kind = record { stopped = stop_after m.stopped kind; stopping = m.stopping }

-- then the message: S moves to the number of a protected one
unfoldable pub taken : List ℕ → State → Message → State
taken old s g =
    with_marks (with_table (with_secured s (secured_by s.secured g.protection)) (message_table old s.table g))
    (heard_marks s.marks (kind_of g))

unfoldable pub received_state : State → Message → State
received_state s g = taken s.table.words (after_ack s g) g

-- "An ACK lowers that count by the messages it releases, not below 0."
abbrev pub received_phase : State → Phase → Message → Phase
received_phase s ph g = up_with (resumed_of ph) (sent_of ph - ack_count (ack_on s g))

-- how many the peer left out before the message
abbrev pub left_before : State → Phase → Message → ℕ
left_before s ph g = turn_gap (turn_borne (resumed_of ph) s.secured.0 g.protection)

-- what a message leaves in UpFT that is taken; a malformed one never is
abbrev pub taken_in_ft : State → Phase → Option Message → Step
taken_in_ft s ph None = unchanged Answer.Done s ph
taken_in_ft s ph (Some g) = stepped_past (left_before s ph g) Answer.Done (received_state s g) (received_phase s ph g) []

-- "In UpPlain messages are passed on."
abbrev pub taken_as : State → Phase → Option Message → Step
taken_as s ph r = pick (is_up_ft ph) (taken_in_ft s ph r) (unchanged Answer.Done s ph)

unfoldable pub receive : State → Phase → List ℕ → Step
receive s ph m = settle (admitted s ph (receive_rule s ph (reading_of m))) s ph (taken_as s ph (reading_of m))
