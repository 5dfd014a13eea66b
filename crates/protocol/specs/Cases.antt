-- A received message case by case: the phase, what was read, and the answer. `cases` in proofs/Cases.antt says that the judgement is this list.
-- 01: "Receive: 12, 1, 22, 36, 31, 30, 34, 33, 32, 20, 21; 33 and later judge labels as the ACK leaves them."
use Rattle.std.specs.Prelude.{Ok, Err, Option, Some, None, ℕ, Bool, true, false, List, ◌≡◌, take}
use Rattle.ft_number.specs.declared.TurnError.{TurnError}
use Rattle.label_list.specs.declared.Protection.{Protection}
use Rattle.label_events.specs.declared.Reception.{Reception}
use Rattle.message.specs.declared.Message.{Message}
use Rattle.message.specs.Submission.{bears_ft}
use Rattle.protocol.specs.declared.Answer.{Answer}
use Rattle.protocol.specs.declared.Phase.{Phase}
use Rattle.protocol.specs.declared.Progress.{Progress}
use Rattle.protocol.specs.Acked.{released_labels}
use Rattle.protocol.specs.Labels.{label_effect, is_protected, protection_rule, effect_reception, meets}
use Rattle.protocol.specs.Receive.{ack_on, is_fatal, is_zero, turn_borne}
use Rattle.protocol.specs.Received.{is_init}
use Rattle.protocol.specs.State.{State, Table, table_of}

-- the phases in which messages are received
abbrev pub may_receive : Phase → Bool
may_receive Phase.Idle = false
may_receive (Phase.InitWait v) = false
may_receive (Phase.UpFT u) = true
may_receive Phase.UpPlain = true
may_receive Phase.Failed = false

-- the label words as an ACK leaves them that releases the oldest k held
abbrev pub words_after : State → ℕ → List ℕ
words_after s k = released_labels (take k s.queue) s.table.words

-- with the IDs beside them
abbrev pub table_after : State → ℕ → Table
table_after s k = table_of (words_after s k) s.table.ids s.table.index

-- 22 and 36 are passed
pub record Heard (g : Message) : Type 0 where
  pub another : is_init g.typename ≡ false
  pub mild : is_fatal g.status ≡ false

-- 30 and 34 are passed too
pub record AckRight (s : State) (g : Message) (k : ℕ) : Type 0 where
  pub heard : Heard g
  pub nonzero : is_zero g.protection ≡ false
  pub acks : ack_on s g ≡ Some k

-- 33 and 32 are passed too
pub record ProtectionRight (s : State) (g : Message) (k : ℕ) : Type 0 where
  pub ack : AckRight s g k
  pub right : protection_rule (table_after s k) g ≡ Protection.Right

-- 20 is passed too, with so many left out
pub record TurnRight (s : State) (resumed : Bool) (g : Message) (k : ℕ) : Type 0 where
  pub protection : ProtectionRight s g k
  pub leftout : ℕ
  pub turn : turn_borne resumed s.secured.0 g.protection ≡ Ok leftout

-- 21 is passed too: the message is taken
pub record Takes (s : State) (resumed : Bool) (g : Message) (k : ℕ) : Type 0 where
  pub turn : TurnRight s resumed g k
  pub room : effect_reception (table_after s k) (meets s.table.words (table_after s k) g) (is_protected g.protection) (label_effect g)
      ≡ Reception.Taken

pub data Case (s : State) : Phase → Option Message → Answer → Type 0 where
  -- "1: wrong phase"
  wrong_phase : {ph : Phase} {rd : Option Message} → may_receive ph ≡ false → Case s ph rd Answer.WrongPhase
  -- "22: malformed received", "Init received in UpFT or UpPlain"
  malformed : {ph : Phase} → may_receive ph ≡ true → Case s ph None Answer.MalformedReceived
  an_init : {ph : Phase} {g : Message} → may_receive ph ≡ true → is_init g.typename ≡ true → Case s ph (Some g) Answer.MalformedReceived
  -- "36: Status with E set"
  fatal : {ph : Phase} {g : Message} → may_receive ph ≡ true → is_init g.typename ≡ false → is_fatal g.status ≡ true → Case s ph (Some g) Answer.StatusFatal
  -- "31: FT TLV in UpPlain"
  ft_tlv : {g : Message} → Heard g → bears_ft g.found ≡ true → Case s Phase.UpPlain (Some g) Answer.FtTlvInPlain
  -- "In UpPlain messages are passed on."
  passed_on_plain : {g : Message} → Heard g → bears_ft g.found ≡ false → Case s Phase.UpPlain (Some g) Answer.Done
  -- "30: zero number"
  zero_number : {u : Progress} {g : Message} → Heard g → is_zero g.protection ≡ true → Case s (Phase.UpFT u) (Some g) Answer.ZeroNumber
  -- "34: ACK sequence error"
  wrong_ack : {u : Progress} {g : Message} → Heard g → is_zero g.protection ≡ false → ack_on s g ≡ None
      → Case s (Phase.UpFT u) (Some g) Answer.AckSequenceError
  -- "32, 33: protection wrong, missing"
  missing : {u : Progress} {k : ℕ} {g : Message} → AckRight s g k → protection_rule (table_after s k) g ≡ Protection.Missing
      → Case s (Phase.UpFT u) (Some g) Answer.ProtectionMissing
  wrong : {u : Progress} {k : ℕ} {g : Message} → AckRight s g k → protection_rule (table_after s k) g ≡ Protection.Wrong
      → Case s (Phase.UpFT u) (Some g) Answer.ProtectionWrong
  -- "20: number out of turn"
  out_of_turn : {u : Progress} {k : ℕ} {g : Message} → ProtectionRight s g k → turn_borne u.resumed s.secured.0 g.protection ≡ Err TurnError.OutOfTurn
      → Case s (Phase.UpFT u) (Some g) Answer.OutOfTurn
  -- "21: Mapping received that needs a word, none free"
  no_word : {u : Progress} {k : ℕ} {g : Message} → TurnRight s u.resumed g k
      → effect_reception (table_after s k) (meets s.table.words (table_after s k) g) (is_protected g.protection) (label_effect g) ≡ Reception.NoRoom
      → Case s (Phase.UpFT u) (Some g) Answer.NoWordForMapping
  taken : {u : Progress} {k : ℕ} {g : Message} → Takes s u.resumed g k → Case s (Phase.UpFT u) (Some g) Answer.Done
