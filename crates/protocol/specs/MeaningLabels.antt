-- Which labels a received message touches, and when its protection is missing or wrong, clause by clause.
use Rattle.std.specs.Prelude.{Some, None, ℕ, ◌≤◌, List, ◌≡◌}
use Rattle.ft_number.specs.declared.FtNumber.{FtNumber}
use Rattle.label_list.specs.declared.LabelMessage.{LabelMessage}
use Rattle.label_list.specs.declared.Side.{Side}
use Rattle.label_list.specs.Beside.{entry_on}
use Rattle.label_list.specs.Rules.{received_side}
use Rattle.tlv.specs.declared.Fec.{Fec}
use Rattle.tlv.specs.declared.Ipv4Prefix.{Ipv4Prefix}
use Rattle.tlv.specs.Element.{entry_of}
use Rattle.label_events.specs.Change.{code_at}
use Rattle.message.specs.declared.Kind.{Kind}
use Rattle.message.specs.declared.Message.{Message}
use Rattle.message.specs.declared.MessageType.{MessageType}
use Rattle.message.specs.Kinds.{kind_of}
use Rattle.protocol.specs.State.{Table}

-- the three types that touch labels
pub data LabelType : MessageType → LabelMessage → Type 0 where
  of_mapping : LabelType MessageType.Mapping LabelMessage.Mapping
  of_withdraw : LabelType MessageType.Withdraw LabelMessage.Withdraw
  of_release : LabelType MessageType.Release LabelMessage.Release

-- a message touches the label that it names; "With no Label TLV, .. of the wildcard FEC .. acts on every label"
pub data Touching (t : Table) (g : Message) : LabelMessage → ℕ → Type 0 where
  names : {m : LabelMessage} {l : ℕ} → LabelType g.typename m → g.label ≡ Some l → Touching t g m l
  under_prefix : {m : LabelMessage} {l : ℕ} {p : Ipv4Prefix} → LabelType g.typename m → g.label ≡ None → g.fec ≡ Some (Fec.Prefix p)
      → entry_on t.words t.index (received_side m) l ≡ entry_of p → Touching t g m l
  under_wildcard : {m : LabelMessage} {l : ℕ} → LabelType g.typename m → g.label ≡ None → g.fec ≡ Some Fec.Wildcard → Touching t g m l

-- "Protection is missing (33) on Address, Address Withdraw and Resources Available"
pub data NeverBare : Kind → Type 0 where
  address : NeverBare Kind.Address
  address-withdraw : NeverBare Kind.AddressWithdraw
  resources : NeverBare Kind.ResourcesAvailable

-- ".. on a message touching codes 1 to 5 on its own side (Mapping and Withdraw 3-5, Release 1-2) .."; 02: the rule that a label's "Release is protected" covers 8 and 9
pub data Guarded : LabelMessage → ℕ → Type 0 where
  to_mapping : {code : ℕ} → 3 ≤ code → code ≤ 5 → Guarded LabelMessage.Mapping code
  to_withdraw : {code : ℕ} → 3 ≤ code → code ≤ 5 → Guarded LabelMessage.Withdraw code
  to_release : {code : ℕ} → 1 ≤ code → code ≤ 2 → Guarded LabelMessage.Release code
  to_second : {code : ℕ} → 8 ≤ code → code ≤ 9 → Guarded LabelMessage.Release code

-- ".., a named label or any under a wildcard"
pub data Demands (t : Table) (g : Message) : Type 0 where
  by_kind : NeverBare (kind_of g) → Demands t g
  by_label : {m : LabelMessage} {l : ℕ} → Touching t g m l → Guarded m (code_at t.words (received_side m) l) → Demands t g

-- "It is wrong (32) on a Mapping or Withdraw that names a label of code 6."
pub record WronglyProtected (ls : List ℕ) (g : Message) : Type 0 where
  pub number : FtNumber
  pub protected : g.protection ≡ Some number
  pub message : LabelMessage
  pub type : LabelType g.typename message
  pub side : received_side message ≡ Side.Used
  pub label : ℕ
  pub named : g.label ≡ Some label
  pub bare : code_at ls Side.Used label ≡ 6

-- ---- what we send
-- the three kinds that name a label
pub data SentKind : Kind → LabelMessage → Type 0 where
  sent-mapping : SentKind Kind.Mapping LabelMessage.Mapping
  sent-withdraw : SentKind Kind.Withdraw LabelMessage.Withdraw
  sent-release : SentKind Kind.Release LabelMessage.Release
