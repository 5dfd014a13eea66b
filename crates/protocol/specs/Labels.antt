-- What a received message does to the labels, and whether it is protected as they demand.
use Rattle.std.specs.Prelude.{Option, Some, None, ℕ, Bool, true, false, not, List, eqb}
use Rattle.octets.specs.Pick.{pick, both}
use Rattle.ft_number.specs.declared.FtNumber.{FtNumber}
use Rattle.ft_number.specs.declared.MessageId.{MessageId}
use Rattle.label_list.specs.declared.LabelMessage.{LabelMessage}
use Rattle.label_list.specs.declared.Protection.{Protection}
use Rattle.label_list.specs.Beside.{entry_at}
use Rattle.label_list.specs.Find.{spare_in}
use Rattle.label_list.specs.Requests.{open_at}
use Rattle.label_list.specs.Rules.{received_side}
use Rattle.tlv.specs.declared.Fec.{Fec}
use Rattle.tlv.specs.Element.{entry_of, entry_by}
use Rattle.label_events.specs.declared.Meets.{Meets}
use Rattle.label_events.specs.declared.Reception.{Reception}
use Rattle.label_events.specs.declared.Touched.{Touched}
use Rattle.label_events.specs.Protect.{protection_of}
use Rattle.label_events.specs.Reach.{Reach, reach_of}
use Rattle.label_events.specs.Receive.{received_place, takes_at, received_of}
use Rattle.label_events.specs.Requests.{ended_at}
use Rattle.message.specs.declared.Kind.{Kind}
use Rattle.message.specs.declared.Message.{Message}
use Rattle.message.specs.declared.MessageType.{MessageType}
use Rattle.message.specs.Kinds.{kind_of}
use Rattle.protocol.specs.State.{Table}

-- 01: "With no Label TLV, Withdraw or Release of the wildcard FEC (one element of type 1) acts on every label; of another FEC it is
-- accepted and changes no label here." 02: "FEC-only Withdraw and Release then act on exactly the labels of that prefix .. Only a FEC of
-- one well-formed IPv4 prefix element is indexed; others stay as in 01."
abbrev pub touched_by : Option ℕ → Option Fec → Touched
touched_by (Some l) fec = Touched.Label l
touched_by None None = Touched.Nothing
touched_by None (Some Fec.Wildcard) = Touched.Every
touched_by None (Some (Fec.Prefix p)) = Touched.Prefix (entry_of p)
touched_by None (Some Fec.Other) = Touched.Nothing

-- "Absent labels and other message types change nothing otherwise."
abbrev pub effect_on : MessageType → Touched → Option (LabelMessage × Touched)
effect_on MessageType.Notification t = None
effect_on MessageType.Initialization t = None
effect_on MessageType.KeepAlive t = None
effect_on MessageType.Address t = None
effect_on MessageType.AddressWithdraw t = None
effect_on MessageType.Mapping t = Some (LabelMessage.Mapping, t)
effect_on MessageType.Request t = None
effect_on MessageType.Withdraw t = Some (LabelMessage.Withdraw, t)
effect_on MessageType.Release t = Some (LabelMessage.Release, t)
effect_on MessageType.Abort t = None
effect_on MessageType.Other t = None

unfoldable pub label_effect : Message → Option (LabelMessage × Touched)
label_effect g = effect_on g.typename (touched_by g.label g.fec)

-- 02: "It ends when .. a Notification (Status) or Mapping (TLV 0x0600, length 4) naming its ID is received": the ID that a message answers
abbrev pub answered_by : MessageType → Option MessageId → Option MessageId → Option MessageId
answered_by MessageType.Notification status request = status
answered_by MessageType.Initialization status request = None
answered_by MessageType.KeepAlive status request = None
answered_by MessageType.Address status request = None
answered_by MessageType.AddressWithdraw status request = None
answered_by MessageType.Mapping status request = request
answered_by MessageType.Request status request = None
answered_by MessageType.Withdraw status request = None
answered_by MessageType.Release status request = None
answered_by MessageType.Abort status request = None
answered_by MessageType.Other status request = None

unfoldable pub answers : Message → Option MessageId
answers g = answered_by g.typename g.statusid g.requestid

-- where the open Request of that ID stands
abbrev pub request_at : Table → Option MessageId → Option ℕ
request_at t None = None
request_at t (Some id) = open_at id t.words t.ids

-- where the open Request stands that the message answers, and so ends
unfoldable pub answered_at : Table → Message → Option ℕ
answered_at t g = request_at t (answers g)

-- where the label stands that the message names
abbrev pub effect_place : List ℕ → Option (LabelMessage × Touched) → Option ℕ
effect_place ls None = None
effect_place ls (Some (m, t)) = received_place ls m t

-- a message with FT Protection is a protected one
abbrev pub is_protected : Option FtNumber → Bool
is_protected None = false
is_protected (Some n) = true

-- 01: "Protection is missing (33) on Address, Address Withdraw and Resources Available"
abbrev pub always_protected : Kind → Bool
always_protected Kind.Mapping = false
always_protected Kind.Withdraw = false
always_protected Kind.Release = false
always_protected Kind.Address = true
always_protected Kind.AddressWithdraw = true
always_protected Kind.ResourcesAvailable = true
always_protected (Kind.Request id) = false
always_protected (Kind.Abort id) = false
always_protected Kind.NoResources = false
always_protected Kind.NoKind = false

-- the labels that a message reaches, by the entries beside the words
abbrev pub reached : Table → LabelMessage → Touched → Reach
reached t m touched = reach_of (received_side m) t.words t.index touched

-- 02: "would change a listed label's entry": the message's FEC has another entry than the label that it names
abbrev pub brings_another : Table → Message → Bool
brings_another t g = not (eqb (entry_at t.index (effect_place t.words (label_effect g))) (entry_by g.fec))

-- what a message meets beside the words: the Request that it answers; 02: "the first that is free in the old block 0 too", where `old` are
-- the words before the call; and whether its label moves
abbrev pub meets : List ℕ → Table → Message → Meets
meets old t g = record { request = answered_at t g; spare = spare_in old t.words; another = brings_another t g }

-- ".. and on a message touching codes 1 to 5 on its own side .. It is wrong (32) on a Mapping or Withdraw that names a label of code 6.";
-- 02: a Release touching 8 or 9 too; "the labels of that prefix, which 33 reads as touched"
abbrev pub effect_protection : Table → Bool → Option (LabelMessage × Touched) → Protection
effect_protection t protected None = Protection.Right
effect_protection t protected (Some (m, touched)) = protection_of t.words m protected (reached t m touched)

unfoldable pub protection_rule : Table → Message → Protection
protection_rule t g =
    pick (both (not (is_protected g.protection)) (always_protected (kind_of g))) Protection.Missing
    (effect_protection t (is_protected g.protection) (label_effect g))

-- "21: Mapping received that needs a word, none free"; 02: it "takes its Request's word or the first that is free in the old block 0 too (13
-- and 21 read free so)"
abbrev pub effect_reception : Table → Meets → Bool → Option (LabelMessage × Touched) → Reception
effect_reception t x protected None = Reception.Taken
effect_reception t x protected (Some (m, touched)) = (received_of t.words x m protected (reached t m touched)).0

-- what the label words become
abbrev pub effect_labels : Table → Meets → Bool → Option (LabelMessage × Touched) → List ℕ
effect_labels t x protected None = ended_at x.request t.words
effect_labels t x protected (Some (m, touched)) = (received_of t.words x m protected (reached t m touched)).1

-- where the message takes a word for its label
abbrev pub effect_takes : Table → Meets → Bool → Option (LabelMessage × Touched) → Option ℕ
effect_takes t x protected None = None
effect_takes t x protected (Some (m, touched)) = takes_at t.words x m protected touched
