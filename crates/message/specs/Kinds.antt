-- The kinds of message that are stored and protected, with the paper's numbers.
-- 01: "Kinds: Mapping, Withdraw, Release, Address, Address Withdraw, Resources Available (a Notification whose Status has that code in its
-- low 30 bits and E clear)." 02: "kinds 7 Request, 8 Abort and 9 'No label resources' (known as 6 is)".
use Rattle.std.specs.Prelude.{Option, Some, None, ℕ, ◌%◌, Bool, List, [], ◌∷◌}
use Rattle.octets.specs.Pick.{pick}
use Rattle.ft_number.specs.declared.MessageId.{MessageId}
use Rattle.tlv.specs.Table.{lookup}
use Rattle.tlv.specs.Value.{top_bit}
use Rattle.message.specs.declared.Kind.{Kind}
use Rattle.message.specs.declared.Message.{Message}
use Rattle.message.specs.declared.MessageType.{MessageType}

-- the number of a kind in the stored image; 0 is no kind
abbrev pub kind_number : Kind → ℕ
kind_number Kind.Mapping = 1
kind_number Kind.Withdraw = 2
kind_number Kind.Release = 3
kind_number Kind.Address = 4
kind_number Kind.AddressWithdraw = 5
kind_number Kind.ResourcesAvailable = 6
kind_number (Kind.Request id) = 7
kind_number (Kind.Abort id) = 8
kind_number Kind.NoResources = 9
kind_number Kind.NoKind = 0

-- the highest
abbrev pub last_kind : ℕ
last_kind = 9

-- "that code in its low 30 bits": the codes below this one
abbrev pub status_code_range : ℕ
status_code_range = 1073741824

-- the E bit of a Status, and its code
abbrev pub fatal_of : ℕ → Bool
fatal_of v = top_bit v

abbrev pub status_code : ℕ → ℕ
status_code v = v % status_code_range

-- RFC 3036's numbers of 'Label Resources Available' and 'No Label Resources'
abbrev pub resources_available : ℕ
resources_available = 0x0000000F

abbrev pub no_resources : ℕ
no_resources = 0x0000000E

-- the kind of a Notification, by its Status
abbrev pub status_kinds : List (ℕ × Kind)
status_kinds = (resources_available, Kind.ResourcesAvailable) ∷ (no_resources, Kind.NoResources) ∷ []

unfoldable pub notification_kind : Option ℕ → Kind
notification_kind None = Kind.NoKind
notification_kind (Some v) = pick (fatal_of v) Kind.NoKind (lookup Kind.NoKind status_kinds (status_code v))

-- an Abort names the Request that it takes back; without that ID it is malformed and has no kind
abbrev pub abort_kind : Option MessageId → Kind
abort_kind None = Kind.NoKind
abort_kind (Some id) = Kind.Abort id

-- by the type, the Status, the message's own ID and the one that it names
abbrev pub kind_for : MessageType → Option ℕ → MessageId → Option MessageId → Kind
kind_for MessageType.Notification status id requestid = notification_kind status
kind_for MessageType.Initialization status id requestid = Kind.NoKind
kind_for MessageType.KeepAlive status id requestid = Kind.NoKind
kind_for MessageType.Address status id requestid = Kind.Address
kind_for MessageType.AddressWithdraw status id requestid = Kind.AddressWithdraw
kind_for MessageType.Mapping status id requestid = Kind.Mapping
kind_for MessageType.Request status id requestid = Kind.Request id
kind_for MessageType.Withdraw status id requestid = Kind.Withdraw
kind_for MessageType.Release status id requestid = Kind.Release
kind_for MessageType.Abort status id requestid = abort_kind requestid
kind_for MessageType.Other status id requestid = Kind.NoKind

unfoldable pub kind_of : Message → Kind
kind_of g = kind_for g.typename g.status g.id g.requestid
