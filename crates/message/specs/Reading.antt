-- What a message is: malformed, or its type, its message ID and what its TLVs say.
-- 01: "Message: U bit and type (2), length (2, bytes after it), message ID (4), TLVs."
use Rattle.std.specs.Prelude.{Option, Some, None, ℕ, ◌%◌, Bool, true, not, List, [], ◌∷◌, eqb}
use Rattle.octets.specs.Be.{be_at}
use Rattle.octets.specs.Pick.{pick, both}
use Rattle.ft_number.specs.declared.MessageId.{MessageId}
use Rattle.tlv.specs.declared.Found.{Found}
use Rattle.tlv.specs.Table.{lookup}
use Rattle.tlv.specs.Value.{part_at, fec_at, field_at, number_at, id_at, parameters_at, session_at}
use Rattle.tlv.specs.Walk.{tlvs_of}
use Rattle.message.specs.declared.Message.{Message}
use Rattle.message.specs.declared.MessageType.{MessageType}

-- 01: "Types: Notification 0x0001, Initialization 0x0200, KeepAlive 0x0201, Address 0x0300, Address Withdraw 0x0301, Mapping 0x0400,
-- Request 0x0401, Withdraw 0x0402, Release 0x0403, Abort 0x0404."
abbrev pub notification_type : ℕ
notification_type = 0x0001

abbrev pub initialization_type : ℕ
initialization_type = 0x0200

abbrev pub keepalive_type : ℕ
keepalive_type = 0x0201

abbrev pub address_type : ℕ
address_type = 0x0300

abbrev pub address_withdraw_type : ℕ
address_withdraw_type = 0x0301

abbrev pub mapping_type : ℕ
mapping_type = 0x0400

abbrev pub request_type : ℕ
request_type = 0x0401

abbrev pub withdraw_type : ℕ
withdraw_type = 0x0402

abbrev pub release_type : ℕ
release_type = 0x0403

abbrev pub abort_type : ℕ
abort_type = 0x0404

abbrev pub types : List (ℕ × MessageType)
types =
    (notification_type, MessageType.Notification)
    ∷ (initialization_type, MessageType.Initialization)
    ∷ (keepalive_type, MessageType.KeepAlive)
    ∷ (address_type, MessageType.Address)
    ∷ (address_withdraw_type, MessageType.AddressWithdraw)
    ∷ (mapping_type, MessageType.Mapping)
    ∷ (request_type, MessageType.Request)
    ∷ (withdraw_type, MessageType.Withdraw)
    ∷ (release_type, MessageType.Release)
    ∷ (abort_type, MessageType.Abort)
    ∷ []

unfoldable pub type_of : ℕ → MessageType
type_of n = lookup MessageType.Other types n

-- "U bit and type (2)": the numbers below this one; U is the bit above
abbrev pub message_type_range : ℕ
message_type_range = 32768

-- the type's number: "a message's U .. ignored"
abbrev pub number_in : List ℕ → ℕ
number_in m = be_at 2 m 0 % message_type_range

abbrev pub id_in : List ℕ → MessageId
id_in m = record { 0 = be_at 4 m 4 }

-- 01: "Malformed: .. Mapping without FEC or label; Withdraw or Release without FEC"; 02: "malformed also Request and Abort without FEC, Abort without 0x0600":
-- what a type must bear, by whether FEC, label and Label Request Message ID stand
abbrev pub bears_by : MessageType → Bool → Bool → Bool → Bool
bears_by MessageType.Notification fec label requestid = true
bears_by MessageType.Initialization fec label requestid = true
bears_by MessageType.KeepAlive fec label requestid = true
bears_by MessageType.Address fec label requestid = true
bears_by MessageType.AddressWithdraw fec label requestid = true
bears_by MessageType.Mapping fec label requestid = both fec label
bears_by MessageType.Request fec label requestid = fec
bears_by MessageType.Withdraw fec label requestid = fec
bears_by MessageType.Release fec label requestid = fec
bears_by MessageType.Abort fec label requestid = both fec requestid
bears_by MessageType.Other fec label requestid = true

abbrev pub bears_of : MessageType → Found → Bool
bears_of t f = bears_by t (not (eqb f.fec 0)) (not (eqb f.label 0)) (not (eqb f.requestid 0))

-- where the TLVs of a well-formed message stand
abbrev pub places_by : List ℕ → Option Found → Option Found
places_by m None = None
places_by m (Some f) = pick (not (bears_of (type_of (number_in m)) f)) None (Some f)

unfoldable pub places_of : List ℕ → Option Found
places_of m = places_by m (tlvs_of m)

-- the message m, whose TLVs were found at the places f
unfoldable pub message_of : List ℕ → Found → Message
message_of m f = record {
  typename = type_of (number_in m);
  typenumber = number_in m;
  id = id_in m;
  found = f;
  fec = fec_at m f.fec;
  fecvalue = part_at m f.fec;
  label = field_at m f.label;
  status = field_at m f.status;
  parameters = parameters_at m f.parameters;
  parametersvalue = part_at m f.parameters;
  session = session_at m f.session;
  protection = number_at m f.protection;
  ack = number_at m f.ack;
  requestid = id_at m f.requestid 0;
  statusid = id_at m f.status 4;
}

-- the message read at the places of its TLVs
abbrev pub reading_by : List ℕ → Option Found → Option Message
reading_by m None = None
reading_by m (Some f) = Some (message_of m f)

unfoldable pub reading_of : List ℕ → Option Message
reading_of m = reading_by m (places_of m)
