-- What the messages that we write are read back as.
use Rattle.std.specs.Prelude.{Option, Some, None, ℕ, ◌+◌, ◌^◌, ◌<◌, Bool, true, false}
use Rattle.ft_number.specs.declared.FtNumber.{FtNumber}
use Rattle.ft_number.specs.declared.MessageId.{MessageId}
use Rattle.ft_number.specs.declared.Timeout.{Timeout}
use Rattle.ft_number.specs.Timeout.{TimeoutFits}
use Rattle.tlv.specs.declared.Found.{Found}
use Rattle.tlv.specs.declared.Parameters.{Parameters}
use Rattle.tlv.specs.declared.Part.{Part}
use Rattle.tlv.specs.declared.Session.{Session}
use Rattle.tlv.specs.declared.walk.Tlv.{Tlv}
use Rattle.tlv.specs.Walk.{none_found, placed_of, head_size}
use Rattle.message.specs.declared.Message.{Message}
use Rattle.message.specs.declared.MessageType.{MessageType}
use Rattle.message.specs.Reading.{initialization_type, keepalive_type}
use Rattle.message_writer.specs.declared.OwnParameters.{OwnParameters}
use Rattle.message_writer.specs.Forms.{session_end}

-- an ACK that is given has 32 bits
abbrev pub AckFits : Option FtNumber → Type 0
AckFits None = Unit {0}
AckFits (Some a) = a.0 < 256 ^ 4

-- each value of an Init has its width
pub record InitFits (m : MessageId) (p : OwnParameters) (t : Timeout) (a : Option FtNumber) : Type 0 where
  pub id : m.0 < 256 ^ 4
  pub keepalive : p.keepalive < 256 ^ 2
  pub pdulength : p.pdulength < 256 ^ 2
  pub timeout : TimeoutFits t
  pub ack : AckFits a

-- the places with those of FT Protection and FT ACK
abbrev pub ft_places : Found → ℕ → ℕ → Found
ft_places f protection ack = placed_of (placed_of f Tlv.Protection protection) Tlv.Ack ack

-- a message of `size` bytes has FT Protection at its end; FT ACK, where one is given, behind that
abbrev pub protected_places : Found → ℕ → Option FtNumber → Found
protected_places f size None = ft_places f size 0
protected_places f size (Some a) = ft_places f size (size + 8)

-- the message g with other places, FT Protection and FT ACK: all else is as it was
abbrev pub with_ft : Message → Found → Option FtNumber → Option FtNumber → Message
with_ft g found protection ack = record {
  typename = g.typename;
  typenumber = g.typenumber;
  id = g.id;
  found = found;
  fec = g.fec;
  fecvalue = g.fecvalue;
  label = g.label;
  status = g.status;
  parameters = g.parameters;
  parametersvalue = g.parametersvalue;
  session = g.session;
  protection = protection;
  ack = ack;
  requestid = g.requestid;
  statusid = g.statusid;
}

-- the message g, of `size` bytes, with the number n and an ACK
abbrev pub protected_message : Message → ℕ → FtNumber → Option FtNumber → Message
protected_message g size n ack = with_ft g (protected_places g.found size ack) (Some n) ack

-- a message with none of the other TLVs
abbrev pub own_message : MessageType → ℕ → MessageId → Found → Option Parameters → Part → Option Session → Option FtNumber → Message
own_message type number id found parameters value session ack = record {
  typename = type;
  typenumber = number;
  id = id;
  found = found;
  fec = None;
  fecvalue = record { start = 0; end = 0 };
  label = None;
  status = None;
  parameters = parameters;
  parametersvalue = value;
  session = session;
  protection = None;
  ack = ack;
  requestid = None;
  statusid = None;
}

-- the places with that of FT ACK, where one is given
abbrev pub ack_places : Found → ℕ → Option FtNumber → Found
ack_places f at None = f
ack_places f at (Some a) = placed_of f Tlv.Ack at

-- R is set where there is an ACK
abbrev pub reconnects : Option FtNumber → Bool
reconnects None = false
reconnects (Some a) = true

abbrev pub init_message : MessageId → OwnParameters → Timeout → Option FtNumber → Message
init_message id p t ack =
    own_message MessageType.Initialization initialization_type id
    (ack_places (placed_of (placed_of none_found Tlv.Parameters head_size) Tlv.Session 26) (session_end t) ack)
    (Some (record { keepalive = p.keepalive; pdulength = p.pdulength })) (record { start = 12; end = 26 }) (Some (record { reconnect = (reconnects ack); timeout = t })) ack

abbrev pub keepalive_message : MessageId → Option FtNumber → Message
keepalive_message id ack =
    own_message MessageType.KeepAlive keepalive_type id (ack_places none_found head_size ack) None (record { start = 0; end = 0 }) None ack
