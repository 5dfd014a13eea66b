-- A PDU and a message as numbers.
use Rattle.std.specs.Prelude.{Option, Some, None, ℕ, ◌+◌, ◌≤◌, eqb, ltb}
use Rattle.octets.specs.Pick.{pick}
use Rattle.ft_number.specs.declared.FtNumber.{FtNumber}
use Rattle.ft_number.specs.declared.MessageId.{MessageId}
use Rattle.ft_number.specs.declared.Timeout.{Timeout}
use Rattle.pdu.specs.declared.Place.{Place}
use Rattle.pdu.specs.Pdu.{opened_number, place_number}
use Rattle.tlv.specs.declared.Found.{Found}
use Rattle.tlv.specs.declared.Parameters.{Parameters}
use Rattle.tlv.specs.declared.Session.{Session}
use Rattle.message.specs.declared.Message.{Message}
use Rattle.message.specs.Kinds.{kind_of, kind_number}
use Rattle.protocol.specs.declared.Answer.{Answer}
use Rattle.protocol.specs.Answers.{answer_number}
use Rattle.message_numbers.specs.declared.MessageNumbers.{MessageNumbers}
use Rattle.message_numbers.specs.declared.PartNumbers.{PartNumbers}
use Rattle.message_numbers.specs.declared.PduNumbers.{PduNumbers}

-- "0 or 4; number of messages"
abbrev pub pdu_numbers : Option ℕ → PduNumbers
pdu_numbers (Some count) = record { answer = opened_number (Some count); count = count }
pdu_numbers None = record { answer = opened_number None; count = 0 }

-- no part: why, and "start and end 0 then"
abbrev pub no_part_for : ℕ → PartNumbers
no_part_for answer = record { answer = answer; start = 0; end = 0 }

-- "4, 0, 0 where none does"; so too where 32 bits do not name the place, which no PDU reaches: it has 65,539 bytes at most
abbrev pub no_part : PartNumbers
no_part = no_part_for (place_number None)

abbrev pub part_of : ℕ → ℕ → PartNumbers
part_of start end = pick (ltb 4294967295 end) no_part (record { answer = place_number (Some (record { start = start; end = end })); start = start; end = end })

abbrev pub part_numbers : Option Place → PartNumbers
part_numbers (Some place) = part_of place.start place.end
part_numbers None = no_part

-- "1 FEC, 2 label, 4 status, 8 parameters, 16 FT Session, 32 FT Protection, 64 FT ACK", and 128 Label Request Message ID; a TLV that does not stand has place 0
abbrev pub borne : ℕ → ℕ → ℕ
borne place bit = pick (eqb place 0) 0 bit

abbrev pub has_of : Found → ℕ
has_of f =
    borne f.fec 1 + borne f.label 2 + borne f.status 4 + borne f.parameters 8 + borne f.session 16 + borne f.protection 32 + borne f.ack 64
    + borne f.requestid 128

-- "0 where not borne"
abbrev pub field_number : Option ℕ → ℕ
field_number None = 0
field_number (Some v) = v

abbrev pub ft_number : Option FtNumber → ℕ
ft_number None = 0
ft_number (Some n) = n.0

abbrev pub id_number : Option MessageId → ℕ
id_number None = 0
id_number (Some id) = id.0

-- "FT Session: R", and its timeout in the unit of its form
abbrev pub reconnect_of : Option Session → ℕ
reconnect_of None = 0
reconnect_of (Some session) = pick session.reconnect 1 0

abbrev pub timeout_count : Timeout → ℕ
timeout_count (Timeout.Seconds n) = n
timeout_count (Timeout.Milliseconds n) = n

abbrev pub timeout_in : Option Session → ℕ
timeout_in None = 0
timeout_in (Some session) = timeout_count session.timeout

-- "1: FT Session has 12 bytes and `timeout` is milliseconds; 0: it has 4 and `timeout` is seconds, or there is none"
abbrev pub published_by : Timeout → ℕ
published_by (Timeout.Seconds n) = 0
published_by (Timeout.Milliseconds n) = 1

abbrev pub published_in : Option Session → ℕ
published_in None = 0
published_in (Some session) = published_by session.timeout

abbrev pub keepalive_in : Option Parameters → ℕ
keepalive_in None = 0
keepalive_in (Some parameters) = parameters.keepalive

abbrev pub maxpdu_in : Option Parameters → ℕ
maxpdu_in None = 0
maxpdu_in (Some parameters) = parameters.pdulength

-- a message whose parts have 32 bits: a message has 65,539 bytes at most
pub record NarrowMessage (g : Message) : Type 0 where
  pub start : g.fecvalue.start ≤ 65539
  pub end : g.fecvalue.end ≤ 65539

-- "22 where malformed; then all else is 0"
abbrev pub no_message : MessageNumbers
no_message = record {
  answer = answer_number Answer.MalformedReceived;
  typenumber = 0;
  id = 0;
  kind = 0;
  has = 0;
  fecstart = 0;
  fecend = 0;
  label = 0;
  status = 0;
  number = 0;
  ack = 0;
  reconnect = 0;
  timeout = 0;
  keepalive = 0;
  maxpdu = 0;
  requestid = 0;
  statusid = 0;
  published = 0;
}

unfoldable pub whole_message : Message → MessageNumbers
whole_message g = record {
  answer = answer_number Answer.Done;
  typenumber = g.typenumber;
  id = g.id.0;
  kind = kind_number (kind_of g);
  has = has_of g.found;
  fecstart = g.fecvalue.start;
  fecend = g.fecvalue.end;
  label = field_number g.label;
  status = field_number g.status;
  number = ft_number g.protection;
  ack = ft_number g.ack;
  reconnect = reconnect_of g.session;
  timeout = timeout_in g.session;
  keepalive = keepalive_in g.parameters;
  maxpdu = maxpdu_in g.parameters;
  requestid = id_number g.requestid;
  statusid = id_number g.statusid;
  published = published_in g.session;
}

abbrev pub message_numbers : Option Message → MessageNumbers
message_numbers None = no_message
message_numbers (Some g) = whole_message g
