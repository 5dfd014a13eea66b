-- 01's marked cases, P1 to P12, as one list: "Proved together, as one list and one theorem". Each entry is a definition that the shipped contracts
-- cite, applied to the paper's values, beside the paper's result.
use Rattle.std.specs.Prelude.{Option, Some, None, ℤ, ℕ, Bool, List, [], ◌∷◌, map, pos, neg_ℤ, replicate}
use Rattle.octets.specs.Be.{bytes}
use Rattle.block.specs.Check.{check_at, check_of}
use Rattle.ft_number.specs.declared.Timeout.{Timeout}
use Rattle.ft_number.specs.Distance.{distance_of}
use Rattle.ft_number.specs.Timeout.{lesser_of, millis_of}
use Rattle.message.specs.declared.Message.{Message}
use Rattle.message_writer.specs.Forms.{session_tlv, ft_tlvs}
use Rattle.protocol.specs.Answers.{answer_number}
use Rattle.protocol.specs.Receive.{ack_on, ack_rule}
use Rattle.protocol.specs.State.{State, with_released, with_issued}

-- what a case is about
pub data Result : Type 0 where
  millis : ℕ → Result
  acknowledges : Option ℕ → Result
  answers : ℕ → Result
  lies : Option ℤ → Result
  octets : List ℕ → Result

pub record Marked : Type 0 where
  pub defined : Result
  pub paper : Result

abbrev case : Result → Result → Marked
case d p = record { defined = d; paper = p }

-- "R=0xFFFFFFFE, I=1", whatever else the state is
abbrev between : State → State
between s = with_issued (with_released s (record { 0 = 0xFFFFFFFE })) (record { 0 = 1 })

-- a message that acknowledges a, whatever else it bears
abbrev bearing : Message → ℕ → Message
bearing g a = record {
  typename = g.typename;
  typenumber = g.typenumber;
  id = g.id;
  found = g.found;
  fec = g.fec;
  fecvalue = g.fecvalue;
  label = g.label;
  status = g.status;
  parameters = g.parameters;
  parametersvalue = g.parametersvalue;
  session = g.session;
  protection = g.protection;
  ack = Some (record { 0 = a });
  requestid = g.requestid;
  statusid = g.statusid;
}

-- what acknowledging a does, and how a message is answered that is judged by its ACK, whether the connection is resumed or not
abbrev acks : State → Message → ℕ → Option ℕ
acks s g a = ack_on (between s) (bearing g a)

abbrev answered : State → Bool → Message → ℕ → ℕ
answered s resumed g a = answer_number (ack_rule (between s) resumed (bearing g a) (acks s g a))

-- the timeout that two proposals agree on
abbrev agreed : Timeout → Timeout → Result
agreed a b = millis (lesser_of (millis_of a) (millis_of b))

abbrev pub cases : State → Bool → Message → List Marked
cases s resumed g =
    -- P1 to P3: "lesser of 0 and 5 is 5; 0 and 0 is 0; 65,535 and 0 is 65,535", in seconds, the draft's form
    case (agreed (Timeout.Seconds 0) (Timeout.Seconds 5)) (millis (millis_of (Timeout.Seconds 5)))
    ∷ case (agreed (Timeout.Seconds 0) (Timeout.Seconds 0)) (millis (millis_of (Timeout.Seconds 0)))
    ∷ case (agreed (Timeout.Seconds 65535) (Timeout.Seconds 0)) (millis (millis_of (Timeout.Seconds 65535)))
    -- P4 to P7: "ACK 1 releases 2; ACK 0 is 34; ACK 2 is 34; ACK 0xFFFFFFFE releases none"
    ∷ case (acknowledges (acks s g 1)) (acknowledges (Some 2))
    ∷ case (answers (answered s resumed g 0)) (answers 34)
    ∷ case (answers (answered s resumed g 2)) (answers 34)
    ∷ case (acknowledges (acks s g 0xFFFFFFFE)) (acknowledges (Some 0))
    -- P8, P9: "Distance 0xFFFFFFFF to 1 is 1; 1 to 0x80000001 is -2,147,483,647"
    ∷ case (lies (distance_of 0xFFFFFFFF 1)) (lies (Some (pos 1)))
    ∷ case (lies (distance_of 1 0x80000001)) (lies (Some (neg_ℤ (pos 2147483647))))
    -- P10: "R set, 5 s: 85 03 00 04 80 00 00 05", the draft's form; R is set where our Init bears an ACK
    ∷ case (octets (session_tlv (Some (record { 0 = 1 })) (Timeout.Seconds 5))) (octets (0x85 ∷ 0x03 ∷ 0x00 ∷ 0x04 ∷ 0x80 ∷ 0x00 ∷ 0x00 ∷ 0x05 ∷ []))
    -- P11: "Number 27: 02 03 00 04 00 00 00 1B"
    ∷ case (octets (ft_tlvs (record { 0 = 27 }) None)) (octets (0x02 ∷ 0x03 ∷ 0x00 ∷ 0x04 ∷ 0x00 ∷ 0x00 ∷ 0x00 ∷ 0x1B ∷ []))
    -- P12: "Check of a zero block: 00 01 00 FE"
    ∷ case (octets (bytes 4 (check_of (replicate check_at 0)))) (octets (0x00 ∷ 0x01 ∷ 0x00 ∷ 0xFE ∷ []))
    ∷ []

-- what the definitions say, and what the paper says, case by case
abbrev pub defined : List Marked → List Result
defined cs = map (λ (c : Marked). c.defined) cs

abbrev pub paper : List Marked → List Result
paper cs = map (λ (c : Marked). c.paper) cs
