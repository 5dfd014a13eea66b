-- The peer's Init, how it is judged and what begins with it. Answers: 1, 22, 23, 35, 34.
-- 01: "Peer's Init: no FT Session, state released, UpPlain; both R set and parameters equal, ACK applied, UpFT; a zero R on either side, state released, then
-- fresh UpFT, kept 1, peer's parameters stored. Equal means the two stored ones; of the peer's parameters only these are read. 35 and 34 arise only with both R
-- set; FT ACK on an Init with R clear, and FT Protection on any Init, are ignored. Resumed or fresh, the agreed timeout is the lesser of both, zero counting as infinite".
use Rattle.std.specs.Prelude.{Option, Some, None, Result, Ok, Err, ℕ, Bool, true, false, not, List, [], eqb}
use Rattle.octets.specs.Pick.{pick, both}
use Rattle.ft_number.specs.declared.FtNumber.{FtNumber}
use Rattle.ft_number.specs.declared.Timeout.{Timeout}
use Rattle.ft_number.specs.Ack.{ack_of}
use Rattle.ft_number.specs.Timeout.{lesser_of, millis_of}
use Rattle.tlv.specs.declared.Parameters.{Parameters}
use Rattle.tlv.specs.declared.Session.{Session}
use Rattle.message.specs.declared.Message.{Message}
use Rattle.message.specs.Reading.{reading_of}
use Rattle.protocol.specs.declared.Answer.{Answer}
use Rattle.protocol.specs.declared.Phase.{Phase}
use Rattle.protocol.specs.declared.Start.{Start}
use Rattle.protocol.specs.declared.Terms.{Terms}
use Rattle.protocol.specs.Acked.{acked}
use Rattle.protocol.specs.Phases.{up_with, awaits, proposal_of}
use Rattle.protocol.specs.Received.{is_init}
use Rattle.protocol.specs.State.{State, kept_by, released_state, with_timeout}
use Rattle.protocol.specs.Step.{Step, admitted, settle, stepped, where_open}

-- what both ends keep of the two Inits: the lesser timeout, in milliseconds whatever the form of the peer's FT Session, and the peer's two parameters
abbrev pub terms_of : ℕ → Timeout → ℕ → ℕ → Terms
terms_of proposed peers ka mp = record { timeout = lesser_of proposed (millis_of peers); keepalive = ka; maxpdu = mp }

-- "34: ACK sequence error"
abbrev pub resumed_by : Terms → ℕ → Option ℕ → Result Start Answer
resumed_by t a (Some k) = Ok (Start.Resumed t k (record { 0 = a }))
resumed_by t a None = Err Answer.AckSequenceError

abbrev pub start_answer : Result Start Answer → Answer
start_answer (Err a) = a
start_answer (Ok start) = Answer.Done

-- the phase of a session that begins
abbrev pub begun_phase : Start → Phase
begun_phase Start.Plain = Phase.UpPlain
begun_phase (Start.Fresh t) = up_with false 0
begun_phase (Start.Resumed t k a) = up_with true 0

-- where a session begins
abbrev pub start_phase : Phase → Result Start Answer → Phase
start_phase ph (Err a) = ph
start_phase ph (Ok start) = begun_phase start

-- "Equal means the two stored ones"
abbrev pub equal_parameters : Terms → Terms → Bool
equal_parameters stored t = both (eqb stored.keepalive t.keepalive) (eqb stored.maxpdu t.maxpdu)

-- both R set: "35: parameters changed"
unfoldable pub both_set : State → Terms → ℕ → Result Start Answer
both_set s t a =
    pick (not (equal_parameters s.terms t)) (Err Answer.ParametersChanged)
    (resumed_by t a (ack_of s.released.0 s.issued.0 a))

-- the peer's R set, ours where the state is kept: "23: .. R set without ACK"
abbrev pub peer_set : State → Terms → Option FtNumber → Result Start Answer
peer_set s t None = Err Answer.BadInit
peer_set s t (Some a) = pick s.kept (both_set s t a.0) (Ok (Start.Fresh t))

-- with our proposed timeout, the peer's KeepAlive time and maximum PDU length, its FT ACK and its FT Session: R and its own proposal
abbrev pub session_start : State → ℕ → ℕ → ℕ → Option FtNumber → Option Session → Result Start Answer
session_start s proposed ka mp ack None = Ok Start.Plain
session_start s proposed ka mp ack (Some x) =
    pick x.reconnect (peer_set s (terms_of proposed x.timeout ka mp) ack) (Ok (Start.Fresh (terms_of proposed x.timeout ka mp)))

-- "23: Init without parameters"
abbrev pub parameters_start : State → ℕ → Option FtNumber → Option Session → Option Parameters → Result Start Answer
parameters_start s proposed ack session None = Err Answer.BadInit
parameters_start s proposed ack session (Some x) = session_start s proposed x.keepalive x.pdulength ack session

-- "22: malformed received"; "An Init call given another type is 22"
unfoldable pub start_of : State → ℕ → Option Message → Result Start Answer
start_of s proposed None = Err Answer.MalformedReceived
start_of s proposed (Some g) =
    pick (not (is_init g.typename)) (Err Answer.MalformedReceived) (parameters_start s proposed g.ack g.session g.parameters)

-- "state released, then fresh UpFT, kept 1, peer's parameters stored"
unfoldable pub fresh : Terms → State
fresh t = kept_by released_state t

-- "ACK applied, UpFT": k messages are released by the acknowledgement of a, and the timeout is the newly agreed one
unfoldable pub resumed : State → Terms → ℕ → ℕ → State
resumed s t k a = with_timeout (acked s k a) t.timeout

-- "no FT Session, state released"
abbrev pub start_state : State → Result Start Answer → State
start_state s (Err a) = s
start_state s (Ok Start.Plain) = released_state
start_state s (Ok (Start.Fresh t)) = fresh t
start_state s (Ok (Start.Resumed t k a)) = resumed s t k a.0

abbrev pub init_start : State → Phase → List ℕ → Result Start Answer
init_start s ph m = start_of s (proposal_of ph) (reading_of m)

abbrev pub init_rule : State → Phase → List ℕ → Answer
init_rule s ph m = where_open (awaits ph) (start_answer (init_start s ph m))

abbrev pub init_deed : State → Phase → List ℕ → Step
init_deed s ph m = stepped Answer.Done (start_state s (init_start s ph m)) (start_phase ph (init_start s ph m)) []

unfoldable pub init_received : State → Phase → List ℕ → Step
init_received s ph m = settle (admitted s ph (init_rule s ph m)) s ph (init_deed s ph m)
