-- Open: "Open (Idle, Failed): writes Init, R = kept, ACK = S." Answers: 1, 9.
use Rattle.std.specs.Prelude.{Option, Some, None, ℕ, List}
use Rattle.octets.specs.Pick.{pick}
use Rattle.ft_number.specs.declared.FtNumber.{FtNumber}
use Rattle.ft_number.specs.declared.MessageId.{MessageId}
use Rattle.ft_number.specs.declared.Proposal.{Proposal}
use Rattle.ft_number.specs.Timeout.{millis_of, proposed_of}
use Rattle.message_writer.specs.declared.OwnParameters.{OwnParameters}
use Rattle.message_writer.specs.Forms.{init_bytes}
use Rattle.protocol.specs.declared.Phase.{Phase}
use Rattle.protocol.specs.Phases.{may_open, waiting_for}
use Rattle.protocol.specs.State.{State}
use Rattle.protocol.specs.Step.{Step}
use Rattle.protocol.specs.Writer.{writer}

-- "Our Init: parameters .., FT Session, then FT ACK if R is 1": with kept state R is set, and the ACK is S; without, R is clear and no ACK is borne
unfoldable pub kept_ack : State → Option FtNumber
kept_ack s = pick s.kept (Some s.secured) None

abbrev pub open_bytes : State → MessageId → OwnParameters → Proposal → List ℕ
open_bytes s id p t = init_bytes id p (proposed_of t) (kept_ack s)

-- then the peer's Init is awaited; the phase bears our proposed timeout. 02: the form is this call's alone: "the session writes the one its owner names, in whose unit it proposes"
abbrev pub awaiting : Proposal → Phase
awaiting t = waiting_for (millis_of (proposed_of t))

unfoldable pub open_session : State → Phase → MessageId → OwnParameters → Proposal → ℕ → Step
open_session s ph id p t room = writer s ph (may_open ph) (awaiting t) (open_bytes s id p t) room
