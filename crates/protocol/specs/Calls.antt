-- The ten calls as one function: what each makes of the state and the phase, what it answers and what it writes.
use Rattle.std.specs.Prelude.{ℕ, Bool, List}
use Rattle.ft_number.specs.declared.MessageId.{MessageId}
use Rattle.ft_number.specs.declared.Proposal.{Proposal}
use Rattle.message_writer.specs.declared.OwnParameters.{OwnParameters}
use Rattle.protocol.specs.declared.Phase.{Phase}
use Rattle.protocol.specs.Begin.{format, restore}
use Rattle.protocol.specs.ConnectionFailed.{connection_failed}
use Rattle.protocol.specs.Init.{init_received}
use Rattle.protocol.specs.KeepAlive.{keepalive}
use Rattle.protocol.specs.Open.{open_session}
use Rattle.protocol.specs.Receive.{receive}
use Rattle.protocol.specs.Send.{send_next}
use Rattle.protocol.specs.State.{State}
use Rattle.protocol.specs.Step.{Step}
use Rattle.protocol.specs.Submit.{submit}
use Rattle.protocol.specs.TimePassed.{time_passed}

-- a call and what its owner gives it beside the room for its output
pub data Call : Type 0 where
  formats restores fails : Call
  opens : MessageId → OwnParameters → Proposal → Call
  greets : List ℕ → Call
  passes : ℕ → Call
  submits : List ℕ → Call
  sends : Bool → Call
  keeps-alive : MessageId → Call
  receives : List ℕ → Call

-- the last number is that room: so many bytes are lent for the output
unfoldable pub step : Call → State → Phase → ℕ → Step
step formats s ph room = format
step restores s ph room = restore s
step (opens id own proposal) s ph room = open_session s ph id own proposal room
step (greets m) s ph room = init_received s ph m
step fails s ph room = connection_failed s ph
step (passes elapsed) s ph room = time_passed s ph elapsed
step (submits m) s ph room = submit s ph m
step (sends ask) s ph room = send_next s ph ask room
step (keeps-alive id) s ph room = keepalive s ph id room
step (receives m) s ph room = receive s ph m
