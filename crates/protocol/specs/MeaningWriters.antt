-- What Open and KeepAlive write, as the peer reads it.
use Rattle.std.specs.Prelude.{Option, Some, ℕ, ◌<◌, ◌^◌, ◌≡◌, length}
use Rattle.ft_number.specs.declared.FtNumber.{FtNumber}
use Rattle.ft_number.specs.declared.MessageId.{MessageId}
use Rattle.ft_number.specs.declared.Proposal.{Proposal}
use Rattle.ft_number.specs.Timeout.{proposed_of}
use Rattle.message.specs.Reading.{reading_of}
use Rattle.message_writer.specs.declared.OwnParameters.{OwnParameters}
use Rattle.message_writer.specs.ReadBack.{AckFits, InitFits, init_message, keepalive_message}
use Rattle.protocol.specs.declared.Answer.{Answer}
use Rattle.protocol.specs.declared.Phase.{Phase}
use Rattle.protocol.specs.Open.{awaiting}
use Rattle.protocol.specs.State.{State}
use Rattle.protocol.specs.Step.{Step}

-- "writes Init, R = kept, ACK = S": R is set exactly where the Init bears an ACK
pub record OpenedFrom (s : State) (id : MessageId) (own : OwnParameters) (proposal : Proposal) (ack : Option FtNumber) (x : Step) : Type 0 where
  pub answer : x.answer ≡ Answer.Done
  pub state : x.state ≡ s
  -- "it bears our proposed timeout"
  pub phase : x.phase ≡ awaiting proposal
  pub reads : InitFits id own (proposed_of proposal) ack → reading_of x.output ≡ Some (init_message id own (proposed_of proposal) ack)

-- "carries FT ACK in UpFT, 16 bytes, and none in UpPlain, 8 bytes"
pub record AliveFrom (s : State) (ph : Phase) (id : MessageId) (ack : Option FtNumber) (count : ℕ) (x : Step) : Type 0 where
  pub answer : x.answer ≡ Answer.Done
  pub state : x.state ≡ s
  pub phase : x.phase ≡ ph
  pub size : length x.output ≡ count
  pub reads : id.0 < 256 ^ 4 → AckFits ack → reading_of x.output ≡ Some (keepalive_message id ack)
