-- Open and KeepAlive on an image: the messages that a session writes of its own, by the protocol's steps. They leave what the image stands for.
use Rattle.std.specs.Prelude.{ℕ, List, length}
use Rattle.ft_number.specs.declared.MessageId.{MessageId}
use Rattle.ft_number.specs.declared.Proposal.{Proposal}
use Rattle.message_writer.specs.declared.OwnParameters.{OwnParameters}
use Rattle.protocol.specs.declared.Phase.{Phase}
use Rattle.protocol.specs.KeepAlive.{keepalive}
use Rattle.protocol.specs.Open.{open_session}
use Rattle.calls.specs.Outcomes.{After, call_of}
use Rattle.calls.specs.State.{state_of}
use Rattle.calls.specs.Storing.{same, stay}

-- "Open (Idle, Failed): writes Init, R = kept, ACK = S."
unfoldable pub open_of : List ℕ → Phase → MessageId → OwnParameters → Proposal → List ℕ → After
open_of im ph id p t out = call_of im ph out stay same (open_session (state_of im) ph id p t (length out))

-- "KeepAlive (UpFT, UpPlain) carries FT ACK in UpFT, 16 bytes, and none in UpPlain, 8 bytes."
unfoldable pub keepalive_of : List ℕ → Phase → MessageId → List ℕ → After
keepalive_of im ph id out = call_of im ph out stay same (keepalive (state_of im) ph id (length out))
