-- KeepAlive: "KeepAlive (UpFT, UpPlain) carries FT ACK in UpFT, 16 bytes, and none in UpPlain, 8 bytes." Answers: 1, 9.
use Rattle.std.specs.Prelude.{Option, Some, None, ℕ, List}
use Rattle.ft_number.specs.declared.FtNumber.{FtNumber}
use Rattle.ft_number.specs.declared.MessageId.{MessageId}
use Rattle.message_writer.specs.Forms.{keepalive_bytes}
use Rattle.protocol.specs.declared.Phase.{Phase}
use Rattle.protocol.specs.Phases.{is_up}
use Rattle.protocol.specs.State.{State}
use Rattle.protocol.specs.Step.{Step}
use Rattle.protocol.specs.Writer.{writer}

-- the ACK that it bears: S, in UpFT alone
abbrev pub alive_ack : Phase → FtNumber → Option FtNumber
alive_ack Phase.Idle secured = None
alive_ack (Phase.InitWait v) secured = None
alive_ack (Phase.UpFT u) secured = Some secured
alive_ack Phase.UpPlain secured = None
alive_ack Phase.Failed secured = None

abbrev pub alive_bytes : State → Phase → MessageId → List ℕ
alive_bytes s ph id = keepalive_bytes id (alive_ack ph s.secured)

unfoldable pub keepalive : State → Phase → MessageId → ℕ → Step
keepalive s ph id room = writer s ph (is_up ph) ph (alive_bytes s ph id) room
