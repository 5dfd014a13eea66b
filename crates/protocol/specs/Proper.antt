-- What the code's types say of a call's input: a message that is read is bytes, and a proposed timeout has 16 bits.
use Rattle.std.specs.Prelude.{◌<◌}
use Rattle.octets.specs.Bytes.{Bytes}
use Rattle.protocol.specs.declared.Phase.{Phase}
use Rattle.protocol.specs.Calls.{Call, formats, restores, fails, opens, greets, passes, submits, sends, keeps-alive, receives}
use Rattle.protocol.specs.Phases.{proposal_of}

abbrev pub Proper : Call → Phase → Type 0
Proper formats ph = Unit {0}
Proper restores ph = Unit {0}
Proper fails ph = Unit {0}
Proper (opens id own proposal) ph = Unit {0}
Proper (greets m) ph = Bytes m × (proposal_of ph < 4294967296)
Proper (passes elapsed) ph = Unit {0}
Proper (submits m) ph = Bytes m
Proper (sends ask) ph = Unit {0}
Proper (keeps-alive id) ph = Unit {0}
Proper (receives m) ph = Bytes m
