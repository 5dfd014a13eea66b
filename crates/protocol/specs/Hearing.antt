-- The calls that a message of the peer's is given to: no other call fails the connection or releases the state by its answer.
use Rattle.std.specs.Prelude.{Bool, true, false}
use Rattle.protocol.specs.Calls.{Call, formats, restores, fails, opens, greets, passes, submits, sends, keeps-alive, receives}

abbrev pub hears : Call → Bool
hears formats = false
hears restores = false
hears fails = false
hears (opens id own proposal) = false
hears (greets m) = true
hears (passes elapsed) = false
hears (submits m) = false
hears (sends ask) = false
hears (keeps-alive id) = false
hears (receives m) = true
