-- Send next on an image: restore's checks, then the protocol's step on what the image stands for.
use Rattle.std.specs.Prelude.{ℕ, Bool, List, length}
use Rattle.protocol.specs.declared.Phase.{Phase}
use Rattle.protocol.specs.Send.{send_next}
use Rattle.calls.specs.Outcomes.{After, call_of}
use Rattle.calls.specs.State.{state_of}
use Rattle.calls.specs.Storing.{same, stay}

-- "Send next (UpFT) gives the oldest not sent on this connection, after a break from the oldest held; it numbers it if it has no number"
unfoldable pub send_of : List ℕ → Phase → Bool → List ℕ → After
send_of im ph ask out = call_of im ph out stay same (send_next (state_of im) ph ask (length out))
