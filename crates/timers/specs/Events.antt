-- Connection failed and Time passed on an image: restore's checks, then the protocol's step on what the image stands for.
use Rattle.std.specs.Prelude.{ℕ, Bool, List, []}
use Rattle.octets.specs.Pick.{pick}
use Rattle.protocol.specs.declared.Answer.{Answer}
use Rattle.protocol.specs.declared.Phase.{Phase}
use Rattle.protocol.specs.ConnectionFailed.{connection_failed}
use Rattle.protocol.specs.Step.{where_open}
use Rattle.protocol.specs.TimePassed.{expired, time_passed}
use Rattle.calls.specs.Outcomes.{After, call_of}
use Rattle.calls.specs.State.{state_of}
use Rattle.calls.specs.Storing.{same, stay, empty}

-- "Connection failed (InitWait, UpFT, UpPlain): code 6 words are freed; Failed if kept, else Idle."
unfoldable pub connection_failed_of : List ℕ → Phase → After
connection_failed_of im ph = call_of im ph [] stay same (connection_failed (state_of im) ph)

-- "Time passed (Failed): releases, then Idle, if the timeout isn't zero and elapsed seconds are at least it; else nothing changes."
-- 02: "Time passed counts milliseconds."
unfoldable pub time_passed_of : List ℕ → Phase → ℕ → After
time_passed_of im ph elapsed = call_of im ph [] (pick (expired (state_of im) elapsed) empty stay) same (time_passed (state_of im) ph elapsed)

-- the tests of either event past the first two: whether it may come in the phase
unfoldable pub event_rule : Bool → Answer
event_rule may = where_open may Answer.Done
