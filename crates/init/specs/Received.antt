-- The peer's Init on an image: "Init received: 12, 1, 22, 23, 35, 34."
use Rattle.std.specs.Prelude.{Result, Ok, Err, ℕ, List, []}
use Rattle.protocol.specs.declared.Answer.{Answer}
use Rattle.protocol.specs.declared.Phase.{Phase}
use Rattle.protocol.specs.declared.Start.{Start}
use Rattle.protocol.specs.Init.{init_received, init_start, start_phase, start_state}
use Rattle.protocol.specs.Step.{stepped}
use Rattle.calls.specs.Outcomes.{After, call_of, step_stored}
use Rattle.calls.specs.State.{state_of}
use Rattle.calls.specs.Storing.{Slots, same, stay, empty, fewer}

-- a released state and a fresh one hold nothing; a resumed one holds what the ACK did not release
abbrev pub start_slots : Result Start Answer → Slots
start_slots (Err a) = stay
start_slots (Ok Start.Plain) = empty
start_slots (Ok (Start.Fresh t)) = empty
start_slots (Ok (Start.Resumed t k a)) = fewer k

-- the session begun: what the start leads to is stored
unfoldable pub begun_on : List ℕ → Phase → Result Start Answer → After
begun_on im ph st = step_stored im (start_slots st) same (stepped Answer.Done (start_state (state_of im) st) (start_phase ph st) []) []

unfoldable pub init_received_of : List ℕ → Phase → List ℕ → After
init_received_of im ph m = call_of im ph [] (start_slots (init_start (state_of im) ph m)) same (init_received (state_of im) ph m)
