-- What Open and KeepAlive share: a message of our own is written, and the state stays. "other writers 12, 1, 9"; 12 is the image's.
use Rattle.std.specs.Prelude.{ℕ, Bool, List}
use Rattle.protocol.specs.declared.Answer.{Answer}
use Rattle.protocol.specs.declared.Phase.{Phase}
use Rattle.protocol.specs.State.{State}
use Rattle.protocol.specs.Step.{Step, admitted, room_for, settle, stepped, where_open}

-- in a phase that allows it, and where there is room
abbrev pub writer_rule : Bool → List ℕ → ℕ → Answer
writer_rule may bytes room = where_open may (room_for bytes room)

-- the bytes are written, and the phase is then `next`
abbrev pub writer_deed : State → Phase → List ℕ → Step
writer_deed s next bytes = stepped Answer.Done s next bytes

unfoldable pub writer : State → Phase → Bool → Phase → List ℕ → ℕ → Step
writer s ph may next bytes room = settle (admitted s ph (writer_rule may bytes room)) s ph (writer_deed s next bytes)
