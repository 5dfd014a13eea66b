-- The session's ten public calls as one function on images: the very definitions that their contracts cite.
use Rattle.std.specs.Prelude.{ℕ, Bool, true, false, List, []}
use Rattle.octets.specs.Pick.{pick}
use Rattle.message.specs.Reading.{reading_of}
use Rattle.protocol.specs.declared.Phase.{Phase}
use Rattle.protocol.specs.Calls.{Call, formats, restores, fails, opens, greets, passes, submits, sends, keeps-alive, receives}
use Rattle.protocol.specs.Init.{init_start}
use Rattle.protocol.specs.State.{State}
use Rattle.protocol.specs.TimePassed.{expired}
use Rattle.calls.specs.Outcomes.{After}
use Rattle.calls.specs.Storing.{Further, same, Slots, stay, empty, one_more}
use Rattle.connect.specs.Start.{format_of, restore_of}
use Rattle.connect.specs.Writers.{open_of, keepalive_of}
use Rattle.init.specs.Received.{init_received_of, start_slots}
use Rattle.receive.specs.Call.{receive_of, received_further, received_slots}
use Rattle.send.specs.Send.{send_of}
use Rattle.submit.specs.Call.{submit_of, submitted_further}
use Rattle.timers.specs.Events.{connection_failed_of, time_passed_of}

-- what a call leaves of an image and a phase: outcome, image and output; `out` are the bytes lent for its output
unfoldable pub leaves : Call → List ℕ → Phase → List ℕ → After
leaves formats im ph out = format_of im
leaves restores im ph out = restore_of im
leaves fails im ph out = connection_failed_of im ph
leaves (opens id own proposal) im ph out = open_of im ph id own proposal out
leaves (greets m) im ph out = init_received_of im ph m
leaves (passes elapsed) im ph out = time_passed_of im ph elapsed
leaves (submits m) im ph out = submit_of im ph m
leaves (sends ask) im ph out = send_of im ph ask out
leaves (keeps-alive id) im ph out = keepalive_of im ph id out
leaves (receives m) im ph out = receive_of im ph m

-- Format makes an image where the others work on one: all its blocks are new
abbrev pub makes_image : Call → Bool
makes_image formats = true
makes_image restores = false
makes_image fails = false
makes_image (opens id own proposal) = false
makes_image (greets m) = false
makes_image (passes elapsed) = false
makes_image (submits m) = false
makes_image (sends ask) = false
makes_image (keeps-alive id) = false
makes_image (receives m) = false

-- the phase that it is given; Format and Restore are given none, and a refusal of theirs leaves Idle
abbrev pub given : Call → Phase → Phase
given formats ph = Phase.Idle
given restores ph = Phase.Idle
given fails ph = ph
given (opens id own proposal) ph = ph
given (greets m) ph = ph
given (passes elapsed) ph = ph
given (submits m) ph = ph
given (sends ask) ph = ph
given (keeps-alive id) ph = ph
given (receives m) ph = ph

-- the bytes that it is lent: a call that writes nothing is lent none
abbrev pub lent : Call → List ℕ → List ℕ
lent formats out = []
lent restores out = []
lent fails out = []
lent (opens id own proposal) out = out
lent (greets m) out = []
lent (passes elapsed) out = []
lent (submits m) out = []
lent (sends ask) out = out
lent (keeps-alive id) out = out
lent (receives m) out = []

-- what becomes of the ring of slots where it is done
abbrev pub slots_left : Call → State → Phase → Slots
slots_left formats s ph = empty
slots_left restores s ph = stay
slots_left fails s ph = stay
slots_left (opens id own proposal) s ph = stay
slots_left (greets m) s ph = start_slots (init_start s ph m)
slots_left (passes elapsed) s ph = pick (expired s elapsed) empty stay
slots_left (submits m) s ph = one_more m
slots_left (sends ask) s ph = stay
slots_left (keeps-alive id) s ph = stay
slots_left (receives m) s ph = received_slots s ph (reading_of m)

-- and of the further blocks: Submit and Receive alone write one
abbrev pub further_put : Call → State → Phase → Further
further_put formats s ph = same
further_put restores s ph = same
further_put fails s ph = same
further_put (opens id own proposal) s ph = same
further_put (greets m) s ph = same
further_put (passes elapsed) s ph = same
further_put (submits m) s ph = submitted_further s.table m
further_put (sends ask) s ph = same
further_put (keeps-alive id) s ph = same
further_put (receives m) s ph = received_further s ph (reading_of m)
