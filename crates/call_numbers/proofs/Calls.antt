-- The numbers of each call's outcome have 32 bits. Assumes nothing.
use Prim.Native.Nat.{ℕ}
use mathlib.Core.Bool.{Bool, not}
use mathlib.Core.List.{List, []}
use lib.Dec.{eqb}
use lib.ListN.{length}
use Rattle.octets.proofs.Choice.{pick_all}
use Rattle.ft_number.specs.declared.MessageId.{MessageId}
use Rattle.ft_number.specs.declared.Proposal.{Proposal}
use Rattle.message_writer.specs.declared.OwnParameters.{OwnParameters}
use Rattle.image.specs.Sizes.{image_size}
use Rattle.protocol.specs.declared.Answer.{Answer}
use Rattle.protocol.specs.declared.Phase.{Phase}
use Rattle.protocol.specs.Calls.{restores, fails, opens, greets, passes, submits, sends, keeps-alive, receives, step}
use Rattle.calls.specs.Storing.{same, stay}
use Rattle.session_numbers.specs.Outcome.{Narrow}
use Rattle.session_numbers.proofs.Named.{Named, none}
use Rattle.session_numbers.proofs.Narrow.{quiet, settled_narrow, call_narrow}
use Rattle.connect.specs.Start.{formatted, format_of, restore_of}
use Rattle.connect.specs.Writers.{open_of, keepalive_of}
use Rattle.init.specs.Received.{init_received_of}
use Rattle.receive.specs.Call.{receive_of}
use Rattle.send.specs.Send.{send_of}
use Rattle.submit.specs.Call.{submit_of}
use Rattle.timers.specs.Events.{connection_failed_of, time_passed_of}

pub format_narrow : (im : List ℕ) → Narrow (format_of im).outcome
unfolding format_of
format_narrow im =
    settled_narrow _ Phase.Idle im [] (pick_all Named (not (eqb (length im) image_size)) none none) formatted
    (λ t. quiet Answer.Done _ _ _ _ none)

pub restore_narrow : (im : List ℕ) → Narrow (restore_of im).outcome
unfolding restore_of step
restore_narrow im = call_narrow restores im Phase.Idle [] stay same 0

pub open_narrow : (im : List ℕ) (ph : Phase) (id : MessageId) (p : OwnParameters) (t : Proposal) (out : List ℕ) → Narrow (open_of im ph id p t out).outcome
unfolding open_of step
open_narrow im ph id p t out = call_narrow (opens id p t) im ph out stay same (length out)

pub keepalive_narrow : (im : List ℕ) (ph : Phase) (id : MessageId) (out : List ℕ) → Narrow (keepalive_of im ph id out).outcome
unfolding keepalive_of step
keepalive_narrow im ph id out = call_narrow (keeps-alive id) im ph out stay same (length out)

pub init_narrow : (im : List ℕ) (ph : Phase) (m : List ℕ) → Narrow (init_received_of im ph m).outcome
unfolding init_received_of step
init_narrow im ph m = call_narrow (greets m) im ph [] _ _ 0

pub connection_failed_narrow : (im : List ℕ) (ph : Phase) → Narrow (connection_failed_of im ph).outcome
unfolding connection_failed_of step
connection_failed_narrow im ph = call_narrow fails im ph [] stay same 0

pub time_passed_narrow : (im : List ℕ) (ph : Phase) (elapsed : ℕ) → Narrow (time_passed_of im ph elapsed).outcome
unfolding time_passed_of step
time_passed_narrow im ph elapsed = call_narrow (passes elapsed) im ph [] _ _ 0

pub submit_narrow : (im : List ℕ) (ph : Phase) (m : List ℕ) → Narrow (submit_of im ph m).outcome
unfolding submit_of step
submit_narrow im ph m = call_narrow (submits m) im ph [] _ _ 0

pub send_narrow : (im : List ℕ) (ph : Phase) (ask : Bool) (out : List ℕ) → Narrow (send_of im ph ask out).outcome
unfolding send_of step
send_narrow im ph ask out = call_narrow (sends ask) im ph out stay same (length out)

pub receive_narrow : (im : List ℕ) (ph : Phase) (m : List ℕ) → Narrow (receive_of im ph m).outcome
unfolding receive_of step
receive_narrow im ph m = call_narrow (receives m) im ph [] _ _ 0
