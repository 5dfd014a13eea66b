use mathlib.Core.Bool.{not}
use mathlib.Core.Path.{ap}
use Rattle.octets.proofs.Choice.{denied, granted}
use Rattle.image.specs.Verdict.{IsSound}
use Rattle.calls.proofs.Settled.{admit_passed, admitted-sound}
use Rattle.init.proofs.Received.{init_refused, init_barred, init_fits, init_settled, init-begun}
use Rattle.init.proofs.beginning.init_received.Goals as goal

pub returns-then-not-is_done : goal.returns-then-not-is_done
returns-then-not-is_done c = init_refused _ _ _ c.admit-a.ensures (denied c.is_done.ensures (ap not c.if-not-is_done.true)) c.refuse.ensures

-- past the first test the image is sound
pub header_of-h-requires : goal.header_of-h-requires
header_of-h-requires c = (admitted-sound (admit_passed _ _ c.admit-a.ensures (granted c.is_done.ensures (ap not c.if-not-is_done.false)))).size

pub returns-then-not-awaits_init : goal.returns-then-not-awaits_init
returns-then-not-awaits_init c =
    init_barred _ _ _ c.admit-a.ensures (granted c.is_done.ensures (ap not c.if-not-is_done.false))
    (denied c.awaits_init.ensures (ap not c.if-not-awaits_init.true)) c.refuse-then-not-awaits_init.ensures

pub begin-requires : goal.begin-requires
begin-requires c =
    let done = granted c.is_done.ensures (ap not c.if-not-is_done.false) in
    let sound : IsSound c.args.image.now = admitted-sound (admit_passed _ _ c.admit-a.ensures done) in
    let fits =
    init_fits _ _ _ c.admit-a.ensures done (granted c.awaits_init.ensures (ap not c.if-not-awaits_init.false)) c.header_of-h.ensures
    c.proposal_of.ensures c.read_message.ensures c.judge_start.ensures sound in
    (sound, rw c.in-Ok.is at fits)

pub settle-requires : goal.settle-requires
settle-requires c = admitted-sound (admit_passed _ _ c.admit-a.ensures (granted c.is_done.ensures (ap not c.if-not-is_done.false)))

pub returns-in-Ok : goal.returns-in-Ok
returns-in-Ok c =
    init-begun _ _ _ c.admit-a.ensures (granted c.is_done.ensures (ap not c.if-not-is_done.false))
    (granted c.awaits_init.ensures (ap not c.if-not-awaits_init.false)) c.header_of-h.ensures c.proposal_of.ensures c.read_message.ensures
    c.judge_start.ensures c.in-Ok.is c.begin.ensures

pub returns-in-Err : goal.returns-in-Err
returns-in-Err c =
    let done = granted c.is_done.ensures (ap not c.if-not-is_done.false) in
    init_settled _ _ _ c.admit-a.ensures done (granted c.awaits_init.ensures (ap not c.if-not-awaits_init.false)) c.header_of-h.ensures
    c.proposal_of.ensures c.read_message.ensures c.judge_start.ensures (admitted-sound (admit_passed _ _ c.admit-a.ensures done)) c.in-Err.is
    c.settle.ensures
