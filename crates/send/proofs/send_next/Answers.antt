use mathlib.Core.Bool.{not}
use mathlib.Core.Path.{ap}
use native.Mathlib.Omega.{arith}
use Rattle.octets.proofs.Choice.{denied, granted}
use Rattle.send.proofs.Acts.{send_acts, send_refused, send-short}
use Rattle.send.proofs.Judged.{Sendable, judged_sendable, place_few, place-held, sendable_held, sendable_sound}
use Rattle.send.proofs.send_next.Goals as goal
use Rattle.send.proofs.send_next.Goals.{Else-not-is_done}

-- the tests before that of the room were passed
unsent : (c : Else-not-is_done) → Sendable c.args.image.now c.args.phase
unsent c = judged_sendable _ _ _ c.judge_send-a.ensures (granted c.is_done.ensures (ap not c.if-not-is_done.false))

pub returns-then-not-is_done : goal.returns-then-not-is_done
returns-then-not-is_done c =
    send_refused _ _ _ _ c.judge_send-a.ensures (denied c.is_done.ensures (ap not c.if-not-is_done.true))
    c.refuse.ensures

pub left_out-leftout-requires : goal.left_out-leftout-requires
left_out-leftout-requires c =
    let d = unsent (goal.at.left_out-leftout-requires c).Else-not-is_done in
    (sendable_sound d, rw c.sent_of-sent.ensures (sendable_held d))

pub overflow_add-place : goal.overflow_add-place
overflow_add-place c =
    let d = unsent (goal.at.overflow_add-place c).Else-not-is_done in
    omega (arith, place_few d c.sent_of-sent.ensures c.left_out-leftout.ensures)

pub write_next-requires : goal.write_next-requires
write_next-requires c =
    let d = unsent (goal.at.write_next-requires c).Else-not-is_done in
    (sendable_sound d, place-held d c.sent_of-sent.ensures c.left_out-leftout.ensures)

pub overflow_add-result : goal.overflow_add-result
overflow_add-result c =
    let d = unsent (goal.at.overflow_add-result c).Else-not-is_done in
    omega (arith, place_few d c.sent_of-sent.ensures c.left_out-leftout.ensures)

pub issue-requires : goal.issue-requires
issue-requires c =
    let d = unsent (goal.at.issue-requires c).Else-not-is_done in
    (sendable_sound d, omega (arith, place_few d c.sent_of-sent.ensures c.left_out-leftout.ensures))

pub returns-in-None : goal.returns-in-None
returns-in-None c =
    send-short _ _ _ _ (unsent (goal.at.returns-in-None c).Else-not-is_done) c.sent_of-sent.ensures
    c.left_out-leftout.ensures c.write_next.ensures c.in-None.is c.refuse-in-None.ensures

pub returns-in-Some : goal.returns-in-Some
returns-in-Some c =
    send_acts _ _ _ _ (unsent (goal.at.returns-in-Some c).Else-not-is_done) c.sent_of-sent.ensures
    c.left_out-leftout.ensures c.write_next.ensures c.in-Some.is c.is_resumed.ensures c.issue.ensures
