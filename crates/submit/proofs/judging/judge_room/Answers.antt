use Rattle.submit.proofs.Answered.{full_is, room_is}
use Rattle.submit.proofs.judging.judge_room.Goals as goal

pub returns-then-header_of-ge-SLOT_COUNT : goal.returns-then-header_of-ge-SLOT_COUNT
returns-then-header_of-ge-SLOT_COUNT c = full_is _ c.header_of.ensures c.if-header_of-ge-SLOT_COUNT.true

pub returns : goal.returns
returns c = room_is _ c.header_of.ensures c.if-header_of-ge-SLOT_COUNT.false
