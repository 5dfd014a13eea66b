use mathlib.Core.Bool.{not, true}
use mathlib.Core.Path.{◌≡◌, ap}
use Rattle.octets.proofs.Choice.{denied, granted}
use Rattle.protocol.specs.declared.Answer.{Answer}
use Rattle.protocol.specs.Answers.{is_done}
use Rattle.send.proofs.Judged.{judge_down, judge_first, judge_none, judge_some, judge_sound}
use Rattle.send.proofs.judge_send.Goals as goal
use Rattle.send.proofs.judge_send.Goals.{Else-not-is_done}

-- the first test was passed
admitted : (c : Else-not-is_done) → is_done c.admit-a.result ≡ true
admitted c = granted c.is_done.ensures (ap not c.if-not-is_done.false)

pub returns-then-not-is_done : goal.returns-then-not-is_done
returns-then-not-is_done c =
    judge_first _ _ _ c.admit-a.ensures (denied c.is_done.ensures (ap not c.if-not-is_done.true))

pub returns-then-not-is_up_ft : goal.returns-then-not-is_up_ft
returns-then-not-is_up_ft c =
    let done = admitted (goal.at.returns-then-not-is_up_ft c).Else-not-is_done in
    judge_down _ _ _ c.admit-a.ensures done c.is_up_ft.ensures c.if-not-is_up_ft.true

pub header_of-h-requires : goal.header_of-h-requires
header_of-h-requires c =
    (judge_sound _ _ Answer.Done c.admit-a.ensures (admitted (goal.at.header_of-h-requires c).Else-not-is_done)).size

pub returns-then-sent_of-h : goal.returns-then-sent_of-h
returns-then-sent_of-h c =
    let done = admitted (goal.at.returns-then-sent_of-h c).Else-not-is_done in
    judge_none _ _ _ c.admit-a.ensures done c.is_up_ft.ensures c.if-not-is_up_ft.false c.header_of-h.ensures
    c.sent_of.ensures c.if-sent_of-h.true

pub returns : goal.returns
returns c =
    let done = admitted (goal.at.returns c).Else-not-is_done in
    judge_some _ _ _ c.admit-a.ensures done c.is_up_ft.ensures c.if-not-is_up_ft.false c.header_of-h.ensures
    c.sent_of.ensures c.if-sent_of-h.false
