use mathlib.Core.Path.{refl, ◌∙◌}
use Rattle.receive.proofs.Judged.{labels_protection, labels_turn, labels-room}
use Rattle.receive.proofs.judging.judge_beside.Goals as goal

pub returns-in-Missing : goal.returns-in-Missing
returns-in-Missing c =
    labels_protection _ _ _ c.requires.1 c.requires.2 c.requires.3 c.requires.4 _ c.judge_protection.ensures refl c.in-Missing.is c.refused.ensures

pub returns-in-Wrong : goal.returns-in-Wrong
returns-in-Wrong c =
    labels_protection _ _ _ c.requires.1 c.requires.2 c.requires.3 c.requires.4 _ c.judge_protection.ensures refl c.in-Wrong.is
    c.refused-in-Wrong.ensures

pub returns-in-Err : goal.returns-in-Err
returns-in-Err c =
    labels_turn _ _ _ c.requires.1 c.requires.2 c.requires.3 c.requires.4 _ c.judge_protection.ensures _ c.in-Right.is c.in-Err.is
    (c.refused-in-Err.ensures ∙ c.turn_answer.ensures)

pub returns : goal.returns
returns c =
    labels-room _ _ _ c.requires.1 c.requires.2 c.requires.3 c.requires.4 _ c.judge_protection.ensures c.in-Right.is c.in-Ok.is c.judge_room.ensures
