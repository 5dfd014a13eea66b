use mathlib.Core.Path.{refl}
use borrow.Author.Rules.{rules}
use Rattle.receive.proofs.Judged.{room-done, room_refused}
use Rattle.receive.proofs.judging.judge_room.Statement.{statement}
use Rattle.receive.proofs.judging.judge_room.Tie as tie

pub judge_room_spec : {M : Type 1} → statement M
judge_room_spec =
    let answers = tie.spec
    (λ c κs. (c.requires.0, c.requires.1, c.requires.2, c.requires.3))
    (λ c κs. search rules)
    (λ c κs. c.requires.3)
    (λ c. search rules)
    (λ c. search rules)
    (λ c κs. search rules)
    (λ c. search rules)
    (λ c. room-done _ _ _ c.requires.1 c.requires.2 c.requires.4 c.requires.5 c.met_by-meets.ensures c.is_protected.ensures c.change_labels-receipt.ensures c.in-Taken.is)
    (λ c. search rules)
    (λ c. room_refused _ _ _ c.requires.1 c.requires.2 c.requires.4 c.requires.5 c.met_by-meets.ensures c.is_protected.ensures c.change_labels-receipt.ensures c.in-NoRoom.is refl c.refused.ensures) in
    tie.close answers
