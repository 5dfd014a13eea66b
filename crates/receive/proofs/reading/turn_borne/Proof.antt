use borrow.Author.Rules.{rules}
use Rattle.receive.proofs.reading.turn_borne.Statement.{statement}
use Rattle.receive.proofs.reading.turn_borne.Tie as tie

pub turn_borne_spec : {M : Type 1} → statement M
turn_borne_spec =
    let answers = tie.spec
    (λ c. search rules)
    (λ c. search rules)
    (λ c κs. search rules)
    (λ c. search rules)
    (λ c. rw (c.in-Some.is, ← c.judge_turn.ensures)) in
    tie.close answers
