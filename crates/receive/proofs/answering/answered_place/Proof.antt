use borrow.Author.Rules.{rules}
use Rattle.receive.proofs.Answered.{answered_none, answered_open}
use Rattle.receive.proofs.answering.answered_place.Statement.{statement}
use Rattle.receive.proofs.answering.answered_place.Tie as tie

pub answered_place_spec : {M : Type 1} → statement M
answered_place_spec =
    let answers = tie.spec
    (λ c κs. search rules)
    (λ c. search rules)
    (λ c. search rules)
    (λ c κs. search rules)
    (λ c. answered_none _ _ _ c.answered_id.ensures c.in-None.is)
    (λ c. answered_open _ _ _ c.answered_id.ensures c.requires.1 c.in-Some.is c.find_open.ensures) in
    tie.close answers
