use borrow.Author.Rules.{rules}
use Rattle.receive.proofs.Answered.{answers_is}
use Rattle.receive.proofs.answering.answered_id.Statement.{statement}
use Rattle.receive.proofs.answering.answered_id.Tie as tie

pub answered_id_spec : {M : Type 1} → statement M
answered_id_spec =
    let answers = tie.spec
    (λ c κs. search rules)
    (λ c. answers_is _ c.answered_by.ensures) in
    tie.close answers
