use borrow.Author.Rules.{rules}
use Rattle.receive.proofs.answering.find_open.Statement.{statement}
use Rattle.receive.proofs.answering.find_open.Tie as tie

pub find_open_spec : {M : Type 1} → statement M
find_open_spec =
    let answers = tie.spec
    (λ c. search rules)
    (λ c κs. search rules)
    (λ c. search rules)
    (λ c κs. search rules)
    (λ c. rw (← c.ids_of.ensures) c.find_request.ensures) in
    tie.close answers
