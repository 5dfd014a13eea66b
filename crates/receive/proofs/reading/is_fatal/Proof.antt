use borrow.Author.Rules.{rules}
use Rattle.receive.proofs.reading.is_fatal.Statement.{statement}
use Rattle.receive.proofs.reading.is_fatal.Tie as tie

pub is_fatal_spec : {M : Type 1} → statement M
is_fatal_spec =
    let answers = tie.spec
    (λ c. search rules)
    (λ c. search rules)
    (λ c κs. search rules)
    (λ c. search rules)
    (λ c. rw c.in-Some.is c.is_fatal.ensures) in
    tie.close answers
