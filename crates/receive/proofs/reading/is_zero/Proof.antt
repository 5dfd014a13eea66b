use borrow.Author.Rules.{rules}
use Rattle.receive.proofs.reading.is_zero.Statement.{statement}
use Rattle.receive.proofs.reading.is_zero.Tie as tie

pub is_zero_spec : {M : Type 1} → statement M
is_zero_spec =
    let answers = tie.spec
    (λ c. search rules)
    (λ c. search rules)
    (λ c. search rules)
    (λ c. rw c.in-Some.is) in
    tie.close answers
