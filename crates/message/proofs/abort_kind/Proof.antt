use borrow.Author.Rules.{rules}
use Rattle.message.proofs.abort_kind.Statement.{statement}
use Rattle.message.proofs.abort_kind.Tie as tie

pub abort_kind_spec : {M : Type 1} → statement M
abort_kind_spec =
    let answers = tie.spec
    (λ c. search rules) (λ c. search rules) (λ c. search rules)
    (λ c. rw c.in-Some.is) in
    tie.close answers
