use borrow.Author.Rules.{rules}
use Rattle.receive.proofs.labels.effect_on.Statement.{statement}
use Rattle.receive.proofs.labels.effect_on.Tie as tie

pub effect_on_spec : {M : Type 1} → statement M
effect_on_spec =
    let answers = tie.spec
    (λ c. search rules)
    (λ c. search rules)
    (λ c. search rules)
    (λ c. search rules)
    (λ c. search rules)
    (λ c. search rules)
    (λ c. search rules)
    (λ c. search rules)
    (λ c. search rules)
    (λ c. search rules)
    (λ c. search rules)
    (λ c. search rules)
    (λ c. search rules)
    (λ c. search rules)
    (λ c. search rules)
    (λ c. search rules)
    (λ c. rw c.in-Mapping.is)
    (λ c. search rules)
    (λ c. rw c.in-Withdraw.is)
    (λ c. rw c.in-Release.is)
    (λ c. search rules)
    (λ c. search rules) in
    tie.close answers
