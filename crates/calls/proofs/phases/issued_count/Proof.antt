use borrow.Author.Rules.{rules}
use Rattle.calls.proofs.Phasing.{issued_is}
use Rattle.calls.proofs.phases.issued_count.Statement.{statement}
use Rattle.calls.proofs.phases.issued_count.Tie as tie

pub issued_count_spec : {M : Type 1} → statement M
issued_count_spec =
    let answers = tie.spec
    (λ c κs. search rules)
    (λ c. search rules)
    (λ c. search rules)
    (λ c. issued_is _ _ _ c.steps_between.ensures c.in-Some.is)
    (λ c. issued_is _ _ _ c.steps_between.ensures c.in-None.is) in
    tie.close answers
