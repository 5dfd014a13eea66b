use borrow.Author.Rules.{rules}
use Rattle.label_events.proofs.Planned.{change_found, change_none, change-taken}
use Rattle.label_events.proofs.changing.plan_change.Statement.{statement}
use Rattle.label_events.proofs.changing.plan_change.Tie as tie

pub plan_change_spec : {M : Type 1} → statement M
plan_change_spec =
    let answers = tie.spec
    (λ c κs. c.requires)
    (λ c. search rules)
    (λ c. search rules)
    (λ c. change_none _ _ _ _ c.in-None.is c.if-code-eq0.true)
    (λ c κs. tt)
    (λ c κs. tt)
    (λ c. change_found _ _ _ _ _ c.word_of-word.ensures c.in-Some.is)
    (λ c. change-taken _ _ _ _ c.in-None.is c.if-code-eq0.false c.word_of-word.ensures c.find.ensures c.take_free.ensures) in
    tie.close answers
