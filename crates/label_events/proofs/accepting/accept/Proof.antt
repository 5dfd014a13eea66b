use borrow.Author.Rules.{rules}
use Rattle.label_events.proofs.Planned.{plan_in, accepted_is, refused_is}
use Rattle.label_events.proofs.accepting.accept.Statement.{statement}
use Rattle.label_events.proofs.accepting.accept.Tie as tie

pub accept_spec : {M : Type 1} → statement M
accept_spec =
    let answers = tie.spec
    (λ c κs. tt)
    (λ c. search rules)
    (λ c κs. plan_in _ _ _ c.plan_accept.ensures c.in-Some.is)
    (λ c κs. tt)
    (λ c. search rules)
    (λ c. search rules)
    (λ c. accepted_is _ _ _ c.plan_accept.ensures c.in-Some.is c.acceptance.ensures c.make_change.ensures)
    (λ c. search rules)
    (λ c. refused_is _ _ _ c.plan_accept.ensures c.in-None.is) in
    tie.close answers
