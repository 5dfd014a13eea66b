use borrow.Author.Rules.{rules}
use Rattle.label_events.proofs.Received.{received_in, received_label, received_every, received_prefix, received_nothing}
use Rattle.label_events.proofs.receiving.receive.Statement.{statement}
use Rattle.label_events.proofs.receiving.receive.Tie as tie

pub receive_spec : {M : Type 1} → statement M
receive_spec =
    let answers = tie.spec
    (λ c. search rules)
    (λ c κs. rw c.in-Label.is at c.requires)
    (λ c κs. tt)
    (λ c κs. received_in _ _ _ _ c.end_request.ensures _ c.plan_received-change.ensures)
    (λ c κs. tt)
    (λ c κs. tt)
    (λ c. search rules)
    (λ c κs. tt)
    (λ c κs. tt)
    (λ c κs. tt)
    (λ c. search rules)
    (λ c κs. tt)
    (λ c κs. tt)
    (λ c κs. tt)
    (λ c. search rules)
    (λ c κs. tt)
    (λ c κs. tt)
    (λ c. search rules)
    (λ c. received_label _ _ _ _ c.end_request.ensures _ c.plan_received-change.ensures _ c.in-Label.is c.requires c.reception.ensures c.taken_at.ensures c.make_change.ensures)
    (λ c. search rules)
    (λ c. received_every _ _ _ _ c.end_request-in-Every.ensures _ c.unnamed.ensures.0 c.unnamed.ensures.1 c.in-Every.is c.receive_every.ensures)
    (λ c. search rules)
    (λ c. received_prefix _ _ _ _ c.end_request-in-Prefix.ensures _ c.unnamed-in-Prefix.ensures.0 c.unnamed-in-Prefix.ensures.1 _ c.in-Prefix.is c.receive_beside.ensures)
    (λ c. search rules)
    (λ c. received_nothing _ _ _ _ c.end_request-in-Nothing.ensures _ c.unnamed-in-Nothing.ensures.0 c.unnamed-in-Nothing.ensures.1 c.in-Nothing.is) in
    tie.close answers
