use borrow.Author.Rules.{rules}
use Rattle.label_events.specs.Receive.{every_beside}
use Rattle.label_events.proofs.receiving.receive_beside.Statement.{statement}
use Rattle.label_events.proofs.receiving.receive_beside.Tie as tie

pub receive_beside_spec : {M : Type 1} → statement M
unfolding every_beside
receive_beside_spec =
    let answers = tie.spec
    (λ c. search rules)
    (λ c. search rules)
    (λ c κs. tt)
    (λ c. search rules)
    (λ c κs. tt)
    (λ c. rw c.in-Mapping.is)
    (λ c. search rules)
    (λ c. rw c.in-Withdraw.is c.sweep_beside.ensures)
    (λ c. search rules)
    (λ c. rw c.in-Release.is c.sweep_beside-in-Release.ensures) in
    tie.close answers
