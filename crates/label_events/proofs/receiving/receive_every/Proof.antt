use borrow.Author.Rules.{rules}
use Rattle.label_list.specs.Sweep.{word_reached}
use Rattle.label_events.specs.Receive.{every_received}
use Rattle.label_events.proofs.receiving.receive_every.Statement.{statement}
use Rattle.label_events.proofs.receiving.receive_every.Tie as tie

pub receive_every_spec : {M : Type 1} → statement M
unfolding every_received word_reached
receive_every_spec =
    let answers = tie.spec
    (λ c. search rules)
    (λ c. search rules)
    (λ c κs. tt)
    (λ c. search rules)
    (λ c κs. tt)
    (λ c. rw c.in-Mapping.is)
    (λ c. search rules)
    (λ c. rw c.in-Withdraw.is c.sweep.ensures)
    (λ c. search rules)
    (λ c. rw c.in-Release.is c.sweep-in-Release.ensures) in
    tie.close answers
