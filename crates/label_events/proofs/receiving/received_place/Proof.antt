use borrow.Author.Rules.{rules}
use Rattle.label_events.specs.Receive.{received_place}
use Rattle.label_events.proofs.receiving.received_place.Statement.{statement}
use Rattle.label_events.proofs.receiving.received_place.Tie as tie

pub received_place_spec : {M : Type 1} → statement M
unfolding received_place
received_place_spec =
    let answers = tie.spec
    (λ c. search rules)
    (λ c κs. tt)
    (λ c κs. tt)
    (λ c. search rules)
    (λ c. search rules)
    (λ c. search rules)
    (λ c. rw (c.in-Label.is, ← c.received_side.ensures) c.find_label.ensures)
    (λ c. rw c.in-Every.is)
    (λ c. rw c.in-Prefix.is)
    (λ c. rw c.in-Nothing.is) in
    tie.close answers
