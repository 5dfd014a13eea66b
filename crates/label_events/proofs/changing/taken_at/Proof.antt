use borrow.Author.Rules.{rules}
use Rattle.label_events.proofs.changing.taken_at.Statement.{statement}
use Rattle.label_events.proofs.changing.taken_at.Tie as tie

pub taken_at_spec : {M : Type 1} → statement M
taken_at_spec =
    let answers = tie.spec
    (λ c. search rules) (λ c. search rules) (λ c. search rules) (λ c. search rules) (λ c. search rules) (λ c. search rules)
    (λ c. rw c.in-Keep.is)
    (λ c. search rules)
    (λ c. rw (c.in-Put.is, c.in-None.is))
    (λ c. rw c.in-Move.is)
    (λ c. rw c.in-NoRoom.is) in
    tie.close answers
