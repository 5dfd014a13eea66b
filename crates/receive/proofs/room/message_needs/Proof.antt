use borrow.Author.Rules.{rules}
use Rattle.receive.proofs.room.message_needs.Statement.{statement}
use Rattle.receive.proofs.room.message_needs.Tie as tie

pub message_needs_spec : {M : Type 1} → statement M
message_needs_spec =
    let answers = tie.spec
    (λ c. search rules)
    (λ c κs. search rules)
    (λ c. search rules)
    (λ c. search rules)
    (λ c. rw c.in-Mapping.is c.mapping_needs.ensures)
    (λ c. search rules)
    (λ c. search rules) in
    tie.close answers
