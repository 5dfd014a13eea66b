use borrow.Author.Rules.{rules}
use Rattle.tlv.proofs.walk.placed.Statement.{statement}
use Rattle.tlv.proofs.walk.placed.Tie as tie

pub placed_spec : {M : Type 1} → statement M
placed_spec =
    let answers = tie.spec
    (λ c. search rules) (λ c. search rules) (λ c. search rules) (λ c. search rules)
    (λ c. search rules) (λ c. search rules) (λ c. search rules) (λ c. search rules)
    (λ c. search rules)
    (λ c. rw c.in-Fec.is)
    (λ c. rw c.in-Label.is)
    (λ c. rw c.in-Status.is)
    (λ c. rw c.in-Parameters.is)
    (λ c. rw c.in-Session.is)
    (λ c. rw c.in-Protection.is)
    (λ c. rw c.in-Ack.is)
    (λ c. rw c.in-RequestId.is)
    (λ c. search rules) in
    tie.close answers
