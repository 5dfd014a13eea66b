-- `connect::writing::alive_ack` meets its contract. Assumes nothing.
use borrow.Author.Rules.{rules}
use Rattle.connect.proofs.writing.alive_ack.Statement.{statement}
use Rattle.connect.proofs.writing.alive_ack.Tie as tie

pub alive_ack_spec : {M : Type 1} → statement M
alive_ack_spec =
    let answers = tie.spec
    (λ c. search rules)
    (λ c. search rules)
    (λ c. search rules)
    (λ c. search rules)
    (λ c. search rules)
    (λ c. search rules)
    (λ c. search rules)
    (λ c. rw c.in-UpFT.is)
    (λ c. search rules)
    (λ c. search rules) in
    tie.close answers
