-- `pdu::message_at` meets its contract: each answer is a law of `place_of` at the tests that led there. Assumes nothing.
use borrow.Author.Rules.{rules}
use Rattle.pdu.proofs.Message.{places}
use Rattle.pdu.proofs.message_at.Statement.{statement}
use Rattle.pdu.proofs.message_at.Tie as tie

pub message_at_spec : {M : Type 1} → statement M
message_at_spec =
    let answers = tie.spec
    (λ c. search (rules, places))
    (λ c. search (rules, places))
    (λ c. search (rules, places))
    (λ c. search (rules, places))
    (λ c. search (rules, places))
    (λ c. search (rules, places))
    (λ c. search (rules, places))
    (λ c. search (rules, places))
    (λ c. search (rules, places))
    (λ c. search (rules, places))
    (λ c. search (rules, places))
    (λ c. search (rules, places))
    (λ c. search (rules, places)) in
    tie.close answers
