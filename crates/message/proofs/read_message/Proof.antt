use borrow.Author.Rules.{rules}
use Rattle.message.proofs.Readings.{readings}
use Rattle.message.proofs.read_message.Statement.{statement}
use Rattle.message.proofs.read_message.Tie as tie

pub read_message_spec : {M : Type 1} → statement M
read_message_spec =
    let answers = tie.spec
    (λ c. search (rules, readings))
    (λ c. search (rules, readings))
    (λ c. search (rules, readings))
    (λ c. search (rules, readings))
    (λ c. search (rules, readings))
    (λ c. search (rules, readings)) in
    tie.close answers
