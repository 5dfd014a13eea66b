use borrow.Author.Rules.{rules}
use Rattle.message.proofs.Readings.{entries}
use Rattle.message.proofs.entry_in.Statement.{statement}
use Rattle.message.proofs.entry_in.Tie as tie

pub entry_in_spec : {M : Type 1} → statement M
entry_in_spec =
    let answers = tie.spec
    (λ c κs. search (rules, entries))
    (λ c. search (rules, entries))
    (λ c. search (rules, entries))
    (λ c κs. search (rules, entries))
    (λ c κs. search (rules, entries))
    (λ c. search (rules, entries))
    (λ c. search (rules, entries)) in
    tie.close answers
