use borrow.Author.Rules.{rules}
use Rattle.message.proofs.Readings.{placings}
use Rattle.message.proofs.places_in.Statement.{statement}
use Rattle.message.proofs.places_in.Tie as tie

pub places_in_spec : {M : Type 1} → statement M
places_in_spec =
    let answers = tie.spec
    (λ c. search (rules, placings))
    (λ c. search (rules, placings))
    (λ c. search (rules, placings))
    (λ c. search (rules, placings))
    (λ c. search (rules, placings))
    (λ c. search (rules, placings))
    (λ c. search (rules, placings))
    (λ c. search (rules, placings))
    (λ c. search (rules, placings)) in
    tie.close answers
