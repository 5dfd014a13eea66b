-- Each answer is a law of `turn_of` over the tests and the calls that led there.
use borrow.Author.Rules.{rules}
use Rattle.tlv.proofs.Turns.{turns}
use Rattle.tlv.proofs.walk.turn_at.Statement.{statement}
use Rattle.tlv.proofs.walk.turn_at.Tie as tie

pub turn_at_spec : {M : Type 1} → statement M
turn_at_spec =
    let answers = tie.spec
    (λ c. search (rules, turns)) (λ c. search (rules, turns)) (λ c. search (rules, turns)) (λ c. search (rules, turns))
    (λ c. search (rules, turns)) (λ c. search (rules, turns)) (λ c. search (rules, turns)) (λ c. search (rules, turns))
    (λ c. search (rules, turns)) (λ c. search (rules, turns)) (λ c. search (rules, turns)) (λ c. search (rules, turns))
    (λ c. search (rules, turns)) (λ c. search (rules, turns)) (λ c. search (rules, turns)) in
    tie.close answers
