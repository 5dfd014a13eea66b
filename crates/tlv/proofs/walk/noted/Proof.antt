use borrow.Author.Rules.{rules}
use Rattle.tlv.proofs.Noted.{notes}
use Rattle.tlv.proofs.walk.noted.Statement.{statement}
use Rattle.tlv.proofs.walk.noted.Tie as tie

pub noted_spec : {M : Type 1} → statement M
noted_spec =
    let answers = tie.spec
    (λ c. search (rules, notes)) (λ c. search (rules, notes)) (λ c. search (rules, notes)) (λ c. search (rules, notes))
    (λ c. search (rules, notes)) (λ c. search (rules, notes)) (λ c. search (rules, notes)) (λ c. search (rules, notes)) in
    tie.close answers
