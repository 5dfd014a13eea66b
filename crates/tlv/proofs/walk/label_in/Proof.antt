use borrow.Author.Rules.{rules}
use Rattle.tlv.proofs.Noted.{labels}
use Rattle.tlv.proofs.walk.label_in.Statement.{statement}
use Rattle.tlv.proofs.walk.label_in.Tie as tie

pub label_in_spec : {M : Type 1} → statement M
label_in_spec =
    let answers = tie.spec
    (λ c. search (rules, labels)) (λ c. search (rules, labels)) (λ c. search (rules, labels)) (λ c. search (rules, labels))
    (λ c. search (rules, labels)) (λ c. search (rules, labels)) (λ c. search (rules, labels)) (λ c. search (rules, labels))
    (λ c. search (rules, labels)) (λ c. search (rules, labels)) (λ c. search (rules, labels)) (λ c. search (rules, labels))
    (λ c. search (rules, labels)) (λ c. search (rules, labels)) (λ c. search (rules, labels)) (λ c. search (rules, labels))
    (λ c. search (rules, labels)) (λ c. search (rules, labels)) (λ c. search (rules, labels)) (λ c. search (rules, labels)) in
    tie.close answers
