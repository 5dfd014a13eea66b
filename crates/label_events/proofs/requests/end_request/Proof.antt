use borrow.Author.Rules.{rules}
use Rattle.label_events.proofs.Ended.{ended_here, ended-not, ended_past, ended_nowhere}
use Rattle.label_events.proofs.requests.end_request.Statement.{statement}
use Rattle.label_events.proofs.requests.end_request.Tie as tie

pub end_request_spec : {M : Type 1} → statement M
end_request_spec =
    let answers = tie.spec
    (λ c. search rules)
    (λ c. ended_past _ _ c.in-Some.is c.if-words-i.true)
    (λ c. search rules)
    (λ c. search rules)
    (λ c. search rules)
    (λ c. search rules)
    (λ c. search rules)
    (λ c. search rules)
    (λ c. ended_here _ _ c.in-Some.is c.if-words-i-eq-REQUEST_WORD.true)
    (λ c. ended-not _ _ c.in-Some.is c.if-words-i-eq-REQUEST_WORD.false)
    (λ c. ended_nowhere _ c.in-None.is) in
    tie.close answers
