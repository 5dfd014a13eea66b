-- `call_numbers::running::keepalive` meets its contract. Assumes nothing.
use borrow.Author.Rules.{rules}
use Rattle.session_numbers.proofs.Called.{narrow_is, called_known, called_unknown}
use Rattle.call_numbers.proofs.Calls.{keepalive_narrow}
use Rattle.call_numbers.proofs.running.keepalive.Statement.{statement}
use Rattle.call_numbers.proofs.running.keepalive.Tie as tie

pub keepalive_spec : {M : Type 1} → statement M
keepalive_spec =
    let answers = tie.spec
    (λ c κs. search rules)
    (λ c. search rules)
    (λ c κs. search rules)
    (λ c κs. narrow_is c.keepalive-o.ensures (keepalive_narrow _ _ _ _))
    (λ c. search rules)
    (λ c κs. search rules)
    (λ c. search rules)
    (λ c. called_known _ _ _ _ c.phase_given.ensures c.in-Some.is c.keepalive-o.ensures c.outcome_numbers.ensures)
    (λ c. called_unknown _ _ _ _ c.phase_given.ensures c.in-None.is c.refuse_unknown.ensures) in
    tie.close answers
