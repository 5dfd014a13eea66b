-- `call_numbers::running::connection_failed` meets its contract. Assumes nothing.
use borrow.Author.Rules.{rules}
use Rattle.session_numbers.proofs.Called.{narrow_is, called_known, called_unknown}
use Rattle.call_numbers.proofs.Calls.{connection_failed_narrow}
use Rattle.call_numbers.proofs.running.connection_failed.Statement.{statement}
use Rattle.call_numbers.proofs.running.connection_failed.Tie as tie

pub connection_failed_spec : {M : Type 1} → statement M
connection_failed_spec =
    let answers = tie.spec
    (λ c κs. search rules)
    (λ c. search rules)
    (λ c κs. search rules)
    (λ c κs. narrow_is c.connection_failed-o.ensures (connection_failed_narrow _ _))
    (λ c. search rules)
    (λ c κs. search rules)
    (λ c. search rules)
    (λ c. called_known _ _ _ _ c.phase_given.ensures c.in-Some.is c.connection_failed-o.ensures c.outcome_numbers.ensures)
    (λ c. search rules)
    (λ c. called_unknown _ _ _ _ c.phase_given.ensures c.in-None.is c.refuse_unknown.ensures) in
    tie.close answers
