-- `call_numbers::running::submit` meets its contract. Assumes nothing.
use borrow.Author.Rules.{rules}
use Rattle.session_numbers.proofs.Called.{narrow_is, called_known, called_unknown}
use Rattle.call_numbers.proofs.Calls.{submit_narrow}
use Rattle.call_numbers.proofs.running.submit.Statement.{statement}
use Rattle.call_numbers.proofs.running.submit.Tie as tie

pub submit_spec : {M : Type 1} → statement M
submit_spec =
    let answers = tie.spec
    (λ c κs. search rules)
    (λ c. search rules)
    (λ c κs. search rules)
    (λ c κs. narrow_is c.submit-o.ensures (submit_narrow _ _ _))
    (λ c. search rules)
    (λ c κs. search rules)
    (λ c. search rules)
    (λ c. called_known _ _ _ _ c.phase_given.ensures c.in-Some.is c.submit-o.ensures c.outcome_numbers.ensures)
    (λ c. search rules)
    (λ c. called_unknown _ _ _ _ c.phase_given.ensures c.in-None.is c.refuse_unknown.ensures) in
    tie.close answers
