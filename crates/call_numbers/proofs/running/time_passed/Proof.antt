-- `call_numbers::running::time_passed` meets its contract. Assumes nothing.
use borrow.Author.Rules.{rules}
use Rattle.session_numbers.proofs.Called.{narrow_is, called_known, called_unknown}
use Rattle.call_numbers.proofs.Calls.{time_passed_narrow}
use Rattle.call_numbers.proofs.running.time_passed.Statement.{statement}
use Rattle.call_numbers.proofs.running.time_passed.Tie as tie

pub time_passed_spec : {M : Type 1} → statement M
time_passed_spec =
    let answers = tie.spec
    (λ c κs. search rules)
    (λ c. search rules)
    (λ c κs. search rules)
    (λ c κs. narrow_is c.time_passed-o.ensures (time_passed_narrow _ _ _))
    (λ c. search rules)
    (λ c κs. search rules)
    (λ c. search rules)
    (λ c. called_known _ _ _ _ c.phase_given.ensures c.in-Some.is c.time_passed-o.ensures c.outcome_numbers.ensures)
    (λ c. search rules)
    (λ c. called_unknown _ _ _ _ c.phase_given.ensures c.in-None.is c.refuse_unknown.ensures) in
    tie.close answers
