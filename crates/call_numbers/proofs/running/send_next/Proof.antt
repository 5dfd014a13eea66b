-- `call_numbers::running::send_next` meets its contract. Assumes nothing.
use borrow.Author.Rules.{rules}
use Rattle.session_numbers.proofs.Called.{narrow_is, called_known, called_unknown}
use Rattle.call_numbers.proofs.Calls.{send_narrow}
use Rattle.call_numbers.proofs.running.send_next.Statement.{statement}
use Rattle.call_numbers.proofs.running.send_next.Tie as tie

pub send_next_spec : {M : Type 1} → statement M
send_next_spec =
    let answers = tie.spec
    (λ c κs. search rules)
    (λ c. search rules)
    (λ c κs. search rules)
    (λ c κs. narrow_is c.send_next-o.ensures (send_narrow _ _ _ _))
    (λ c. search rules)
    (λ c κs. search rules)
    (λ c. search rules)
    (λ c. search rules)
    (λ c. called_known _ _ _ _ c.phase_given.ensures c.in-Some.is c.send_next-o.ensures c.outcome_numbers.ensures)
    (λ c. search rules)
    (λ c. called_unknown _ _ _ _ c.phase_given.ensures c.in-None.is c.refuse_unknown.ensures) in
    tie.close answers
