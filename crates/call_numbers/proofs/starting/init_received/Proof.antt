-- `call_numbers::starting::init_received` meets its contract. Assumes nothing.
use borrow.Author.Rules.{rules}
use Rattle.session_numbers.proofs.Called.{narrow_is, called_known, called_unknown}
use Rattle.call_numbers.proofs.Calls.{init_narrow}
use Rattle.call_numbers.proofs.starting.init_received.Statement.{statement}
use Rattle.call_numbers.proofs.starting.init_received.Tie as tie

pub init_received_spec : {M : Type 1} → statement M
init_received_spec =
    let answers = tie.spec
    (λ c κs. search rules)
    (λ c. search rules)
    (λ c κs. search rules)
    (λ c κs. narrow_is c.init_received-o.ensures (init_narrow _ _ _))
    (λ c. search rules)
    (λ c κs. search rules)
    (λ c. search rules)
    (λ c. called_known _ _ _ _ c.phase_given.ensures c.in-Some.is c.init_received-o.ensures c.outcome_numbers.ensures)
    (λ c. search rules)
    (λ c. called_unknown _ _ _ _ c.phase_given.ensures c.in-None.is c.refuse_unknown.ensures) in
    tie.close answers
