-- `call_numbers::starting::open` meets its contract. Assumes nothing.
use borrow.Author.Rules.{rules}
use Rattle.session_numbers.proofs.Called.{narrow_is, called_known, called_unknown}
use Rattle.call_numbers.proofs.Calls.{open_narrow}
use Rattle.call_numbers.proofs.starting.open.Statement.{statement}
use Rattle.call_numbers.proofs.starting.open.Tie as tie

pub open_spec : {M : Type 1} → statement M
open_spec =
    let answers = tie.spec
    (λ c κs. search rules)
    (λ c κs. search rules)
    (λ c κs. search rules)
    (λ c. search rules)
    (λ c κs. search rules)
    (λ c κs. narrow_is c.open_session-o.ensures (open_narrow _ _ _ _ _ _))
    (λ c. search rules)
    (λ c κs. search rules)
    (λ c. search rules)
    (λ c. called_known _ _ _ _ c.phase_given.ensures c.in-Some.is (rw (c.proposal_of-proposed.ensures, c.form_of.ensures) at c.open_session-o.ensures) c.outcome_numbers.ensures)
    (λ c. called_unknown _ _ _ _ c.phase_given.ensures c.in-None.is c.refuse_unknown.ensures) in
    tie.close answers
