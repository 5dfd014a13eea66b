use borrow.Author.Tests.{eq-eqb, ne_eqb}
use Rattle.calls.proofs.phases.resting_phase.Statement.{statement}
use Rattle.calls.proofs.phases.resting_phase.Tie as tie

pub resting_phase_spec : {M : Type 1} → statement M
resting_phase_spec =
    let answers = tie.spec (λ c. rw (eq-eqb _ 1 c.if-h-eq1.true)) (λ c. rw (ne_eqb _ 1 c.if-h-eq1.false)) in
    tie.close answers
