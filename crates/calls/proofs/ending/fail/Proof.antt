use borrow.Author.Rules.{rules}
use Rattle.calls.proofs.Ends.{fail_none, fail_some}
use Rattle.calls.proofs.ending.fail.Statement.{statement}
use Rattle.calls.proofs.ending.fail.Tie as tie

pub fail_spec : {M : Type 1} → statement M
fail_spec =
    let answers = tie.spec
    (λ c κs. search rules)
    (λ c κs. search rules)
    (λ c κs. search rules)
    (λ c κs. search rules)
    (λ c. search rules)
    (λ c. fail_none _ _ _ c.requires (λ k. (c.slice_known-1.given k).fits) c.header_of.ensures c.resting_phase-phase.ensures c.has_unprotected.ensures (c.if-not-has_unprotected.true) c.refuse.ensures)
    (λ c κs. search rules)
    (λ c. search rules)
    (λ c. fail_some _ _ _ c.requires (λ k. (c.slice_known-1.given k).fits) c.header_of.ensures c.resting_phase-phase.ensures c.has_unprotected.ensures (c.if-not-has_unprotected.false) c.free_unprotected.ensures) in
    tie.close answers
