use borrow.Author.Rules.{rules}
use borrow.Author.Tests.{eq-eqb, ne_eqb}
use Rattle.protocol.specs.Phases.{phase_fits}
use Rattle.calls.proofs.phases.phase_fits.Statement.{statement}
use Rattle.calls.proofs.phases.phase_fits.Tie as tie

pub phase_fits_spec : {M : Type 1} → statement M
unfolding phase_fits
phase_fits_spec =
    let answers = tie.spec
    (λ c. search rules)
    (λ c. search rules)
    (λ c. search rules)
    (λ c. simp (c.in-UpFT.is, ne_eqb _ _ c.if-h-ne1.true))
    (λ c κs. search rules)
    (λ c. search rules)
    (λ c. search rules)
    (λ c. simp c.in-Idle.is)
    (λ c. search rules)
    (λ c. simp (c.in-UpFT.is, eq-eqb _ _ c.if-h-ne1.false, c.issued_count.ensures))
    (λ c. simp c.in-UpPlain.is)
    (λ c. simp c.in-Failed.is) in
    tie.close answers
