use mathlib.Core.Path.{sym, ◌∙◌}
use borrow.Author.Rules.{rules}
use Rattle.image.proofs.Sound.{sound_parts}
use Rattle.calls.proofs.Phasing.{fits_read}
use Rattle.calls.proofs.Settled.{admit_checks, checks_sound, admit_phase, admit_rest}
use Rattle.calls.proofs.admitting.admit.Statement.{statement}
use Rattle.calls.proofs.admitting.admit.Tie as tie

pub admit_spec : {M : Type 1} → statement M
admit_spec =
    let answers = tie.spec
    (λ c κs. search rules)
    (λ c κs. search rules)
    (λ c. admit_checks _ _ _ c.check-a.ensures (sym c.is_done.ensures ∙ c.if-not-is_done.true))
    (λ c κs. (sound_parts _ (checks_sound _ c.check-a.ensures (sym c.is_done.ensures ∙ c.if-not-is_done.false))).size)
    (λ c κs. search rules)
    (λ c. admit_phase _ _ _ (checks_sound _ c.check-a.ensures (sym c.is_done.ensures ∙ c.if-not-is_done.false))
    (fits_read _ _ c.phase_fits.ensures c.header_of.ensures (c.if-not-phase_fits.true)))
    (λ c. admit_rest _ _ _ (checks_sound _ c.check-a.ensures (sym c.is_done.ensures ∙ c.if-not-is_done.false))
    (fits_read _ _ c.phase_fits.ensures c.header_of.ensures (c.if-not-phase_fits.false))) in
    tie.close answers
