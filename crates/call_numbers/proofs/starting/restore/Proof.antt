-- `call_numbers::starting::restore` meets its contract. Assumes nothing.
use mathlib.Core.Path.{◌∙◌}
use borrow.Author.Rules.{rules}
use Rattle.session_numbers.proofs.Called.{narrow_is, shown_is}
use Rattle.call_numbers.proofs.Calls.{restore_narrow}
use Rattle.call_numbers.proofs.starting.restore.Statement.{statement}
use Rattle.call_numbers.proofs.starting.restore.Tie as tie

pub restore_spec : {M : Type 1} → statement M
restore_spec =
    let answers = tie.spec
    (λ c κs. search rules)
    (λ c κs. search rules)
    (λ c κs. narrow_is c.restore-restored.ensures (restore_narrow _))
    (λ c. search rules)
    (λ c. shown_is _ c.restore-restored.ensures (c.outcome_numbers.ensures ∙ (rw c.session_of.ensures))) in
    tie.close answers
