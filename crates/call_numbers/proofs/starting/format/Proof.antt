-- `call_numbers::starting::format` meets its contract. Assumes nothing.
use mathlib.Core.Path.{◌∙◌}
use borrow.Author.Rules.{rules}
use Rattle.session_numbers.proofs.Called.{narrow_is, shown_is}
use Rattle.call_numbers.proofs.Calls.{format_narrow}
use Rattle.call_numbers.proofs.starting.format.Statement.{statement}
use Rattle.call_numbers.proofs.starting.format.Tie as tie

pub format_spec : {M : Type 1} → statement M
format_spec =
    let answers = tie.spec
    (λ c κs. search rules)
    (λ c κs. search rules)
    (λ c κs. narrow_is c.format-formatted.ensures (format_narrow _))
    (λ c. search rules)
    (λ c. shown_is _ c.format-formatted.ensures (c.outcome_numbers.ensures ∙ (rw c.session_of.ensures))) in
    tie.close answers
