-- `session_numbers::outcome::refuse_unknown` meets its contract. Assumes nothing.
use mathlib.Core.Bool.{not}
use mathlib.Core.Path.{ap}
use borrow.Author.Rules.{rules}
use Rattle.octets.proofs.Choice.{denied, granted}
use Rattle.session_numbers.proofs.Called.{unknown_refused, unknown_sound, unknown_narrow, barred_narrow}
use Rattle.session_numbers.proofs.outcome.refuse_unknown.Statement.{statement}
use Rattle.session_numbers.proofs.outcome.refuse_unknown.Tie as tie

pub refuse_unknown_spec : {M : Type 1} → statement M
refuse_unknown_spec =
    let answers = tie.spec
    (λ c κs. search rules)
    (λ c κs. search rules)
    (λ c κs. search rules)
    (λ c κs. unknown_narrow _ c.check-a.ensures c.refuse.ensures)
    (λ c. unknown_refused _ _ c.check-a.ensures (denied c.is_done.ensures (ap not c.if-not-is_done.true)) c.refuse.ensures c.outcome_numbers.ensures)
    (λ c κs. search rules)
    (λ c κs. barred_narrow c.refuse-2.ensures)
    (λ c. unknown_sound _ _ c.check-a.ensures (granted c.is_done.ensures (ap not c.if-not-is_done.false)) c.refuse-2.ensures c.outcome_numbers-2.ensures) in
    tie.close answers
