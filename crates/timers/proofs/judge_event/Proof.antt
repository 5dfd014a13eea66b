use mathlib.Core.Bool.{not}
use mathlib.Core.Path.{ap}
use borrow.Author.Rules.{rules}
use Rattle.octets.proofs.Choice.{denied, granted}
use Rattle.timers.proofs.Judged.{event_first, event_phase}
use Rattle.timers.proofs.judge_event.Statement.{statement}
use Rattle.timers.proofs.judge_event.Tie as tie

pub judge_event_spec : {M : Type 1} → statement M
judge_event_spec =
    let answers = tie.spec
    (λ c κs. search rules)
    (λ c κs. search rules)
    (λ c. event_first _ _ _ c.admit-a.ensures (denied c.is_done.ensures (ap not c.if-not-is_done.true)))
    (λ c. event_phase _ _ _ c.admit-a.ensures (granted c.is_done.ensures (ap not c.if-not-is_done.false)) (c.if-not-may.true))
    (λ c. event_phase _ _ _ c.admit-a.ensures (granted c.is_done.ensures (ap not c.if-not-is_done.false)) (c.if-not-may.false)) in
    tie.close answers
