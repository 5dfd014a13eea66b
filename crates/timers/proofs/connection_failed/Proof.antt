use mathlib.Core.Bool.{not}
use mathlib.Core.Path.{◌∙◌, ap}
use borrow.Author.Rules.{rules}
use Rattle.octets.proofs.Choice.{denied, granted}
use Rattle.timers.proofs.Judged.{event_refused, event-done, event-sound, failed_settles}
use Rattle.timers.proofs.connection_failed.Statement.{statement}
use Rattle.timers.proofs.connection_failed.Tie as tie

pub connection_failed_spec : {M : Type 1} → statement M
connection_failed_spec =
    let answers = tie.spec
    (λ c κs. search rules)
    (λ c κs. search rules)
    (λ c κs. search rules)
    (λ c κs. search rules)
    (λ c. search rules)
    (λ c. event_refused _ _ _ c.is_connected.ensures c.judge_event-a.ensures _ (denied c.is_done.ensures (ap not c.if-not-is_done.true)) c.refuse.ensures ∙ failed_settles _ _)
    (λ c κs. event-sound _ _ _ c.is_connected.ensures c.judge_event-a.ensures (granted c.is_done.ensures (ap not c.if-not-is_done.false)))
    (λ c. search rules)
    (λ c. event-done _ _ _ c.is_connected.ensures c.judge_event-a.ensures _ (granted c.is_done.ensures (ap not c.if-not-is_done.false)) c.fail.ensures ∙ failed_settles _ _) in
    tie.close answers
