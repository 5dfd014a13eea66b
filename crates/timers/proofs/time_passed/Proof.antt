use mathlib.Core.Bool.{not}
use mathlib.Core.Path.{◌∙◌, ap}
use borrow.Author.Rules.{rules}
use Rattle.octets.proofs.Choice.{denied, granted}
use Rattle.timers.proofs.Judged.{event_refused, event-done, event-sound, too_early_lem, late, passed_settles}
use Rattle.timers.proofs.time_passed.Statement.{statement}
use Rattle.timers.proofs.time_passed.Tie as tie

pub time_passed_spec : {M : Type 1} → statement M
time_passed_spec =
    let answers = tie.spec
    (λ c κs. search rules)
    (λ c κs. search rules)
    (λ c κs. search rules)
    (λ c κs. search rules)
    (λ c. search rules)
    (λ c. event_refused _ _ _ c.is_waiting.ensures c.judge_event-a.ensures _ (denied c.is_done.ensures (ap not c.if-not-is_done.true)) c.refuse.ensures ∙ passed_settles _ _ _)
    (λ c κs. (event-sound _ _ _ c.is_waiting.ensures c.judge_event-a.ensures (granted c.is_done.ensures (ap not c.if-not-is_done.false))).size)
    (λ c κs. search rules)
    (λ c κs. search rules)
    (λ c. search rules)
    (λ c.
    let sound = event-sound _ _ _ c.is_waiting.ensures c.judge_event-a.ensures (granted c.is_done.ensures (ap not c.if-not-is_done.false)) in
    event-done _ _ _ c.is_waiting.ensures c.judge_event-a.ensures _ (granted c.is_done.ensures (ap not c.if-not-is_done.false))
    (too_early_lem _ _ _ c.header_of.ensures c.has_expired.ensures sound (λ k. (c.slice_known-1.given k).fits) (c.if-not-has_expired.true) c.refuse-then-not-has_expired.ensures)
    ∙ passed_settles _ _ _)
    (λ c κs. event-sound _ _ _ c.is_waiting.ensures c.judge_event-a.ensures (granted c.is_done.ensures (ap not c.if-not-is_done.false)))
    (λ c. search rules)
    (λ c.
    event-done _ _ _ c.is_waiting.ensures c.judge_event-a.ensures _ (granted c.is_done.ensures (ap not c.if-not-is_done.false))
    (late _ _ _ c.header_of.ensures c.has_expired.ensures (c.if-not-has_expired.false) c.release.ensures)
    ∙ passed_settles _ _ _) in
    tie.close answers
