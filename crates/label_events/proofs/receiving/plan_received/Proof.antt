use mathlib.Core.Path.{◌∙◌}
use native.Mathlib.Omega.{arith}
use Rattle.label_list.proofs.Small.{received-small}
use Rattle.label_events.proofs.Planned.{place_in, received_low, received_high, received_is}
use Rattle.label_events.proofs.receiving.plan_received.Statement.{statement}
use Rattle.label_events.proofs.receiving.plan_received.Tie as tie

pub plan_received_spec : {M : Type 1} → statement M
plan_received_spec =
    let answers = tie.spec
    (λ c. received_low _ _ _ _ _ _ c.if-label-lt-FIRST_LABEL.true)
    (λ c. received_high _ _ _ _ _ _ c.if-label-ge-LABEL_COUNT.true)
    (λ c κs. place_in _ _ _ c.requires)
    (λ c κs. tt)
    (λ c κs. tt)
    (λ c κs. tt)
    (λ c κs. (omega arith, rw c.code_received-code.ensures (received-small c.args.message c.args.protected _ c.code_at.ensures.1)))
    (λ c. c.plan_place.ensures ∙ received_is _ _ _ _ _ _ (omega arith) (omega arith) c.requires c.code_at.ensures.0 c.code_received-code.ensures c.room_at-room.ensures c.moves_by.ensures) in
    tie.close answers
