use mathlib.Core.Path.{subst, sym, ◌∙◌}
use native.Mathlib.Omega.{arith}
use borrow.Author.Rules.{rules}
use Rattle.label_list.proofs.Reached.{found_in_lem}
use Rattle.label_list.proofs.Small.{SmallNext, accepted_small}
use Rattle.label_events.proofs.Planned.{plan_low, plan_high, plan_allowed, plan_refused}
use Rattle.label_events.proofs.accepting.plan_accept.Statement.{statement}
use Rattle.label_events.proofs.accepting.plan_accept.Tie as tie

pub plan_accept_spec : {M : Type 1} → statement M
plan_accept_spec =
    let answers = tie.spec
    (λ c. plan_low _ _ _ c.if-label-lt-FIRST_LABEL.true)
    (λ c. plan_high _ _ _ c.if-label-ge-LABEL_COUNT.true)
    (λ c κs. tt)
    (λ c κs. tt)
    (λ c κs. found_in_lem _ _ c.find_label-place.ensures)
    (λ c κs. tt)
    (λ c. search rules)
    (λ c κs. (
      omega arith,
      subst SmallNext (sym c.code_accepted.ensures ∙ c.in-Some.is) (accepted_small c.args.message c.code_at.result),
    ))
    (λ c. search rules)
    (λ c. plan_allowed _ _ _ (omega arith) (omega arith) c.sent_side.ensures c.find_label-place.ensures c.code_at.ensures.0 c.code_accepted.ensures c.in-Some.is c.plan_change.ensures)
    (λ c. plan_refused _ _ _ (omega arith) (omega arith) c.sent_side.ensures c.find_label-place.ensures c.code_at.ensures.0 c.code_accepted.ensures c.in-None.is) in
    tie.close answers
