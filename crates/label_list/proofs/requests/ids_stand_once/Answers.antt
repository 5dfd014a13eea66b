use Rattle.std.proofs.Common.{refl, sym, ◌∙◌, arith}
use Rattle.label_list.proofs.Once.{passed_end, passed_all, passed_known, passed_twice, passed-more}
use Rattle.label_list.proofs.requests.ids_stand_once.Goals as goal

pub loop-i-init : goal.loop-i-init
loop-i-init c = passed_end _ _ _ refl c.min-i.ensures

pub mark_request-requires : goal.mark_request-requires
mark_request-requires c = passed_known _ _ _ c.loop-i.invariant (omega arith)

pub returns-then-not-mark_request : goal.returns-then-not-mark_request
returns-then-not-mark_request c =
    passed_twice _ _ _ c.loop-i.invariant (omega arith) (sym c.if-not-mark_request.true ∙ c.mark_request.ensures.0)

pub loop-i-preserved : goal.loop-i-preserved
loop-i-preserved c =
    passed-more _ _ _ c.loop-i.invariant (omega arith) (sym c.if-not-mark_request.false ∙ c.mark_request.ensures.0)
    c.mark_request.ensures.1

pub returns : goal.returns
returns c = passed_all _ _ _ c.loop-i.invariant (omega arith)
