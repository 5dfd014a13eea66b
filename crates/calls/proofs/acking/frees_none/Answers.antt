use native.Mathlib.Omega.{arith}
use Rattle.image.proofs.Queue.{queue_length}
use Rattle.calls.proofs.Freeing.{passed_none, passed_one, passed_freeing, passed_all}
use Rattle.calls.proofs.acking.frees_none.Goals as goal

pub loop-i-init : goal.loop-i-init
loop-i-init c = passed_none _ _

pub returns-then-frees_label : goal.returns-then-frees_label
returns-then-frees_label c =
    passed_freeing _ _ _ c.loop-i.invariant (rw queue_length (omega arith)) (omega arith) c.held_kind.ensures c.frees_label.ensures
    c.if-frees_label.true

pub loop-i-preserved : goal.loop-i-preserved
loop-i-preserved c =
    passed_one _ _ _ c.loop-i.invariant (rw queue_length (omega arith)) (omega arith) c.held_kind.ensures c.frees_label.ensures
    c.if-frees_label.false

pub returns : goal.returns
returns c = passed_all _ _ _ c.loop-i.invariant (rw queue_length (omega arith)) (omega arith)
