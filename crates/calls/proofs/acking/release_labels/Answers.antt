use native.Mathlib.Omega.{arith}
use borrow.Author.Rules.{rules}
use Rattle.image.proofs.Queue.{queue_length}
use Rattle.calls.proofs.Releasing.{releasing_none, releasing_one, releasing_all}
use Rattle.calls.proofs.acking.release_labels.Goals as goal

pub loop-i-init : goal.loop-i-init
loop-i-init c = releasing_none _ _ _

pub loop-i-preserved : goal.loop-i-preserved
loop-i-preserved c =
    releasing_one _ _ _ c.loop-i.invariant (omega arith) (rw queue_length (omega arith)) c.held_kind.ensures c.held_label.ensures (search rules)
    c.release_label.ensures

pub returns : goal.returns
returns c = releasing_all _ _ _ c.loop-i.invariant (omega arith)
