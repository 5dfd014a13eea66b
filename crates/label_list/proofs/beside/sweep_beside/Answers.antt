use Rattle.std.proofs.Common.{arith}
use Rattle.label_list.proofs.Besides.{beside_none, beside_more, beside_end}
use Rattle.label_list.proofs.beside.sweep_beside.Goals as goal

pub loop-i-init : goal.loop-i-init
loop-i-init c = beside_none _ _ _

pub loop-i-preserved : goal.loop-i-preserved
loop-i-preserved c =
    beside_more _ _ _ _ _ c.loop-i.invariant (omega arith) (omega arith) c.word_beside.ensures

pub returns : goal.returns
returns c = beside_end _ _ _ _ _ c.loop-i.invariant (omega arith)
