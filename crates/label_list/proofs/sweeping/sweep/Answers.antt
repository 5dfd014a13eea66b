use Rattle.std.proofs.Common.{arith}
use Rattle.octets.proofs.Map.{mapped_none, mapped_more, mapped_all}
use Rattle.label_list.proofs.sweeping.sweep.Goals as goal

pub loop-word-init : goal.loop-word-init
loop-word-init c = mapped_none _ _

pub loop-word-preserved : goal.loop-word-preserved
loop-word-preserved c = mapped_more _ _ _ _ c.loop-word.invariant (omega arith) c.word_swept.ensures

pub returns : goal.returns
returns c = mapped_all _ _ _ _ c.loop-word.invariant (omega arith)
