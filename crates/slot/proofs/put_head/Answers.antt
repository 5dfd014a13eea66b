use Rattle.block.proofs.Run.{run-put}
use Rattle.slot.proofs.put_head.Goals as goal

pub returns : goal.returns
returns c = run-put _ _ _ _ (cc)
