use Rattle.block.proofs.Run.{run-put}
use Rattle.block0.proofs.writing.put_numbers.Goals as goal

pub returns : goal.returns
returns c = run-put _ _ _ _ (cc)
