use Rattle.init.proofs.Stored.{begun_is}
use Rattle.init.proofs.beginning.begin.Goals as goal

pub returns : goal.returns
returns c = begun_is _ c.requires.0.size _ _ c.store_start.ensures.0 c.begun_phase.ensures c.store_start.ensures.1
