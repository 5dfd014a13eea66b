use Rattle.submit.proofs.Queueing.{change-at}
use Rattle.submit.proofs.storing.store_change.Goals as goal

pub store_label-requires : goal.store_label-requires
store_label-requires c = (c.requires.0, change-at _ _ _ _ c.requires.1 c.in-Put.is)
