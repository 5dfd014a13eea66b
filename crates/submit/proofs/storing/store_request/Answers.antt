use Rattle.submit.proofs.Queueing.{change-at}
use Rattle.submit.proofs.storing.store_request.Goals as goal

pub store_id-requires : goal.store_id-requires
store_id-requires c = (c.requires.0, change-at _ _ _ _ c.requires.1 c.in-Put.is)
