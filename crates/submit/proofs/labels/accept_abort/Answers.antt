use Rattle.submit.proofs.Accepted.{abort_is}
use Rattle.submit.proofs.labels.accept_abort.Goals as goal

pub returns : goal.returns
returns c = abort_is _ c.labels_of.ensures c.ids_of.ensures _ c.abort.ensures.0 c.abort.ensures.1
