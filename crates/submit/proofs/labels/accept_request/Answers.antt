use Rattle.submit.proofs.Accepted.{request_is}
use Rattle.submit.proofs.labels.accept_request.Goals as goal

pub returns : goal.returns
returns c = request_is _ c.labels_of.ensures c.ids_of.ensures _ c.ask.ensures.0 c.ask.ensures.1
