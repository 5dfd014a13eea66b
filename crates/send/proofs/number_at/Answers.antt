use Rattle.send.proofs.Acts.{number_is}
use Rattle.send.proofs.number_at.Goals as goal

pub returns : goal.returns
returns c = number_is _ _ c.advance.ensures
