use mathlib.Core.Path.{sym}
use Rattle.octets.proofs.Laid.{laid_none}
use Rattle.block.specs.Run.{spelled}
use Rattle.block0.proofs.writing.put_late.Goals as goal

pub returns-in-One : goal.returns-in-One
unfolding spelled
returns-in-One c = rw c.in-One.is (sym (laid_none _ 28))

pub returns-in-Two : goal.returns-in-Two
unfolding spelled
returns-in-Two c = rw c.in-Two.is c.put_u32.ensures
