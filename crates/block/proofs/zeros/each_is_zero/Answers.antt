use Rattle.std.proofs.Common.{rules}
use Rattle.block.proofs.ZeroBytes.{zero_by}
use Rattle.block.proofs.zeros.each_is_zero.Goals as goal

pub returns : goal.returns
returns c = zero_by _ _ (search rules)
