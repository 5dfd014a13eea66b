use Rattle.std.proofs.Common.{sym, arith}
use Rattle.ft_number.proofs.Circle.{advanced_none, after_is}
use Rattle.ft_number.proofs.advance.Goals as goal

pub returns-then-sum-eq0 : goal.returns-then-sum-eq0
returns-then-sum-eq0 c = advanced_none _ _ (omega arith)

pub returns : goal.returns
returns c = sym (after_is _ _ (omega arith) (omega arith))
