use Rattle.std.proofs.Common.{arith}
use Rattle.ft_number.proofs.Laws.{lesser_of_lem}
use Rattle.ft_number.proofs.lesser_timeout.Goals as goal

pub returns-then-a-eq0 : goal.returns-then-a-eq0
returns-then-a-eq0 c = lesser_of_lem _ _ _ (omega arith)

pub returns-then-b-eq0 : goal.returns-then-b-eq0
returns-then-b-eq0 c = lesser_of_lem _ _ _ (omega arith)

pub returns : goal.returns
returns c = lesser_of_lem _ _ _ (omega arith)
