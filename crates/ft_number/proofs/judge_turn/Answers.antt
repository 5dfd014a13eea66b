use Rattle.std.proofs.Common.{arith}
use Rattle.ft_number.proofs.Turns.{turn-zero}
use Rattle.ft_number.proofs.judge_turn.Goals as goal

pub returns-then-number-eq0 : goal.returns-then-number-eq0
returns-then-number-eq0 c = turn-zero _ _ _ (omega arith)
