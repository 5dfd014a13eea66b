use Rattle.std.proofs.Common.{arith}
use Rattle.block.proofs.ZeroParts.{ends_all}
use Rattle.block.proofs.zeros.few_are_zero.Goals as goal

pub returns-then-s-lt32 : goal.returns-then-s-lt32
returns-then-s-lt32 c = ends_all _ 16 _ _ (omega arith) (omega arith) c.joined.ensures c.joined-then-s-lt32.ensures

pub returns-then-s-lt64 : goal.returns-then-s-lt64
returns-then-s-lt64 c =
    ends_all _ 32 _ _ (omega arith) (omega arith) c.joined-then-s-lt64.ensures c.joined-then-s-lt64-2.ensures

pub returns : goal.returns
returns c = ends_all _ 64 _ _ (omega arith) (omega arith) c.joined-2.ensures c.joined-3.ensures
