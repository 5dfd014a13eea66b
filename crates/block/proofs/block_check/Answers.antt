use Rattle.std.proofs.Common.{take, arith}
use Rattle.std.proofs.Math.ListN.{length-take}
use borrow.Author.Tests.{le-ltb, lt-ltb}
use Rattle.block.specs.Check.{block_check_of}
use Rattle.block.proofs.ZeroBytes.{zero_past}
use Rattle.block.proofs.block_check.Goals as goal

pub returns-then-block-lt-CHECK_AT : goal.returns-then-block-lt-CHECK_AT
unfolding block_check_of
returns-then-block-lt-CHECK_AT c = simp (lt-ltb _ _ c.if-block-lt-CHECK_AT.true)

pub check_before-requires : goal.check_before-requires
check_before-requires c =
    let b = take 508 c.args.block.now in
    (simp length-take (omega arith), omega arith, zero_past b 508 (simp length-take (omega arith)))

pub returns : goal.returns
unfolding block_check_of
returns c = simp (le-ltb _ _ c.if-block-lt-CHECK_AT.false, c.check_before.ensures)
