use native.Mathlib.Omega.{arith}
use borrow.Author.Rules.{rules}
use Rattle.block.proofs.ZeroBytes.{cleared-zero}
use Rattle.word_block.proofs.Same.{none_put}
use Rattle.word_block.proofs.write_none.Goals as goal

pub seal_before-requires : goal.seal_before-requires
seal_before-requires c =
    (search rules, omega arith, rw c.zero_to.ensures (cleared-zero _ 0 508 508 (search rules) (omega arith)))

pub returns : goal.returns
returns c = none_put _ c.requires c.zero_to.ensures c.seal_before.ensures
