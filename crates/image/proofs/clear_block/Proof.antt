-- `image::clear_block` meets its contract: the block is lent and written whole. Assumes nothing.
use mathlib.Core.Path.{◌∙◌}
use native.Mathlib.Omega.{arith}
use borrow.Author.Rules.{rules}
use Rattle.octets.proofs.Laid.{laid-between}
use Rattle.word_block.proofs.Written.{length-word_block}
use Rattle.image.proofs.clear_block.Statement.{statement}
use Rattle.image.proofs.clear_block.Tie as tie

pub clear_block_spec : {M : Type 1} → statement M
clear_block_spec =
    let answers = tie.spec
    (λ c. omega arith)
    (λ c. omega arith)
    (λ c. omega arith)
    (λ c. omega arith)
    (λ c. omega arith)
    (λ c κs. search rules)
    (λ c. search rules)
    (λ c. rw c.write_none.ensures (laid-between _ _ _ _ (omega arith) (omega arith) (length-word_block _ ∙ omega arith))) in
    tie.close answers
