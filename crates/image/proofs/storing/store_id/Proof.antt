-- `image::storing::store_id` meets its contract: the block is lent and written whole. Assumes nothing.
use native.Mathlib.Omega.{arith}
use borrow.Author.Rules.{rules}
use Rattle.octets.proofs.Laid.{laid-between}
use Rattle.word_block.proofs.Written.{length-word_block}
use Rattle.image.specs.State.{stored_ids, store_id}
use Rattle.image.proofs.storing.store_id.Statement.{statement}
use Rattle.image.proofs.storing.store_id.Tie as tie

pub store_id_spec : {M : Type 1} → statement M
unfolding store_id stored_ids
store_id_spec =
    let answers = tie.spec
    (λ c. omega arith)
    (λ c. omega arith)
    (λ c. omega arith)
    (λ c. omega arith)
    (λ c. omega arith)
    (λ c κs. search rules)
    (λ c. search rules)
    (λ c. rw c.write_word.ensures (laid-between _ 33280 33792 _ (omega arith) (omega arith) (length-word_block _))) in
    tie.close answers
