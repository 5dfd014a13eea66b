-- `image::judging::judge_block` meets its contract: block 65, or one of the index. Assumes nothing.
use native.Mathlib.Omega.{arith}
use borrow.Author.Rules.{rules}
use Rattle.image.proofs.judging.judge_block.Statement.{statement}
use Rattle.image.proofs.judging.judge_block.Tie as tie

pub judge_block_spec : {M : Type 1} → statement M
judge_block_spec =
    let answers = tie.spec
    (λ c κs. search rules)
    (λ c. rw c.if-b-eq-REQUEST_BLOCK.true c.judge_requests.ensures)
    (λ c κs. (search rules, omega arith, search rules))
    (λ c. search rules) in
    tie.close answers
