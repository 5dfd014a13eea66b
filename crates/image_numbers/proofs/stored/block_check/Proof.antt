-- `image_numbers::stored::block_check` meets its contract. Assumes nothing.
use borrow.Author.Rules.{rules}
use Rattle.image_numbers.proofs.stored.block_check.Statement.{statement}
use Rattle.image_numbers.proofs.stored.block_check.Tie as tie

pub block_check_spec : {M : Type 1} → statement M
block_check_spec =
    let answers = tie.spec
    (λ c κs. search rules)
    (λ c. search rules)
    (λ c. search rules)
    (λ c. rw (← c.block_check.ensures, c.in-Some.is))
    (λ c. rw (← c.block_check.ensures, c.in-None.is)) in
    tie.close answers
