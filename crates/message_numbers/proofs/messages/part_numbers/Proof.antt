-- `message_numbers::messages::part_numbers` meets its contract. Assumes nothing.
use borrow.Author.Rules.{rules}
use borrow.Author.Tests.{lt-ltb, le-ltb}
use Rattle.message_numbers.proofs.messages.part_numbers.Statement.{statement}
use Rattle.message_numbers.proofs.messages.part_numbers.Tie as tie

pub part_numbers_spec : {M : Type 1} → statement M
part_numbers_spec =
    let answers = tie.spec
    (λ c. rw (lt-ltb _ _ c.if-end-gt4294967295.true))
    (λ c. search rules)
    (λ c. search rules)
    (λ c. rw (le-ltb _ _ c.if-end-gt4294967295.false)) in
    tie.close answers
