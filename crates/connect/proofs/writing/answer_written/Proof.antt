-- `connect::writing::answer_written` meets its contract. Assumes nothing.
use borrow.Author.Rules.{rules}
use Rattle.connect.proofs.writing.answer_written.Statement.{statement}
use Rattle.connect.proofs.writing.answer_written.Tie as tie

pub answer_written_spec : {M : Type 1} → statement M
answer_written_spec =
    let answers = tie.spec
    (λ c. search rules)
    (λ c κs. search rules)
    (λ c. search rules)
    (λ c. rw c.in-None.is c.refuse.ensures)
    (λ c. rw c.in-Some.is) in
    tie.close answers
