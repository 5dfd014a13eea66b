use borrow.Author.Rules.{rules}
use Rattle.calls.proofs.answers.is_done.Statement.{statement}
use Rattle.calls.proofs.answers.is_done.Tie as tie

pub is_done_spec : {M : Type 1} → statement M
is_done_spec =
    let answers = tie.spec (λ c κs. search rules) (λ c. simp c.answer_number.ensures) in
    tie.close answers
