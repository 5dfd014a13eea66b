use borrow.Author.Rules.{rules}
use Rattle.message.proofs.Submissions.{fts}
use Rattle.message.proofs.bears_ft.Statement.{statement}
use Rattle.message.proofs.bears_ft.Tie as tie

pub bears_ft_spec : {M : Type 1} → statement M
bears_ft_spec =
    let answers = tie.spec
    (λ c. search (rules, fts)) (λ c. search (rules, fts)) (λ c. search (rules, fts)) in
    tie.close answers
