use borrow.Author.Rules.{rules}
use Rattle.message.proofs.Submissions.{judgements}
use Rattle.message.proofs.judge_submission.Statement.{statement}
use Rattle.message.proofs.judge_submission.Tie as tie

pub judge_submission_spec : {M : Type 1} → statement M
judge_submission_spec =
    let answers = tie.spec
    (λ c κs. search rules)
    (λ c. search rules)
    (λ c. search rules)
    (λ c κs. search (rules, judgements))
    (λ c κs. search (rules, judgements))
    (λ c κs. search rules)
    (λ c κs. search rules)
    (λ c. search (rules, judgements))
    (λ c κs. search (rules, judgements))
    (λ c κs. search (rules, judgements))
    (λ c κs. search rules)
    (λ c κs. search rules)
    (λ c. search (rules, judgements))
    (λ c κs. search rules)
    (λ c. search (rules, judgements))
    (λ c. search (rules, judgements))
    (λ c. search (rules, judgements))
    (λ c. search (rules, judgements))
    (λ c κs. search (rules, judgements))
    (λ c. search (rules, judgements))
    (λ c. search (rules, judgements)) in
    tie.close answers
