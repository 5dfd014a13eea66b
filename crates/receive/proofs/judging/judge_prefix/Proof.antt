use borrow.Author.Rules.{rules}
use Rattle.receive.proofs.judging.judge_prefix.Statement.{statement}
use Rattle.receive.proofs.judging.judge_prefix.Tie as tie

pub judge_prefix_spec : {M : Type 1} → statement M
judge_prefix_spec =
    let answers = tie.spec
    (λ c. search rules)
    (λ c κs. search rules)
    (λ c. search rules)
    (λ c κs. (c.requires.0, c.requires.1, c.requires.2, c.requires.3, λ y. c.index_of.ensures))
    (λ c. search rules)
    (λ c. c.judge_beside.ensures) in
    tie.close answers
