use borrow.Author.Rules.{rules}
use Rattle.receive.proofs.Judged.{message_init, message_fatal, plain_ft, plain_done}
use Rattle.receive.proofs.judging.judge_plain.Statement.{statement}
use Rattle.receive.proofs.judging.judge_plain.Tie as tie

pub judge_plain_spec : {M : Type 1} → statement M
judge_plain_spec =
    let answers = tie.spec
    (λ c κs. search rules)
    (λ c. message_init _ _ c.is_init.ensures c.if-is_init.true)
    (λ c κs. search rules)
    (λ c. message_fatal _ _ c.is_init.ensures c.if-is_init.false c.is_fatal.ensures c.if-is_fatal.true)
    (λ c κs. search rules)
    (λ c. plain_ft _ c.is_init.ensures c.if-is_init.false c.is_fatal.ensures c.if-is_fatal.false c.bears_ft.ensures c.if-bears_ft.true)
    (λ c. plain_done _ c.is_init.ensures c.if-is_init.false c.is_fatal.ensures c.if-is_fatal.false c.bears_ft.ensures c.if-bears_ft.false) in
    tie.close answers
