-- `connect::starting::format` meets its contract. Assumes nothing.
use borrow.Author.Rules.{rules}
use Rattle.connect.proofs.Started.{format_wrong, format_right}
use Rattle.connect.proofs.starting.format.Statement.{statement}
use Rattle.connect.proofs.starting.format.Tie as tie

pub format_spec : {M : Type 1} → statement M
format_spec =
    let answers = tie.spec
    (λ c κs. search rules)
    (λ c κs. search rules)
    (λ c κs. search rules)
    (λ c. search rules)
    (λ c. format_wrong _ c.format-verdict.ensures c.verdict_number.ensures c.if-verdict_number-ne0.true c.refuse.ensures)
    (λ c. search rules)
    (λ c. format_right _ c.format-verdict.ensures c.verdict_number.ensures c.if-verdict_number-ne0.false) in
    tie.close answers
