-- `dump::line::put_ft` meets its contract. Assumes nothing.
use borrow.Author.Rules.{rules}
use Rattle.text.proofs.Pieces.{pieces}
use Rattle.dump.proofs.line.put_ft.Statement.{statement}
use Rattle.dump.proofs.line.put_ft.Tie as tie

pub put_ft_spec : {M : Type 1} → statement M
put_ft_spec =
    let answers = tie.spec
    (λ c. search rules)
    (λ c. search rules)
    (λ c. search rules)
    (λ c. search rules)
    (λ c. search (rules, pieces)) in
    tie.close answers
