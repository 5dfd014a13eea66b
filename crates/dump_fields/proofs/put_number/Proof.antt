-- `dump_fields::put_number` meets its contract. Assumes nothing.
use borrow.Author.Rules.{rules}
use Rattle.text.proofs.Pieces.{pieces}
use Rattle.dump_fields.proofs.put_number.Statement.{statement}
use Rattle.dump_fields.proofs.put_number.Tie as tie

pub put_number_spec : {M : Type 1} → statement M
put_number_spec =
    let answers = tie.spec
    (λ c. search rules)
    (λ c. search rules)
    (λ c. search rules)
    (λ c. search (rules, pieces)) in
    tie.close answers
