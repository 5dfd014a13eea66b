-- `dump_fields::put_bytes` meets its contract. Assumes nothing.
use borrow.Author.Rules.{rules}
use Rattle.text.proofs.Pieces.{pieces}
use Rattle.dump_fields.proofs.Values.{values}
use Rattle.dump_fields.proofs.put_bytes.Statement.{statement}
use Rattle.dump_fields.proofs.put_bytes.Tie as tie

pub put_bytes_spec : {M : Type 1} → statement M
put_bytes_spec =
    let answers = tie.spec
    (λ c. search rules)
    (λ c. search rules)
    (λ c. search rules)
    (λ c. search (rules, pieces, values))
    (λ c. search rules)
    (λ c. search rules)
    (λ c. search (rules, pieces, values)) in
    tie.close answers
