-- `dump_fields::put_type` meets its contract. Assumes nothing.
use borrow.Author.Rules.{rules}
use Rattle.octets.specs.Laid.{laid}
use Rattle.dump_fields.proofs.put_type.Statement.{statement}
use Rattle.dump_fields.proofs.put_type.Tie as tie

pub put_type_spec : {M : Type 1} → statement M
unfolding laid
put_type_spec =
    let answers = tie.spec
    (λ c. search rules)
    (λ c. search rules)
    (λ c. search rules)
    (λ c. search rules)
    (λ c. search rules)
    (λ c. (rw c.put_u16.ensures at c.put_bytes.ensures.0, search rules)) in
    tie.close answers
