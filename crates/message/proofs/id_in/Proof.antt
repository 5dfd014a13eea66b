use borrow.Author.Rules.{rules}
use Rattle.message.proofs.id_in.Statement.{statement}
use Rattle.message.proofs.id_in.Tie as tie

pub id_in_spec : {M : Type 1} → statement M
id_in_spec =
    let answers = tie.spec
    (λ c. search rules)
    (λ c. cc) in
    tie.close answers
