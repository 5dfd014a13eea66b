use borrow.Author.Rules.{rules}
use Rattle.receive.proofs.room.spare_beside.Statement.{statement}
use Rattle.receive.proofs.room.spare_beside.Tie as tie

pub spare_beside_spec : {M : Type 1} → statement M
spare_beside_spec =
    let answers = tie.spec
    (λ c. search rules)
    (λ c. search rules)
    (λ c κs. search rules)
    (λ c. search rules)
    (λ c. rw c.in-None.is c.find_spare.ensures) in
    tie.close answers
