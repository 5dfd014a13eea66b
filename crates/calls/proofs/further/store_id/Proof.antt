use borrow.Author.Rules.{rules}
use Rattle.calls.proofs.Told.{id_another, id_stood}
use Rattle.calls.proofs.further.store_id.Statement.{statement}
use Rattle.calls.proofs.further.store_id.Tie as tie

pub store_id_spec : {M : Type 1} → statement M
store_id_spec =
    let answers = tie.spec
    (λ c κs. search rules)
    (λ c κs. search rules)
    (λ c. search rules)
    (λ c. (c.store_id.ensures, id_stood _ _ _ c.id_at-before.ensures c.if-before-id.true))
    (λ c. search rules)
    (λ c. (c.store_id.ensures, id_another _ _ _ c.id_at-before.ensures c.if-before-id.false)) in
    tie.close answers
