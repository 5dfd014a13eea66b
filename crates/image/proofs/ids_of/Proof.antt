-- `image::ids_of` meets its contract, by the definition. Assumes nothing.
use borrow.Author.Rules.{rules}
use Rattle.image.specs.State.{stored_ids}
use Rattle.image.proofs.ids_of.Statement.{statement}
use Rattle.image.proofs.ids_of.Tie as tie

pub ids_of_spec : {M : Type 1} → statement M
unfolding stored_ids
ids_of_spec =
    let answers = tie.spec
    (λ c κs. search rules)
    (λ c κs. search rules)
    (λ c. search rules)
    (λ c. cc) in
    tie.close answers
