-- `image::labels_of` meets its contract, by the definition. Assumes nothing.
use borrow.Author.Rules.{rules}
use Rattle.image.specs.State.{decode}
use Rattle.image.proofs.labels_of.Statement.{statement}
use Rattle.image.proofs.labels_of.Tie as tie

pub labels_of_spec : {M : Type 1} → statement M
unfolding decode
labels_of_spec =
    let answers = tie.spec
    (λ c κs. search rules)
    (λ c κs. search rules)
    (λ c. search rules)
    (λ c. cc) in
    tie.close answers
