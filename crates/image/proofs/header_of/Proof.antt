-- `image::header_of` meets its contract, by the definition. Assumes nothing.
use borrow.Author.Rules.{rules}
use Rattle.image.specs.State.{decode}
use Rattle.image.proofs.header_of.Statement.{statement}
use Rattle.image.proofs.header_of.Tie as tie

pub header_of_spec : {M : Type 1} → statement M
unfolding decode
header_of_spec =
    let answers = tie.spec
    (λ c κs. search rules)
    (λ c κs. search rules)
    (λ c. cc) in
    tie.close answers
