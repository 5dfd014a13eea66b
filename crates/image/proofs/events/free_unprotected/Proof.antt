-- `image::free_unprotected` meets its contract, by the definition. Assumes nothing.
use borrow.Author.Rules.{rules}
use Rattle.image.specs.Events.{break_of}
use Rattle.image.proofs.events.free_unprotected.Statement.{statement}
use Rattle.image.proofs.events.free_unprotected.Tie as tie

pub free_unprotected_spec : {M : Type 1} → statement M
unfolding break_of
free_unprotected_spec =
    let answers = tie.spec
    (λ c κs. search rules)
    (λ c. search rules)
    (λ c κs. search rules)
    (λ c. search rules)
    (λ c κs. search rules)
    (λ c. search rules)
    (λ c κs. search rules)
    (λ c. search rules)
    (λ c. cc) in
    tie.close answers
