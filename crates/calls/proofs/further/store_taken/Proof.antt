use borrow.Author.Rules.{rules}
use Rattle.calls.proofs.Told.{found_place_in}
use Rattle.calls.proofs.further.store_taken.Statement.{statement}
use Rattle.calls.proofs.further.store_taken.Tie as tie

pub store_taken_spec : {M : Type 1} → statement M
store_taken_spec =
    let answers = tie.spec
    (λ c. search rules)
    (λ c κs. (c.requires.0, found_place_in _ _ _ c.requires.1 c.in-Some.is))
    (λ c. search rules)
    (λ c. search rules)
    (λ c. rw c.in-Some.is c.store_entry.ensures)
    (λ c. search rules) in
    tie.close answers
