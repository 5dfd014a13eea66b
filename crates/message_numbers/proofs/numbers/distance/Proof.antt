-- `message_numbers::numbers::distance` meets its contract. Assumes nothing.
use borrow.Author.Rules.{rules}
use mir.Facts.{to_z-of_z}
use mir.Syntax.{w32}
use Rattle.message_numbers.proofs.numbers.distance.Statement.{statement}
use Rattle.message_numbers.proofs.numbers.distance.Tie as tie

pub distance_spec : {M : Type 1} → statement M
distance_spec =
    let answers = tie.spec
    (λ c κs. search rules)
    (λ c. search rules)
    (λ c. search rules)
    (λ c. rw (← c.signed_distance.ensures, c.in-Some.is) (rw (to_z-of_z {w = w32} (record { sfits = c.in-Some.known_told-1-own.given.0.1 }))))
    (λ c. rw (← c.signed_distance.ensures, c.in-None.is)) in
    tie.close answers
