use borrow.Author.Rules.{rules}
use Rattle.label_events.proofs.changing.move_to.Statement.{statement}
use Rattle.label_events.proofs.changing.move_to.Tie as tie

pub move_to_spec : {M : Type 1} → statement M
move_to_spec = tie.close (tie.spec (λ c. search rules) (λ c. search rules) (λ c. rw c.in-Some.is) (λ c. search rules))
