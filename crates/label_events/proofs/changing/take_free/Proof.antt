use borrow.Author.Rules.{rules}
use Rattle.label_events.proofs.changing.take_free.Statement.{statement}
use Rattle.label_events.proofs.changing.take_free.Tie as tie

pub take_free_spec : {M : Type 1} → statement M
take_free_spec = tie.close (tie.spec (λ c. search rules) (λ c. search rules) (λ c. rw c.in-Some.is) (λ c. search rules))
