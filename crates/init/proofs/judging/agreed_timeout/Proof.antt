-- `init::judging::agreed_timeout` meets its contract. Assumes nothing.
use borrow.Author.Rules.{rules}
use Rattle.init.proofs.judging.agreed_timeout.Statement.{statement}
use Rattle.init.proofs.judging.agreed_timeout.Tie as tie

pub agreed_timeout_spec : {M : Type 1} → statement M
agreed_timeout_spec =
    let answers = tie.spec
    (λ c κs. search rules)
    (λ c κs. search rules)
    (λ c. rw (← c.milliseconds.ensures) c.lesser_timeout.ensures) in
    tie.close answers
