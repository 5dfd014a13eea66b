-- `session_numbers::phases::session_of` meets its contract. Assumes nothing.
use borrow.Author.Rules.{rules}
use Rattle.session_numbers.proofs.phases.session_of.Statement.{statement}
use Rattle.session_numbers.proofs.phases.session_of.Tie as tie

pub session_of_spec : {M : Type 1} → statement M
session_of_spec =
    let answers = tie.spec
    (λ c. search rules)
    (λ c. search rules)
    (λ c. search rules)
    (λ c κs. search rules)
    (λ c. search rules)
    (λ c. search rules)
    (λ c. rw c.in-Idle.is)
    (λ c. rw c.in-InitWait.is)
    (λ c. rw (c.in-UpFT.is, c.bit_of.ensures))
    (λ c. rw c.in-UpPlain.is)
    (λ c. rw c.in-Failed.is) in
    tie.close answers
