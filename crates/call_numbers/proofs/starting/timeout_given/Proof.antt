-- `call_numbers::starting::timeout_given` meets its contract. Assumes nothing.
use borrow.Author.Rules.{rules}
use borrow.Author.Tests.{lt-ltb, le-ltb}
use Rattle.call_numbers.proofs.starting.timeout_given.Statement.{statement}
use Rattle.call_numbers.proofs.starting.timeout_given.Tie as tie

pub timeout_given_spec : {M : Type 1} → statement M
timeout_given_spec =
    let answers = tie.spec
    (λ c. search rules)
    (λ c. rw (c.in-Draft.is, lt-ltb _ _ c.if-proposal-gt65535.true))
    (λ c. search rules)
    (λ c. search rules)
    (λ c. rw (c.in-Draft.is, le-ltb _ _ c.if-proposal-gt65535.false))
    (λ c. rw c.in-Published.is) in
    tie.close answers
