-- `call_numbers::starting::proposal_of` meets its contract. Assumes nothing.
use borrow.Author.Rules.{rules}
use Rattle.call_numbers.proofs.starting.proposal_of.Statement.{statement}
use Rattle.call_numbers.proofs.starting.proposal_of.Tie as tie

pub proposal_of_spec : {M : Type 1} → statement M
proposal_of_spec =
    let answers = tie.spec
    (λ c κs. search rules)
    (λ c. rw (c.if-given.true, c.timeout_given.ensures))
    (λ c. rw c.if-given.false) in
    tie.close answers
