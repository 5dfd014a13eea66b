use borrow.Author.Rules.{rules}
use borrow.Author.Tests.{eq-eqb, ne_eqb}
use Rattle.message.proofs.bears.Statement.{statement}
use Rattle.message.proofs.bears.Tie as tie

pub bears_spec : {M : Type 1} → statement M
bears_spec =
    let answers = tie.spec
    (λ c. search rules) (λ c. search rules) (λ c. search rules) (λ c. search rules)
    (λ c. search rules) (λ c. search rules) (λ c. search rules) (λ c. search rules)
    (λ c. search rules) (λ c. search rules) (λ c. search rules)
    (λ c. search rules) (λ c. search rules) (λ c. search rules) (λ c. search rules) (λ c. search rules)
    (λ c. simp (c.in-Mapping.is, ne_eqb _ _ c.if-found-ne0.true))
    (λ c. simp (c.in-Mapping.is, eq-eqb _ _ c.if-found-ne0.false))
    (λ c. rw c.in-Request.is)
    (λ c. rw c.in-Withdraw.is)
    (λ c. rw c.in-Release.is)
    (λ c. simp (c.in-Abort.is, ne_eqb _ _ c.if-found-ne0-2.true))
    (λ c. simp (c.in-Abort.is, eq-eqb _ _ c.if-found-ne0-2.false))
    (λ c. search rules) in
    tie.close answers
