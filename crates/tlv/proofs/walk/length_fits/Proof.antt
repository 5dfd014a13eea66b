use borrow.Author.Rules.{rules}
use borrow.Author.Tests.{eq-eqb, ne_eqb}
use Rattle.tlv.proofs.walk.length_fits.Statement.{statement}
use Rattle.tlv.proofs.walk.length_fits.Tie as tie

pub length_fits_spec : {M : Type 1} → statement M
length_fits_spec =
    let answers = tie.spec
    (λ c. search rules) (λ c. search rules) (λ c. search rules) (λ c. search rules)
    (λ c. search rules) (λ c. search rules) (λ c. search rules) (λ c. search rules)
    (λ c. search rules) (λ c. search rules)
    (λ c. rw c.in-Label.is)
    (λ c. rw c.in-Status.is)
    (λ c. rw c.in-Parameters.is)
    (λ c. simp (c.in-Session.is, eq-eqb _ _ c.if-n-eq4.true))
    (λ c. simp (c.in-Session.is, ne_eqb _ _ c.if-n-eq4.false))
    (λ c. rw c.in-Protection.is)
    (λ c. rw c.in-Ack.is)
    (λ c. rw c.in-RequestId.is)
    (λ c. search rules) in
    tie.close answers
