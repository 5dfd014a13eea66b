use borrow.Author.Tests.{eq-eqb, ne_eqb}
use Rattle.tlv.specs.Element.{is_wildcard}
use Rattle.tlv.proofs.element.is_wildcard.Statement.{statement}
use Rattle.tlv.proofs.element.is_wildcard.Tie as tie

pub is_wildcard_spec : {M : Type 1} → statement M
unfolding is_wildcard
is_wildcard_spec =
    let answers = tie.spec
    (λ c. rw (ne_eqb _ _ c.if-value-ne1.true))
    (λ c κs. tt)
    (λ c. rw (eq-eqb _ _ c.if-value-ne1.false, c.byte_at.ensures.0)) in
    tie.close answers
