use borrow.Author.Rules.{rules}
use borrow.Author.Tests.{eq-eqb, ne_eqb, le-leb, lt-leb}
use Rattle.tlv.specs.Element.{is_prefix}
use Rattle.tlv.proofs.element.is_prefix.Statement.{statement}
use Rattle.tlv.proofs.element.is_prefix.Tie as tie

pub is_prefix_spec : {M : Type 1} → statement M
unfolding is_prefix
is_prefix_spec =
    let answers = tie.spec
    (λ c κs. tt)
    (λ c. rw (← c.byte_at.ensures.0, ne_eqb _ _ c.if-byte_at-ne2.true))
    (λ c κs. tt)
    (λ c. search rules)
    (λ c κs. tt)
    (λ c. search rules)
    (λ c. rw (← c.byte_at.ensures.0, eq-eqb _ _ c.if-byte_at-ne2.false, ← c.byte_at-2.ensures.0, ← c.byte_at-3.ensures.0, ne_eqb _ _ c.if-byte_at-ne1.true))
    (λ c κs. tt)
    (λ c. rw (← c.byte_at.ensures.0, eq-eqb _ _ c.if-byte_at-ne2.false, ← c.byte_at-2.ensures.0, ← c.byte_at-3.ensures.0, eq-eqb _ _ c.if-byte_at-ne1.false, ← c.byte_at-length.ensures.0, lt-leb _ _ c.if-length-gt32.true))
    (λ c. search rules)
    (λ c. search rules)
    (λ c. search rules)
    (λ c. rw (← c.byte_at.ensures.0, eq-eqb _ _ c.if-byte_at-ne2.false, ← c.byte_at-2.ensures.0, ← c.byte_at-3.ensures.0, eq-eqb _ _ c.if-byte_at-ne1.false, ← c.byte_at-length.ensures.0, le-leb _ _ c.if-length-gt32.false)) in
    tie.close answers
