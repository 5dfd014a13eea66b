use mathlib.Core.Path.{sym, ◌∙◌}
use Rattle.tlv.specs.Element.{fec_of}
use Rattle.tlv.proofs.Elements.{prefix_length_lem}
use Rattle.tlv.proofs.element.fec_of.Statement.{statement}
use Rattle.tlv.proofs.element.fec_of.Tie as tie

pub fec_of_spec : {M : Type 1} → statement M
unfolding fec_of
fec_of_spec =
    let answers = tie.spec
    (λ c κs. tt)
    (λ c. rw (← c.is_wildcard.ensures, c.if-is_wildcard.true))
    (λ c κs. tt)
    (λ c κs. prefix_length_lem _ (sym c.is_prefix.ensures ∙ c.if-is_prefix.true))
    (λ c. rw (← c.is_wildcard.ensures, c.if-is_wildcard.false, ← c.is_prefix.ensures, c.if-is_prefix.true, c.prefix_of.ensures))
    (λ c. rw (← c.is_wildcard.ensures, c.if-is_wildcard.false, ← c.is_prefix.ensures, c.if-is_prefix.false)) in
    tie.close answers
