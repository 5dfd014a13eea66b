use borrow.Author.Rules.{rules}
use Rattle.tlv.proofs.element.prefix_of.Statement.{statement}
use Rattle.tlv.proofs.element.prefix_of.Tie as tie

pub prefix_of_spec : {M : Type 1} → statement M
prefix_of_spec =
    let answers = tie.spec
    (λ c κs. tt)
    (λ c κs. search rules)
    (λ c κs. rw c.byte_at-length.ensures.0 c.requires)
    (λ c. search rules)
    (λ c. rw (c.masked_to-bits.ensures, c.bits_at.ensures, c.byte_at-length.ensures.0)) in
    tie.close answers
