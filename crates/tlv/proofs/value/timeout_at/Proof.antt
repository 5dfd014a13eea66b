use mathlib.Core.Path.{refl}
use borrow.Author.Rules.{rules}
use Rattle.octets.proofs.Choice.{where_equal, where_apart}
use Rattle.tlv.proofs.value.timeout_at.Statement.{statement}
use Rattle.tlv.proofs.value.timeout_at.Tie as tie

pub timeout_at_spec : {M : Type 1} → statement M
timeout_at_spec =
    let answers = tie.spec
    (λ c. search rules) (λ c κs. search rules) (λ c. search rules) (λ c κs. search rules)
    (λ c. rw (c.get_u32.ensures, ← c.get_u16.ensures) (where_equal _ 12 _ _ c.if-get_u16-eq12.true))
    (λ c. search rules) (λ c κs. search rules)
    (λ c. rw (c.get_u16-2.ensures, ← c.get_u16.ensures) (where_apart _ 12 _ _ c.if-get_u16-eq12.false refl)) in
    tie.close answers
