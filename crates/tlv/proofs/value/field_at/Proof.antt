use native.Mathlib.Omega.{arith}
use Rattle.octets.proofs.Choice.{where_equal, where_apart}
use Rattle.tlv.specs.Value.{field_at}
use Rattle.tlv.proofs.value.field_at.Statement.{statement}
use Rattle.tlv.proofs.value.field_at.Tie as tie

pub field_at_spec : {M : Type 1} → statement M
field_at_spec =
    let answers = tie.spec
    (λ c. unfold field_at in where_equal _ 0 _ _ c.if-place-eq0.true)
    (λ c. omega (arith, c.requires c.if-place-eq0.false))
    (λ c κs. omega (arith, c.requires c.if-place-eq0.false))
    (λ c. unfold field_at in where_apart _ 0 _ _ c.if-place-eq0.false (cc)) in
    tie.close answers
