use native.Mathlib.Omega.{arith}
use Rattle.octets.proofs.Choice.{where_equal, where_apart}
use Rattle.tlv.specs.Value.{id_at}
use Rattle.tlv.proofs.value.id_at.Statement.{statement}
use Rattle.tlv.proofs.value.id_at.Tie as tie

pub id_at_spec : {M : Type 1} → statement M
id_at_spec =
    let answers = tie.spec
    (λ c. unfold id_at in where_equal _ 0 _ _ c.if-place-eq0.true)
    (λ c. omega (arith, c.requires c.if-place-eq0.false))
    (λ c. omega (arith, c.requires c.if-place-eq0.false))
    (λ c κs. omega (arith, c.requires c.if-place-eq0.false))
    (λ c. unfold id_at in where_apart _ 0 _ _ c.if-place-eq0.false (cc)) in
    tie.close answers
