use Rattle.std.proofs.Common.{Some}
use mathlib.Core.Path.{ap}
use Rattle.octets.proofs.Choice.{where_equal, where_apart}
use Rattle.tlv.specs.declared.Fec.{Fec}
use Rattle.tlv.specs.Value.{fec_at}
use Rattle.tlv.proofs.value.fec_at.Goals as goal

pub returns-then-place-eq0 : goal.returns-then-place-eq0
unfolding fec_at
returns-then-place-eq0 c = where_equal _ 0 _ _ c.if-place-eq0.true

pub returns : goal.returns
unfolding fec_at
returns c = where_apart _ 0 _ _ c.if-place-eq0.false (rw (← c.get_u16.ensures) (ap (λ (f : Fec). Some f) c.fec_of.ensures))
