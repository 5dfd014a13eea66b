use Rattle.std.proofs.Common.{ap₂, eqb, arith}
use Rattle.std.proofs.Math.ListN.{length-take}
use Rattle.block.specs.Check.{sound}
use Rattle.block.proofs.ZeroBytes.{body_zero}
use Rattle.block.proofs.is_sound_before.Goals as goal

pub check_before-requires : goal.check_before-requires
check_before-requires c =
    let p = c.requires in
    (simp length-take (omega arith), p.1, body_zero c.args.block.now c.args.end p.2)

pub returns : goal.returns
unfolding sound
returns c = ap₂ eqb c.get_u32.ensures c.check_before.ensures
