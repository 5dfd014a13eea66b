use Rattle.std.proofs.Common.{arith}
use Rattle.std.proofs.Math.ListN.{length-take}
use Rattle.block.proofs.Sealed.{seal_put}
use Rattle.block.proofs.ZeroBytes.{body_zero}
use Rattle.block.proofs.seal_before.Goals as goal

pub check_before-sum-requires : goal.check_before-sum-requires
check_before-sum-requires c =
    let p = c.requires in
    (simp length-take (omega arith), p.1, body_zero c.args.block.now c.args.end p.2)

pub returns : goal.returns
returns c = seal_put _ (omega arith) c.check_before-sum.ensures c.put_u32.ensures
