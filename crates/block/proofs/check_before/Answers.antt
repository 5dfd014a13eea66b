use Rattle.std.proofs.Common.{◌+◌, ◌*◌, ◌/◌, arith}
use Rattle.block.proofs.ZeroBytes.{zero_further}
use Rattle.block.proofs.check_before.Goals as goal

pub check_rows-requires : goal.check_rows-requires
check_rows-requires c =
    let a = c.args in
    let p = c.requires in
    (omega arith, p.0, zero_further a.body.now a.end ((a.end + 15) / 16 * 16) (omega arith) p.2)
