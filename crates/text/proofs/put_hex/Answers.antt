use Rattle.std.proofs.Common.{sym, arith}
use Rattle.octets.proofs.Laid.{laid_none}
use Rattle.text.proofs.Digits.{hex-put, hex-done}
use Rattle.text.proofs.put_hex.Goals as goal

pub loop-i-init : goal.loop-i-init
loop-i-init c = sym (laid_none _ _)

pub loop-i-preserved : goal.loop-i-preserved
loop-i-preserved c =
    let l = c.loop-i in
    rw l.invariant
    (hex-put c.args.out.now c.args.at c.args.bytes.now l.i _ _ (omega arith) c.digit-high.ensures c.digit-low.ensures)

pub returns-clause-put : goal.returns-clause-put
returns-clause-put c = hex-done _ _ _ _ _ c.loop-i-test.false c.loop-i.invariant
