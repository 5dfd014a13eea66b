use Rattle.std.proofs.Common.{◌*◌, sym, ◌∙◌, arith}
use borrow.Author.Tests.{eq-eqb, ne_eqb}
use Rattle.block.proofs.ZeroParts.{part-set, zero-on, zero_all}
use Rattle.block.proofs.zeros.all_zero.Goals as goal

pub returns-then-joined-ne0 : goal.returns-then-joined-ne0
returns-then-joined-ne0 c =
    part-set c.args.s.now (c.loop-i.i * 128) 128 (sym c.joined.ensures ∙ ne_eqb _ _ c.if-joined-ne0.true)

pub loop-i-preserved : goal.loop-i-preserved
loop-i-preserved c =
    let l = c.loop-i in
    zero-on c.args.s.now l.i l.invariant (sym c.joined.ensures ∙ eq-eqb _ _ c.if-joined-ne0.false)

pub returns : goal.returns
returns c =
    let l = c.loop-i in
    c.joined-2.ensures ∙ zero_all c.args.s.now (l.i * 128) 128 (omega arith) (omega arith) l.invariant
