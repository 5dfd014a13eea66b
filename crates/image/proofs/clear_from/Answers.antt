use mathlib.Core.Path.{refl, ◌∙◌}
use native.Mathlib.Omega.{arith}
use Rattle.image.proofs.Blocks.{length-put}
use Rattle.image.proofs.Cleared.{cleared_end, cleared-next}
use Rattle.image.proofs.clear_from.Goals as goal

pub loop-b-init : goal.loop-b-init
loop-b-init c = (c.requires.0, refl)

pub loop-b-preserved : goal.loop-b-preserved
loop-b-preserved c =
    let l = c.loop-b in
    let e = c.clear_block.ensures in
    (rw e (length-put l.image l.b _ ∙ l.invariant.0), cleared-next l.image l.b (omega arith) e l.invariant.1)

pub returns : goal.returns
returns c = cleared_end c.loop-b.image c.loop-b.b (omega arith) c.loop-b.invariant.1
