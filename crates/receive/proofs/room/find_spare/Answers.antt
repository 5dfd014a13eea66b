use mathlib.Core.Path.{sym, ◌∙◌}
use native.Mathlib.Omega.{arith}
use Rattle.receive.proofs.Takes.{spare_end, spare_found, spare_more, spare_next}
use Rattle.receive.proofs.room.find_spare.Goals as goal

pub loop-i-init : goal.loop-i-init
loop-i-init c = spare_next _ _

pub returns-then-is_spare : goal.returns-then-is_spare
returns-then-is_spare c = sym (c.loop-i.invariant ∙ spare_found _ _ _ (omega arith) (sym c.is_spare.ensures ∙ c.if-is_spare.true))

pub loop-i-preserved : goal.loop-i-preserved
loop-i-preserved c = c.loop-i.invariant ∙ spare_more _ _ _ (omega arith) (sym c.is_spare.ensures ∙ c.if-is_spare.false)

pub returns : goal.returns
returns c = sym (c.loop-i.invariant ∙ spare_end _ _ _ (omega arith))
