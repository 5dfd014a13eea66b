use mathlib.Core.Path.{sym, ◌∙◌}
use native.Mathlib.Omega.{arith}
use Rattle.block0.proofs.Coded.{passed_none, passed_one, found_one, passed_all}
use Rattle.block0.proofs.any_has_code.Goals as goal

pub loop-i-init : goal.loop-i-init
loop-i-init c = passed_none _ _ _ _

pub returns-then-has_code_at : goal.returns-then-has_code_at
returns-then-has_code_at c =
    found_one _ _ _ _ _ c.loop-i.invariant (omega arith) (sym c.if-has_code_at.true ∙ c.has_code_at.ensures)

pub loop-i-preserved : goal.loop-i-preserved
loop-i-preserved c =
    passed_one _ _ _ _ _ c.loop-i.invariant (omega arith) (sym c.if-has_code_at.false ∙ c.has_code_at.ensures)

pub returns : goal.returns
returns c = passed_all _ _ _ _ _ c.loop-i.invariant (omega arith)
