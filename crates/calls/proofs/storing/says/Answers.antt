use mathlib.Core.Bool.{true≢false}
use mathlib.Core.Path.{◌∙◌}
use native.Mathlib.Omega.{arith}
use Rattle.octets.proofs.Differ.{same_one}
use Rattle.calls.proofs.Saying.{words-begin, words-said}
use Rattle.calls.proofs.storing.says.Goals as goal

pub loop-i-init : goal.loop-i-init
loop-i-init c = words-begin _ _ c.requires.1

pub loop-i-preserved : goal.loop-i-preserved
loop-i-preserved c = same_one _ _ _ c.loop-i.invariant (omega arith) (c.if-word-label_at.false ∙ c.label_at.ensures)

pub returns : goal.returns
returns c = (
  λ _. (c.same_numbers.ensures.0 c.if-not-same_numbers.false ∙ c.header_of.ensures, words-said _ _ _ c.loop-i.invariant (omega arith)),
  λ e. absurd (true≢false e),
)
