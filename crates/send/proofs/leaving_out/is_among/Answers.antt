use mathlib.Core.Path.{sym, ◌∙◌}
use Rattle.send.proofs.Aborted.{among_behind, among_here, among_none}
use Rattle.send.proofs.leaving_out.is_among.Goals as goal

pub returns-then-names : goal.returns-then-names
returns-then-names c =
    sym (c.loop-aborted.invariant ∙ among_here _ _ _ c.loop-aborted-test.true (sym c.names.ensures ∙ c.if-names.true))

pub loop-aborted-preserved : goal.loop-aborted-preserved
loop-aborted-preserved c =
    c.loop-aborted.invariant ∙ among_behind _ _ _ c.loop-aborted-test.true (sym c.names.ensures ∙ c.if-names.false)

pub returns : goal.returns
returns c = sym (c.loop-aborted.invariant ∙ among_none _ _ _ c.loop-aborted-test.false)
