use mathlib.Core.Path.{sym, ◌∙◌}
use Rattle.block0.proofs.Rules.{free_valid}
use Rattle.block0.proofs.labels_are_valid.Goals as goal

pub returns-then-all_zero : goal.returns-then-all_zero
returns-then-all_zero c = sym (free_valid _ _ c.labels_at-start.ensures.0 (sym c.all_zero.ensures ∙ c.if-all_zero.true))
