use mathlib.Core.Path.{sym, ◌∙◌}
use Rattle.octets.proofs.Choice.{both_true}
use Rattle.word_block.specs.Layout.{is_empty}
use Rattle.word_block.proofs.is_sound.Goals as goal

pub returns-then-is_empty : goal.returns-then-is_empty
unfolding is_empty
returns-then-is_empty c = sym (both_true _ _ (sym c.is_empty.ensures ∙ c.if-is_empty.true)).0
