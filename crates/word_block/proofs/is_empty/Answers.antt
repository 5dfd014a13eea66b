use Rattle.word_block.proofs.Same.{are_empty, not_empty}
use Rattle.word_block.proofs.is_empty.Goals as goal

pub returns-then-get_u32-ne-NONE_CHECK : goal.returns-then-get_u32-ne-NONE_CHECK
returns-then-get_u32-ne-NONE_CHECK c = not_empty _ c.requires c.get_u32.ensures c.if-get_u32-ne-NONE_CHECK.true

pub returns : goal.returns
returns c = are_empty _ c.requires c.get_u32.ensures c.if-get_u32-ne-NONE_CHECK.false c.all_zero.ensures
