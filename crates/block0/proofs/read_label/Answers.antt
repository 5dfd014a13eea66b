use mathlib.Core.Path.{sym, ◌∙◌}
use Rattle.block.proofs.WordRun.{get_d_words_at}
use Rattle.label_list.specs.Word.{word_count}
use Rattle.block0.specs.Layout.{labels_by}
use Rattle.block0.proofs.read_label.Goals as goal

pub returns : goal.returns
unfolding labels_by
returns c = c.get_u32.ensures ∙ sym (get_d_words_at word_count _ 32 _ c.requires.1)
