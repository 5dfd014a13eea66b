use Rattle.word_block.proofs.Written.{word_read}
use Rattle.word_block.proofs.read_word.Goals as goal

pub returns : goal.returns
returns c = word_read _ _ c.requires.1 c.get_u32.ensures
