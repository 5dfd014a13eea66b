use Rattle.word_block.proofs.Same.{word_put}
use Rattle.word_block.proofs.write_word.Goals as goal

pub returns : goal.returns
returns c =
    word_put _ c.requires.0 (λ k. (c.slice_known-1.given k).fits) _ _ c.requires.1 c.put_u32.ensures c.zero_to.ensures
    c.seal.ensures
