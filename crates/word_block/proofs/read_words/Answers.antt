use Prim.Native.Nat.{ℕ}
use mathlib.Core.Path.{ap, ◌∙◌}
use Rattle.block.specs.Run.{words_at}
use Rattle.word_block.specs.Layout.{block_words}
use Rattle.word_block.proofs.read_words.Goals as goal

pub returns : goal.returns
unfolding block_words
returns c =
    c.load_words.ensures ∙ ap (λ (n : ℕ). words_at n c.args.block.now 0) c.requires.1
