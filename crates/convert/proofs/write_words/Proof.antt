-- `convert::write_words` meets its contract: a part of the words is as many as the version has. Assumes nothing.
use mathlib.Core.Path.{ap, ◌∙◌}
use borrow.Author.Rules.{rules}
use Rattle.block0.specs.Layout.{block_by}
use Rattle.convert.proofs.Kept.{front_read}
use Rattle.convert.proofs.write_words.Statement.{statement}
use Rattle.convert.proofs.write_words.Tie as tie

pub write_words_spec : {M : Type 1} → statement M
write_words_spec =
    let answers = tie.spec
    (λ c κs. search rules)
    (λ c. search rules)
    (λ c. search rules)
    (λ c. search rules)
    (λ c κs. search rules)
    (λ c. search rules)
    (λ c. c.write_block0.ensures ∙ ap (block_by _ _) (front_read _ c.word_count-count.ensures.0)) in
    tie.close answers
