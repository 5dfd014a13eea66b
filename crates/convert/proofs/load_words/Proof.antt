-- `convert::load_words` meets its contract: a part of the words that are lent is as many as the version has. Assumes nothing.
use borrow.Author.Rules.{rules}
use Rattle.convert.proofs.Kept.{front_put}
use Rattle.convert.proofs.load_words.Statement.{statement}
use Rattle.convert.proofs.load_words.Tie as tie

pub load_words_spec : {M : Type 1} → statement M
load_words_spec =
    let answers = tie.spec
    (λ c κs. search rules)
    (λ c. search rules)
    (λ c. search rules)
    (λ c. search rules)
    (λ c κs. search rules)
    (λ c. search rules)
    (λ c. front_put _ c.read_labels.ensures c.word_count-count.ensures.0) in
    tie.close answers
