-- `image_numbers::contents::labels` meets its contract. Assumes nothing.
use native.Mathlib.Omega.{arith}
use borrow.Author.Rules.{rules}
use Rattle.image_numbers.proofs.Holdings.{count_low, named_low, contents_sound, words_refused_lem, words-short, words-listed}
use Rattle.image_numbers.proofs.contents.labels.Statement.{statement}
use Rattle.image_numbers.proofs.contents.labels.Tie as tie

pub labels_spec : {M : Type 1} → statement M
labels_spec =
    let answers = tie.spec
    (λ c κs. search rules)
    (λ c κs. search rules)
    (λ c κs. search rules)
    (λ c. omega (arith, named_low _ c.check_image-verdict.ensures c.verdict_number-answer.ensures c.verdict_block.ensures))
    (λ c. words_refused_lem _ c.check_image-verdict.ensures c.verdict_number-answer.ensures _ c.if-answer-ne0.true c.verdict_block.ensures)
    (λ c. words-short _ c.check_image-verdict.ensures c.verdict_number-answer.ensures _ c.if-answer-ne0.false c.if-words-lt-WORD_COUNT.true)
    (λ c. search rules)
    (λ c. search rules)
    (λ c. search rules)
    (λ c κs. ((contents_sound _ c.check_image-verdict.ensures c.verdict_number-answer.ensures c.if-answer-ne0.false).size, search rules))
    (λ c κs. search rules)
    (λ c. omega (arith, count_low _ c.labels_of.ensures c.count_listed.ensures))
    (λ c. search rules)
    (λ c. words-listed _ c.check_image-verdict.ensures c.verdict_number-answer.ensures _ c.if-answer-ne0.false c.if-words-lt-WORD_COUNT.false c.labels_of.ensures c.count_listed.ensures) in
    tie.close answers
