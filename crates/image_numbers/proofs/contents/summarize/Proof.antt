-- `image_numbers::contents::summarize` meets its contract. Assumes nothing.
use native.Mathlib.Omega.{arith}
use borrow.Author.Rules.{rules}
use Rattle.image_numbers.proofs.Holdings.{labels_low, named_low, contents_sound, summary_refused, summary_shown}
use Rattle.image_numbers.proofs.contents.summarize.Statement.{statement}
use Rattle.image_numbers.proofs.contents.summarize.Tie as tie

pub summarize_spec : {M : Type 1} → statement M
summarize_spec =
    let answers = tie.spec
    (λ c κs. search rules)
    (λ c κs. search rules)
    (λ c κs. search rules)
    (λ c. omega (arith, named_low _ c.check_image-verdict.ensures c.verdict_number-answer.ensures c.verdict_block.ensures))
    (λ c κs. search rules)
    (λ c. summary_refused _ c.check_image-verdict.ensures c.verdict_number-answer.ensures c.if-answer-ne0.true c.verdict_block.ensures c.refused_summary.ensures)
    (λ c κs. (contents_sound _ c.check_image-verdict.ensures c.verdict_number-answer.ensures c.if-answer-ne0.false).size)
    (λ c κs. contents_sound _ c.check_image-verdict.ensures c.verdict_number-answer.ensures c.if-answer-ne0.false)
    (λ c κs. labels_low _ c.counts_of.ensures)
    (λ c. summary_shown _ c.check_image-verdict.ensures c.verdict_number-answer.ensures c.if-answer-ne0.false c.header_of.ensures c.counts_of.ensures c.whole_summary.ensures) in
    tie.close answers
