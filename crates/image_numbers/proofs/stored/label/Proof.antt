-- `image_numbers::stored::label` meets its contract. Assumes nothing.
use borrow.Author.Rules.{rules}
use Rattle.image_numbers.proofs.LabelWord.{label_refused, label_past, label_size, label_read}
use Rattle.image_numbers.proofs.stored.label.Statement.{statement}
use Rattle.image_numbers.proofs.stored.label.Tie as tie

pub label_spec : {M : Type 1} → statement M
label_spec =
    let answers = tie.spec
    (λ c κs. search rules)
    (λ c κs. search rules)
    (λ c. label_refused _ _ c.check_image.ensures c.verdict_number.ensures c.if-verdict_number-ne0.true)
    (λ c. label_past _ _ c.check_image.ensures c.verdict_number.ensures c.if-verdict_number-ne0.false c.if-place-ge-WORD_COUNT.true)
    (λ c κs. (label_size _ 0 c.check_image.ensures c.verdict_number.ensures c.if-verdict_number-ne0.false, c.if-place-ge-WORD_COUNT.false))
    (λ c. label_read _ _ c.check_image.ensures c.verdict_number.ensures c.if-verdict_number-ne0.false c.if-place-ge-WORD_COUNT.false c.label_at.ensures) in
    tie.close answers
