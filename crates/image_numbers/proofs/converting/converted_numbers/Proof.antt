-- `image_numbers::converting::converted_numbers` meets its contract. Assumes nothing.
use native.Mathlib.Omega.{arith}
use borrow.Author.Rules.{rules}
use Rattle.image_numbers.proofs.Moved.{converted_refused, converted-done}
use Rattle.image_numbers.proofs.converting.converted_numbers.Statement.{statement}
use Rattle.image_numbers.proofs.converting.converted_numbers.Tie as tie

pub converted_numbers_spec : {M : Type 1} → statement M
converted_numbers_spec =
    let answers = tie.spec
    (λ c κs. search rules)
    (λ c κs. search rules)
    (λ c. omega (arith, c.requires, c.conversion_block-block.ensures))
    (λ c. converted_refused c.args.c c.conversion_number-answer.ensures c.conversion_block-block.ensures c.if-answer-ne0.true)
    (λ c. search rules)
    (λ c. converted-done c.args.c c.conversion_number-answer.ensures c.conversion_block-block.ensures c.if-answer-ne0.false) in
    tie.close answers
