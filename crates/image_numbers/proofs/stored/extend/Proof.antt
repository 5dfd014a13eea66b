-- `image_numbers::stored::extend` meets its contract. Assumes nothing.
use borrow.Author.Rules.{rules}
use Rattle.image_numbers.proofs.Extending.{extend_all, extend_index, extend_refused}
use Rattle.image_numbers.proofs.stored.extend.Statement.{statement}
use Rattle.image_numbers.proofs.stored.extend.Tie as tie

pub extend_spec : {M : Type 1} → statement M
extend_spec =
    let answers = tie.spec
    (λ c κs. search rules)
    (λ c κs. search rules)
    (λ c. search rules)
    (λ c. (extend_refused _ _ c.extend.ensures.0 c.verdict_number.ensures c.if-verdict_number-ne0.true, c.extend.ensures.1))
    (λ c. search rules)
    (λ c. search rules)
    (λ c. (extend_all _ _ c.extend.ensures.0 c.verdict_number.ensures c.if-verdict_number-ne0.false c.if-stored.true, c.extend.ensures.1))
    (λ c. search rules)
    (λ c. (extend_index _ _ c.extend.ensures.0 c.verdict_number.ensures c.if-verdict_number-ne0.false c.if-stored.false, c.extend.ensures.1)) in
    tie.close answers
