-- `image::extending::extend` meets its contract, by the laws of its answers. Assumes nothing.
use borrow.Author.Rules.{rules}
use Rattle.image.proofs.Extended.{extend_first, extend_second, extend_size, extend_stored}
use Rattle.image.proofs.extending.extend.Statement.{statement}
use Rattle.image.proofs.extending.extend.Tie as tie

returns-2 : tie.Need-returns-then-stored-eq-FIRST_SIZE
returns-2 c =
    extend_first _ _ c.if-image-ne-IMAGE_SIZE.false c.if-stored-eq-FIRST_SIZE.true c.clear_from.ensures

returns-3 : tie.Need-returns-then-stored-eq-SECOND_SIZE
returns-3 c =
    extend_second _ _ c.if-image-ne-IMAGE_SIZE.false c.if-stored-eq-FIRST_SIZE.false c.if-stored-eq-SECOND_SIZE.true c.clear_from-then-stored-eq-SECOND_SIZE.ensures

pub extend_spec : {M : Type 1} → statement M
extend_spec =
    let answers = tie.spec
    (λ c. extend_size _ _ c.if-image-ne-IMAGE_SIZE.true)
    (λ c κs. search rules)
    (λ c. search rules)
    returns-2
    (λ c κs. search rules)
    (λ c. search rules)
    returns-3
    (λ c. extend_stored _ _ c.if-image-ne-IMAGE_SIZE.false c.if-stored-eq-FIRST_SIZE.false c.if-stored-eq-SECOND_SIZE.false) in
    tie.close answers
