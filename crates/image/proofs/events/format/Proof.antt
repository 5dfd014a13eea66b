-- `image::format` meets its contract: zeros everywhere, no ID, then released. Assumes nothing.
use borrow.Author.Rules.{rules}
use Rattle.image.proofs.Formatted.{format_refused, format-done}
use Rattle.image.proofs.events.format.Statement.{statement}
use Rattle.image.proofs.events.format.Tie as tie

returns : tie.Need-returns-then-image-ne-IMAGE_SIZE
returns c = format_refused _ c.if-image-ne-IMAGE_SIZE.true

returns-2 : tie.Need-returns
returns-2 c =
    format-done _ c.if-image-ne-IMAGE_SIZE.false
    c.zero_to.ensures
    c.clear_from.ensures c.release.ensures

pub format_spec : {M : Type 1} → statement M
format_spec =
    let answers = tie.spec
    returns
    (λ c κs. search rules)
    (λ c κs. search rules)
    (λ c κs. search rules)
    (λ c. search rules)
    returns-2 in
    tie.close answers
