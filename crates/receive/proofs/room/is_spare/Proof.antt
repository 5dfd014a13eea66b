use mathlib.Core.Path.{sym, ◌∙◌}
use borrow.Author.Rules.{rules}
use Rattle.image.proofs.Ranges.{labels-count}
use Rattle.receive.proofs.Takes.{spare_here, spare_not}
use Rattle.receive.proofs.room.is_spare.Statement.{statement}
use Rattle.receive.proofs.room.is_spare.Tie as tie

pub is_spare_spec : {M : Type 1} → statement M
is_spare_spec =
    let answers = tie.spec
    (λ c. search rules)
    (λ c. search rules)
    (λ c. spare_not _ _ (c.requires.1 ∙ sym (labels-count _)) _ c.if-words-i-ne0.true)
    (λ c κs. search rules)
    (λ c. spare_here _ _ (c.requires.1 ∙ sym (labels-count _)) _ c.if-words-i-ne0.false c.label_at.ensures) in
    tie.close answers
