-- `image::judging::ids_are_valid` meets its contract: the words are read, then the IDs are judged beside them. Assumes nothing.
use mathlib.Core.Path.{refl, ap₂, ◌∙◌}
use borrow.Author.Rules.{rules}
use Rattle.request_ids.specs.Fields.{ids_ok}
use Rattle.image.proofs.judging.ids_are_valid.Statement.{statement}
use Rattle.image.proofs.judging.ids_are_valid.Tie as tie

pub ids_are_valid_spec : {M : Type 1} → statement M
ids_are_valid_spec =
    let answers = tie.spec
    (λ c κs. search rules)
    (λ c κs. search rules)
    (λ c. search rules)
    (λ c. c.ids_are_valid.ensures ∙ ap₂ ids_ok c.read_labels.ensures refl) in
    tie.close answers
