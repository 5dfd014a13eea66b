-- `image::label_at` meets its contract, by the definition. Assumes nothing.
use Prim.Native.Nat.{ℕ}
use mathlib.Core.List.{List}
use mathlib.Core.Path.{ap, ◌∙◌}
use lib.ListN.{get_or}
use borrow.Author.Rules.{rules}
use Rattle.block0.specs.Layout.{labels_of}
use Rattle.image.specs.State.{decode}
use Rattle.image.proofs.label_at.Statement.{statement}
use Rattle.image.proofs.label_at.Tie as tie

pub label_at_spec : {M : Type 1} → statement M
unfolding decode
label_at_spec =
    let answers = tie.spec
    (λ c κs. search rules)
    (λ c κs. search rules)
    (λ c. c.read_label.ensures ∙ ap (λ (b : List ℕ). get_or (labels_of b) c.args.place 0) c.block_at.ensures.0.0) in
    tie.close answers
