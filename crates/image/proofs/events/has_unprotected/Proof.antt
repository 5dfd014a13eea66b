-- `image::events::has_unprotected` meets its contract, by the definition. Assumes nothing.
use Prim.Native.Nat.{ℕ}
use mathlib.Core.List.{List}
use mathlib.Core.Path.{ap, ◌∙◌}
use borrow.Author.Rules.{rules}
use Rattle.block0.specs.Coded.{unprotected}
use Rattle.block0.specs.Layout.{labels_of}
use Rattle.image.specs.State.{decode}
use Rattle.image.proofs.events.has_unprotected.Statement.{statement}
use Rattle.image.proofs.events.has_unprotected.Tie as tie

pub has_unprotected_spec : {M : Type 1} → statement M
unfolding decode
has_unprotected_spec =
    let answers = tie.spec
    (λ c κs. search rules)
    (λ c κs. search rules)
    (λ c. c.has_unprotected.ensures ∙ ap (λ (b : List ℕ). unprotected (labels_of b)) c.block_at.ensures.0.0) in
    tie.close answers
