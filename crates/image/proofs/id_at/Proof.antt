-- `image::id_at` meets its contract, by the definition. Assumes nothing.
use Prim.Native.Nat.{ℕ}
use mathlib.Core.List.{List}
use mathlib.Core.Path.{ap, ◌∙◌}
use lib.ListN.{get_or}
use borrow.Author.Rules.{rules}
use Rattle.word_block.specs.Layout.{block_words}
use Rattle.image.specs.State.{stored_ids}
use Rattle.image.proofs.id_at.Statement.{statement}
use Rattle.image.proofs.id_at.Tie as tie

pub id_at_spec : {M : Type 1} → statement M
unfolding stored_ids
id_at_spec =
    let answers = tie.spec
    (λ c κs. search rules)
    (λ c κs. search rules)
    (λ c. c.read_word.ensures ∙ ap (λ (b : List ℕ). get_or (block_words b) c.args.place 0) c.block_at.ensures.0.0) in
    tie.close answers
