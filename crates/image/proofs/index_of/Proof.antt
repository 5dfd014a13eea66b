-- `image::index_of` meets its contract: the first half of the entries, then the second. Assumes nothing.
use mathlib.Core.Path.{ap, ◌∙◌}
use borrow.Author.Rules.{rules}
use Rattle.fec_index.specs.Entries.{entries_of}
use Rattle.image.proofs.Entries.{halves_read}
use Rattle.image.proofs.index_of.Statement.{statement}
use Rattle.image.proofs.index_of.Tie as tie

returns : tie.Need-returns
returns c =
    let first = c.before.before.before.before.before.before.before in
    halves_read c.args.image.now c.args.entries.now c.requires.1
    (c.read_entries.ensures ∙ ap entries_of c.block_at.ensures.0.0)
    (c.read_entries-2.ensures ∙ ap entries_of c.block_at-2.ensures.0.0)

pub index_of_spec : {M : Type 1} → statement M
index_of_spec =
    let answers = tie.spec
    (λ c κs. search rules)
    (λ c. search rules)
    (λ c. search rules)
    (λ c. search rules)
    (λ c κs. search rules)
    (λ c. search rules)
    (λ c κs. search rules)
    (λ c. search rules)
    (λ c. search rules)
    (λ c. search rules)
    (λ c κs. search rules)
    (λ c. search rules)
    returns in
    tie.close answers
