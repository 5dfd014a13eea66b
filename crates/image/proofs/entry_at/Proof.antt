-- `image::entry_at` meets its contract: the place in its block. Assumes nothing.
use mathlib.Core.Path.{sym, ◌∙◌}
use native.Mathlib.Omega.{arith}
use borrow.Author.Rules.{rules}
use Rattle.image.proofs.Entries.{index_at}
use Rattle.image.proofs.entry_at.Statement.{statement}
use Rattle.image.proofs.entry_at.Tie as tie

pub entry_at_spec : {M : Type 1} → statement M
entry_at_spec =
    let answers = tie.spec
    (λ c κs. search rules)
    (λ c κs. (search rules, omega (arith, c.entry_block.ensures)))
    (λ c κs. search rules)
    (λ c κs. (search rules, omega (arith, c.place_in_block.ensures)))
    (λ c.
    let read = c.before.before in
    let a = c.args in
    c.read_entry.ensures
    ∙ rw (c.place_in_block.ensures, c.block_at.ensures.0.0, c.entry_block.ensures) (sym (index_at a.image.now a.place c.requires.1))) in
    tie.close answers
