-- `image::storing::store_entry` meets its contract: the block is lent and written whole. Assumes nothing.
use mathlib.Core.Path.{◌∙◌}
use native.Mathlib.Omega.{arith}
use borrow.Author.Rules.{rules}
use Rattle.octets.proofs.Laid.{laid-between}
use Rattle.word_block.proofs.Written.{length-word_block}
use Rattle.image.specs.State.{store_entry}
use Rattle.image.proofs.storing.store_entry.Statement.{statement}
use Rattle.image.proofs.storing.store_entry.Tie as tie

pub store_entry_spec : {M : Type 1} → statement M
unfolding store_entry
store_entry_spec =
    let answers = tie.spec
    (λ c κs. search rules)
    (λ c. omega (arith, c.entry_block-start.ensures))
    (λ c. omega arith)
    (λ c. omega arith)
    (λ c. omega arith)
    (λ c. omega arith)
    (λ c κs. search rules)
    (λ c κs. (search rules, omega (arith, c.place_in_block.ensures)))
    (λ c. search rules)
    (λ c.
    let put = c.before.before in
    rw (c.write_entry.ensures, c.place_in_block.ensures, c.entry_block-start.ensures) (laid-between _ _ _ _ (omega arith) (omega arith) (length-word_block _ ∙ omega arith))) in
    tie.close answers
