-- `convert::move_by` meets its contract: the block moved, by its parts. Assumes nothing.
use mathlib.Core.Path.{ap}
use native.Mathlib.Omega.{arith}
use lib.ListN.{length}
use borrow.Author.Rules.{rules}
use Rattle.image.proofs.Ranges.{fits_bytes}
use Rattle.convert.proofs.Answers.{block_moved}
use Rattle.convert.proofs.move_by.Statement.{statement}
use Rattle.convert.proofs.move_by.Tie as tie

pub move_by_spec : {M : Type 1} → statement M
move_by_spec =
    let answers = tie.spec
    (λ c κs. search rules)
    (λ c κs. rw c.read_version-h.ensures (fits_bytes _ _ (λ k. (c.shared_slice_known-1.given k).fits)).timeout)
    (λ c κs. search rules)
    (λ c κs. search rules)
    (λ c κs. search rules)
    (λ c κs. let long = ap length c.requires.2 in (search rules, omega (arith, long)))
    (λ c. search rules)
    (λ c. search rules)
    (λ c. block_moved _ _ c.requires.0 c.other_version.ensures c.read_version-h.ensures c.move_timeout-timeout.ensures c.with_timeout.ensures c.requires.2 c.load_words.ensures c.write_words.ensures) in
    tie.close answers
