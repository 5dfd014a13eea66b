-- `image_numbers::contents::whole_summary` meets its contract. Assumes nothing.
use mathlib.Core.Path.{refl}
use native.Mathlib.Omega.{arith}
use borrow.Author.Rules.{rules}
use Rattle.image_numbers.specs.Contents.{whole_summary}
use Rattle.image_numbers.proofs.contents.whole_summary.Statement.{statement}
use Rattle.image_numbers.proofs.contents.whole_summary.Tie as tie

pub whole_summary_spec : {M : Type 1} → statement M
unfolding whole_summary
whole_summary_spec =
    let answers = tie.spec
    (λ c. search rules)
    (λ c. search rules)
    (λ c. search rules)
    (λ c. search rules)
    (λ c. omega (arith, c.struct_known-5-1))
    (λ c. omega (arith, c.struct_known-6-1))
    (λ c. search rules)
    (λ c. refl) in
    tie.close answers
