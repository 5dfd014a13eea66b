use mathlib.Core.Path.{refl}
use native.Mathlib.Omega.{arith}
use borrow.Author.Rules.{rules}
use Rattle.label_list.proofs.Reached.{found_place}
use Rattle.label_events.specs.Change.{code_in}
use Rattle.label_events.proofs.changing.code_at.Statement.{statement}
use Rattle.label_events.proofs.changing.code_at.Tie as tie

pub code_at_spec : {M : Type 1} → statement M
unfolding code_in
code_at_spec =
    let answers = tie.spec
    (λ c. search rules)
    (λ c. omega (arith, found_place _ _ _ c.requires c.in-Some.is))
    (λ c. found_place _ _ _ c.requires c.in-Some.is)
    (λ c. search rules)
    (λ c. rw c.in-Some.is (refl, omega (arith, c.shared_slice_known-1.given c.in-Some.i)))
    (λ c. rw c.in-None.is (refl, omega arith)) in
    tie.close answers
