use native.Mathlib.Omega.{arith}
use lib.ListN.{length-set}
use borrow.Author.Rules.{rules}
use Rattle.label_events.specs.Change.{changed}
use Rattle.label_events.proofs.Written.{change-place, move_places}
use Rattle.label_events.proofs.changing.make_change.Statement.{statement}
use Rattle.label_events.proofs.changing.make_change.Tie as tie

pub make_change_spec : {M : Type 1} → statement M
unfolding changed
make_change_spec =
    let answers = tie.spec
    (λ c. search rules)
    (λ c. search rules)
    (λ c. omega (arith, change-place _ _ _ _ c.requires c.in-Put.is))
    (λ c. change-place _ _ _ _ c.requires c.in-Put.is)
    (λ c. search rules)
    (λ c. omega (arith, (move_places _ _ _ _ _ c.requires c.in-Move.is).0))
    (λ c. (move_places _ _ _ _ _ c.requires c.in-Move.is).0)
    (λ c. omega (arith, (move_places _ _ _ _ _ c.requires c.in-Move.is).1))
    (λ c. simp length-set (move_places _ _ _ _ _ c.requires c.in-Move.is).1)
    (λ c. search rules)
    (λ c. rw c.in-Keep.is)
    (λ c. search rules)
    (λ c. rw c.in-Put.is)
    (λ c. search rules)
    (λ c. rw c.in-Move.is)
    (λ c. rw c.in-NoRoom.is) in
    tie.close answers
