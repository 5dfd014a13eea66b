use native.Mathlib.Omega.{arith}
use borrow.Author.Rules.{rules}
use Rattle.calls.proofs.Told.{found_place_in}
use Rattle.receive.proofs.Takes.{another_at, another_none}
use Rattle.receive.proofs.room.brings_another.Statement.{statement}
use Rattle.receive.proofs.room.brings_another.Tie as tie

pub brings_another_spec : {M : Type 1} → statement M
brings_another_spec =
    let answers = tie.spec
    (λ c κs. search rules)
    (λ c. search rules)
    (λ c κs. (c.requires.0, omega (arith, found_place_in _ _ _ c.requires.1 c.in-Some.is)))
    (λ c. search rules)
    (λ c. another_at _ c.in-Some.is c.entry_at.ensures c.entry_by-entry.ensures)
    (λ c. another_none _ c.in-None.is c.entry_by-entry.ensures) in
    tie.close answers
