-- `session_cases::script::place_in` ends: the measure is the count of bytes left. Assumes nothing.
use Prim.Native.Nat.{◌+◌, ◌≤◌}
use native.Mathlib.Omega.{arith}
use lib.ListN.{length}
use borrow.Author.Rules.{rules}
use Rattle.session_cases.proofs.script.place_in.Statement.{statement}
use Rattle.session_cases.proofs.script.place_in.Tie as tie

abbrev invariant-loop-rest : tie.invariant-loop-rest
invariant-loop-rest list word rest₀ i₀ rest i = i + length rest ≤ length list

abbrev decreases-loop-rest : tie.decreases-loop-rest
decreases-loop-rest list word rest₀ i₀ rest i = length rest

pub place_in_spec : {M : Type 1} → statement M
place_in_spec =
    let answers = tie.spec invariant-loop-rest decreases-loop-rest
    (λ c. omega arith)
    (λ c κs. search rules)
    (λ c κs. search rules)
    (λ c. search rules)
    (λ c κs. search rules)
    (λ c. omega arith)
    (λ c. omega arith)
    (λ c. omega arith)
    (λ c. search rules) in
    tie.close answers
