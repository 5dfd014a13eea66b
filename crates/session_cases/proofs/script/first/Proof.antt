-- `session_cases::script::first` gives no more bytes than it was asked for. Assumes nothing.
use native.Mathlib.Omega.{arith}
use lib.ListN.{length-take}
use borrow.Author.Rules.{rules}
use Rattle.session_cases.proofs.script.first.Statement.{statement}
use Rattle.session_cases.proofs.script.first.Tie as tie

pub first_spec : {M : Type 1} → statement M
first_spec =
    let answers = tie.spec
    (λ c. search rules)
    (λ c. simp length-take (omega arith))
    (λ c. simp length-take (omega arith)) in
    tie.close answers
