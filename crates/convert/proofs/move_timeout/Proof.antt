-- `convert::move_timeout` meets its contract, version by version. Assumes nothing.
use Prim.Native.Nat.{◌<◌}
use native.Mathlib.Omega.{arith}
use borrow.Author.Rules.{rules}
use Rattle.convert.proofs.move_timeout.Statement.{statement}
use Rattle.convert.proofs.move_timeout.Tie as tie

pub move_timeout_spec : {M : Type 1} → statement M
move_timeout_spec =
    let answers = tie.spec
    (λ c. search rules)
    (λ c. let small : c.args.timeout < 65536 = rw c.in-One.is at c.requires in omega arith)
    (λ c. search rules)
    (λ c. rw c.in-One.is)
    (λ c. rw c.in-Two.is) in
    tie.close answers
