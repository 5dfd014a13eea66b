-- `init::beginning::store_fresh` meets its contract. Assumes nothing.
use borrow.Author.Rules.{rules}
use Rattle.protocol.specs.Init.{fresh}
use Rattle.init.proofs.beginning.store_fresh.Statement.{statement}
use Rattle.init.proofs.beginning.store_fresh.Tie as tie

pub store_fresh_spec : {M : Type 1} → statement M
unfolding fresh
store_fresh_spec =
    let answers = tie.spec
    (λ c. search rules)
    (λ c κs. search rules)
    (λ c. search rules)
    (λ c. c.store_changed.ensures) in
    tie.close answers
