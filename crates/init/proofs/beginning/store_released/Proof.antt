-- `init::beginning::store_released` meets its contract. Assumes nothing.
use borrow.Author.Rules.{rules}
use Rattle.init.proofs.Stored.{released_is}
use Rattle.init.proofs.beginning.store_released.Statement.{statement}
use Rattle.init.proofs.beginning.store_released.Tie as tie

pub store_released_spec : {M : Type 1} → statement M
store_released_spec =
    let answers = tie.spec (λ c κs. search rules) (λ c. search rules) (λ c. released_is _ c.release-o.ensures) in
    tie.close answers
