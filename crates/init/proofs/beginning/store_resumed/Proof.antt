-- `init::beginning::store_resumed` meets its contract. Assumes nothing.
use borrow.Author.Rules.{rules}
use Rattle.init.proofs.Stored.{resumed_is, resumed_none}
use Rattle.init.proofs.beginning.store_resumed.Statement.{statement}
use Rattle.init.proofs.beginning.store_resumed.Tie as tie

pub store_resumed_spec : {M : Type 1} → statement M
store_resumed_spec =
    let answers = tie.spec
    (λ c κs. search rules)
    (λ c κs. rw c.header_of-h.ensures c.requires.1)
    (λ c κs. search rules)
    (λ c. search rules)
    (λ c. (resumed_none _ c.requires.0 _ _ _ c.header_of-h.ensures c.released_header-next.ensures c.if-count-eq0.true c.store_numbers.ensures.0, c.store_numbers.ensures.1))
    (λ c. search rules)
    (λ c κs. search rules)
    (λ c. search rules)
    (λ c κs. search rules)
    (λ c. search rules)
    (λ c κs. search rules)
    (λ c. search rules)
    (λ c. (resumed_is _ c.requires.0 _ _ _ c.header_of-h.ensures c.released_header-next.ensures c.labels_of.ensures c.release_labels.ensures c.store_changed.ensures.0, c.store_changed.ensures.1)) in
    tie.close answers
