use borrow.Author.Rules.{rules}
use Rattle.calls.proofs.Saying.{header_fits, stored_same, stored_other}
use Rattle.calls.proofs.storing.store_changed.Statement.{statement}
use Rattle.calls.proofs.storing.store_changed.Tie as tie

pub store_changed_spec : {M : Type 1} → statement M
store_changed_spec =
    let answers = tie.spec
    (λ c κs. search rules)
    (λ c. search rules)
    (λ c. stored_same _ c.requires.0 (λ k. (c.slice_known-1.given k).fits) (c.says.ensures.0 c.if-says.true).0 (c.says.ensures.0 c.if-says.true).1)
    (λ c κs. search rules)
    (λ c. search rules)
    (λ c. stored_other _ _ _ c.requires.0 (header_fits c.well_formed.1.0) (record { count = c.requires.1; each = λ k. (c.shared_slice_known-1.given k).fits }) (c.says.ensures.1 c.if-says.false) c.store_block0.ensures) in
    tie.close answers
