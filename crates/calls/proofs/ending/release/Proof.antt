use borrow.Author.Rules.{rules}
use Rattle.calls.proofs.Ends.{release_none, release_some}
use Rattle.calls.proofs.ending.release.Statement.{statement}
use Rattle.calls.proofs.ending.release.Tie as tie

pub release_spec : {M : Type 1} → statement M
release_spec =
    let answers = tie.spec
    (λ c κs. search rules)
    (λ c κs. search rules)
    (λ c. search rules)
    (λ c. release_none _ _ _ c.requires c.header_of-h.ensures (λ k. (c.slice_known-1.given k).fits) c.if-h-eq0.true c.refuse.ensures)
    (λ c κs. search rules)
    (λ c. search rules)
    (λ c. release_some _ _ _ c.requires c.header_of-h.ensures c.if-h-eq0.false c.release.ensures) in
    tie.close answers
