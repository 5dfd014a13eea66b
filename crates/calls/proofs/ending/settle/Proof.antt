use borrow.Author.Rules.{rules}
use Rattle.calls.proofs.Ends.{unchanged_is, settle_nothing, settle_fail, settle-release, settle-act}
use Rattle.calls.proofs.ending.settle.Statement.{statement}
use Rattle.calls.proofs.ending.settle.Tie as tie

pub settle_spec : {M : Type 1} → statement M
settle_spec =
    let answers = tie.spec
    (λ c κs. search rules)
    (λ c. search rules)
    (λ c κs. search rules)
    (λ c. search rules)
    (λ c κs. search rules)
    (λ c. search rules)
    (λ c κs. search rules)
    (λ c. search rules)
    (λ c κs. search rules)
    (λ c. settle_nothing _ _ _ _ _ c.effect_of.ensures c.in-Nothing.is c.refuse.ensures)
    (λ c. search rules)
    (λ c. settle_fail _ _ _ _ _ c.effect_of.ensures c.in-Fail.is c.fail.ensures)
    (λ c. search rules)
    (λ c. settle-release _ _ _ _ _ c.effect_of.ensures c.in-Release.is c.release.ensures)
    (λ c. settle-act _ _ _ _ _ c.effect_of.ensures c.in-Act.is (unchanged_is _ _ _ _ c.refuse-in-Act.ensures)) in
    tie.close answers
