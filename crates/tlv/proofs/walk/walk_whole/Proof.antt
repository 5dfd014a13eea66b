use borrow.Author.Rules.{rules}
use Rattle.tlv.proofs.Noted.{heads}
use Rattle.tlv.proofs.walk.walk_whole.Statement.{statement}
use Rattle.tlv.proofs.walk.walk_whole.Tie as tie

pub walk_whole_spec : {M : Type 1} → statement M
walk_whole_spec =
    let answers = tie.spec
    (λ c. search (rules, heads)) (λ c. search (rules, heads)) (λ c. search (rules, heads)) (λ c. search (rules, heads))
    (λ c. search (rules, heads)) (λ c. search (rules, heads)) (λ c. search (rules, heads)) in
    tie.close answers
