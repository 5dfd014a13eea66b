use borrow.Author.Rules.{rules}
use Rattle.message.proofs.Submissions.{kinds}
use Rattle.message.proofs.notification_kind.Statement.{statement}
use Rattle.message.proofs.notification_kind.Tie as tie

pub notification_kind_spec : {M : Type 1} → statement M
notification_kind_spec =
    let answers = tie.spec
    (λ c. search (rules, kinds)) (λ c. search (rules, kinds)) (λ c. search (rules, kinds)) (λ c. search (rules, kinds))
    (λ c. search (rules, kinds)) (λ c. search (rules, kinds)) (λ c. search (rules, kinds)) (λ c. search (rules, kinds))
    (λ c. search (rules, kinds)) in
    tie.close answers
