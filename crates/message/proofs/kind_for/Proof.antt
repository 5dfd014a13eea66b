use borrow.Author.Rules.{rules}
use Rattle.message.proofs.kind_for.Statement.{statement}
use Rattle.message.proofs.kind_for.Tie as tie

pub kind_for_spec : {M : Type 1} → statement M
kind_for_spec =
    let answers = tie.spec
    (λ c. search rules) (λ c. search rules) (λ c. search rules) (λ c. search rules)
    (λ c. search rules) (λ c. search rules) (λ c. search rules) (λ c. search rules)
    (λ c. search rules) (λ c. search rules) (λ c. search rules) (λ c. search rules)
    (λ c. search rules)
    (λ c. rw c.in-Notification.is c.notification_kind.ensures)
    (λ c. rw c.in-Initialization.is)
    (λ c. rw c.in-KeepAlive.is)
    (λ c. rw c.in-Address.is)
    (λ c. rw c.in-AddressWithdraw.is)
    (λ c. rw c.in-Mapping.is)
    (λ c. rw c.in-Request.is)
    (λ c. rw c.in-Withdraw.is)
    (λ c. rw c.in-Release.is)
    (λ c. rw c.in-Abort.is c.abort_kind.ensures)
    (λ c. rw c.in-Other.is) in
    tie.close answers
