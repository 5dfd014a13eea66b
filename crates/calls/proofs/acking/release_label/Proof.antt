use borrow.Author.Rules.{rules}
use Rattle.calls.proofs.Releasing.{released-withdraw, released-release, released-other}
use Rattle.calls.proofs.acking.release_label.Statement.{statement}
use Rattle.calls.proofs.acking.release_label.Tie as tie

pub release_label_spec : {M : Type 1} → statement M
release_label_spec =
    let answers = tie.spec
    (λ c κs. search rules)
    (λ c κs. search rules)
    (λ c. search rules)
    (λ c. released-withdraw _ _ _ c.kind_number.ensures c.if-kind-kind_number.true c.release_by_ack.ensures)
    (λ c κs. search rules)
    (λ c κs. search rules)
    (λ c. search rules)
    (λ c. released-release _ _ _ c.kind_number.ensures c.if-kind-kind_number.false c.kind_number-2.ensures c.if-kind-kind_number-2.true c.release_by_ack-then-kind-kind_number-2.ensures)
    (λ c. released-other _ _ _ c.kind_number.ensures c.if-kind-kind_number.false c.kind_number-2.ensures c.if-kind-kind_number-2.false) in
    tie.close answers
