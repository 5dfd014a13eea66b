use borrow.Author.Rules.{rules}
use Rattle.calls.proofs.Freeing.{withdraw-frees, other-frees}
use Rattle.calls.proofs.acking.frees_label.Statement.{statement}
use Rattle.calls.proofs.acking.frees_label.Tie as tie

pub frees_label_spec : {M : Type 1} → statement M
frees_label_spec =
    let answers = tie.spec
    (λ c κs. search rules)
    (λ c κs. search rules)
    (λ c. withdraw-frees _ c.kind_number-withdraw.ensures c.if-kind-withdraw.true)
    (λ c. other-frees _ c.kind_number-withdraw.ensures c.if-kind-withdraw.false c.kind_number-release.ensures) in
    tie.close answers
