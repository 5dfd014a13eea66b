use borrow.Author.Rules.{rules}
use Rattle.receive.proofs.Messages.{effect_is}
use Rattle.receive.proofs.labels.label_effect.Statement.{statement}
use Rattle.receive.proofs.labels.label_effect.Tie as tie

pub label_effect_spec : {M : Type 1} → statement M
label_effect_spec =
    let answers = tie.spec
    (λ c κs. search rules)
    (λ c κs. search rules)
    (λ c. effect_is _ c.touched_by.ensures c.effect_on.ensures) in
    tie.close answers
