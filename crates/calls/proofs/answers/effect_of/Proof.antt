use native.Mathlib.Omega.{arith}
use borrow.Author.Rules.{rules}
use Rattle.protocol.proofs.Effects.{effect_act, effect_nothing, effect_fail, effect_release}
use Rattle.calls.proofs.answers.effect_of.Statement.{statement}
use Rattle.calls.proofs.answers.effect_of.Tie as tie

pub effect_of_spec : {M : Type 1} → statement M
effect_of_spec =
    let answers = tie.spec
    (λ c κs. search rules)
    (λ c. effect_act _ _ c.answer_number-n.ensures (omega arith))
    (λ c. effect_nothing _ _ c.answer_number-n.ensures (omega arith) (omega arith))
    (λ c. effect_fail _ _ c.answer_number-n.ensures (omega arith) (omega arith))
    (λ c. effect_release _ _ c.answer_number-n.ensures (omega arith)) in
    tie.close answers
