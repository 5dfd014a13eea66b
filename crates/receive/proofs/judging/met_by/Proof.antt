use borrow.Author.Rules.{rules}
use Rattle.receive.proofs.Judged.{effect_inside, met_serves}
use Rattle.receive.proofs.judging.met_by.Statement.{statement}
use Rattle.receive.proofs.judging.met_by.Tie as tie

pub met_by_spec : {M : Type 1} → statement M
met_by_spec =
    let answers = tie.spec
    (λ c κs. (c.requires.0, effect_inside _ _ c.args.effect c.requires.1 c.requires.3))
    (λ c κs. search rules)
    (λ c κs. search rules)
    (λ c. met_serves _ _ _ c.requires.2 c.requires.3 c.answered_place-request.ensures c.brings_another-another.ensures c.spare_for.ensures) in
    tie.close answers
