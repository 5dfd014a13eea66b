use borrow.Author.Rules.{rules}
use Rattle.receive.proofs.Messages.{protection_missing, protection_by}
use Rattle.receive.proofs.labels.judge_protection.Statement.{statement}
use Rattle.receive.proofs.labels.judge_protection.Tie as tie

pub judge_protection_spec : {M : Type 1} → statement M
judge_protection_spec =
    let answers = tie.spec
    (λ c κs. search rules)
    (λ c κs. search rules)
    (λ c κs. search rules)
    (λ c. protection_missing c.args.words.now c.args.entries.now c.args.effect _ c.is_protected-protected.ensures c.kind_of.ensures c.lacks_protection.ensures c.if-lacks_protection.true)
    (λ c κs. c.requires)
    (λ c. protection_by c.args.words.now c.args.entries.now c.args.effect _ c.is_protected-protected.ensures c.kind_of.ensures c.lacks_protection.ensures c.if-lacks_protection.false c.judge_effect.ensures) in
    tie.close answers
