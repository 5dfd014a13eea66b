use borrow.Author.Rules.{rules}
use Rattle.label_events.specs.Protect.{protection_of, protection_beside}
use Rattle.label_events.proofs.Planned.{place_in, protection_label}
use Rattle.label_events.proofs.protecting.judge_protection.Statement.{statement}
use Rattle.label_events.proofs.protecting.judge_protection.Tie as tie

pub judge_protection_spec : {M : Type 1} → statement M
unfolding protection_of protection_beside
judge_protection_spec =
    let answers = tie.spec
    (λ c. search rules)
    (λ c κs. place_in _ _ _ c.requires)
    (λ c κs. tt)
    (λ c. search rules)
    (λ c κs. tt)
    (λ c. search rules)
    (λ c κs. tt)
    (λ c. search rules)
    (λ c. protection_label _ _ _ _ _ c.in-Label.is c.requires c.code_at.ensures.0 c.code_protection.ensures)
    (λ c. rw c.in-Every.is c.protection_of_every.ensures)
    (λ c. rw c.in-Prefix.is c.protection_of_prefix.ensures)
    (λ c. rw c.in-Nothing.is) in
    tie.close answers
