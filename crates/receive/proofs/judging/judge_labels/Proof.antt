use mathlib.Core.Bool.{false≢true}
use mathlib.Core.Path.{ap, sym, ◌∙◌}
use borrow.Author.Rules.{rules}
use Rattle.receive.specs.Words.{asks_entries}
use Rattle.receive.proofs.judging.judge_labels.Statement.{statement}
use Rattle.receive.proofs.judging.judge_labels.Tie as tie

pub judge_labels_spec : {M : Type 1} → statement M
judge_labels_spec =
    let answers = tie.spec
    (λ c κs. search rules)
    (λ c κs. search rules)
    (λ c κs. (c.requires.0, c.requires.1, c.label_effect-effect.ensures, c.requires.2))
    (λ c. search rules)
    (λ c. c.judge_prefix.ensures)
    (λ c. search rules)
    (λ c κs. (c.requires.0, c.requires.1, c.label_effect-effect.ensures, c.requires.2, λ y. absurd (false≢true (sym c.if-asks_entries.false ∙ c.asks_entries.ensures ∙ ap asks_entries c.label_effect-effect.ensures ∙ y))))
    (λ c. search rules)
    (λ c. c.judge_beside.ensures) in
    tie.close answers
