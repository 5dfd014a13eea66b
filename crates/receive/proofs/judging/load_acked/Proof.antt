use mathlib.Core.Bool.{false≢true}
use mathlib.Core.Path.{sym, ◌∙◌}
use borrow.Author.Rules.{rules}
use Rattle.receive.proofs.judging.load_acked.Statement.{statement}
use Rattle.receive.proofs.judging.load_acked.Tie as tie

pub load_acked_spec : {M : Type 1} → statement M
load_acked_spec =
    let answers = tie.spec
    (λ c κs. search rules)
    (λ c n. absurd (false≢true (sym n ∙ sym c.labels_stay.ensures ∙ c.if-labels_stay.true)))
    (λ c κs. search rules)
    (λ c κs. search rules)
    (λ c. search rules)
    (λ c n. rw (← c.labels_of.ensures) c.release_labels.ensures) in
    tie.close answers
