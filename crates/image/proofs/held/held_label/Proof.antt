-- `image::held::held_label` meets its contract, by the law of the queue. Assumes nothing.
use borrow.Author.Rules.{rules}
use Rattle.image.proofs.Queue.{label_read}
use Rattle.image.proofs.held.held_label.Statement.{statement}
use Rattle.image.proofs.held.held_label.Tie as tie

pub held_label_spec : {M : Type 1} → statement M
held_label_spec =
    let answers = tie.spec
    (λ c κs. search rules)
    (λ c κs. search rules)
    (λ c.
    let p = c.requires in
    label_read _ p.0 _ p.1 c.held_slot.ensures.0.0 c.label_of.ensures) in
    tie.close answers
