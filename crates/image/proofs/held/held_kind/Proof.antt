-- `image::held::held_kind` meets its contract, by the law of the queue. Assumes nothing.
use borrow.Author.Rules.{rules}
use Rattle.image.proofs.Queue.{kind_read}
use Rattle.image.proofs.held.held_kind.Statement.{statement}
use Rattle.image.proofs.held.held_kind.Tie as tie

pub held_kind_spec : {M : Type 1} → statement M
held_kind_spec =
    let answers = tie.spec
    (λ c κs. search rules)
    (λ c κs. search rules)
    (λ c.
    let p = c.requires in
    kind_read _ p.0 _ p.1 c.held_slot.ensures.0.0 c.kind_of.ensures) in
    tie.close answers
