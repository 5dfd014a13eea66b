use borrow.Author.Rules.{rules}
use Rattle.receive.proofs.room.spare_for.Statement.{statement}
use Rattle.receive.proofs.room.spare_for.Tie as tie

pub spare_for_spec : {M : Type 1} → statement M
spare_for_spec =
    let answers = tie.spec
    (λ c κs. search rules)
    (λ c. rw (← c.needs_word.ensures, c.if-not-needs_word.true))
    (λ c κs. search rules)
    (λ c. rw (← c.needs_word.ensures, c.if-not-needs_word.false) c.spare_beside.ensures) in
    tie.close answers
