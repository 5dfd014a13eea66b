use borrow.Author.Rules.{rules}
use Rattle.receive.proofs.room.mapping_needs.Statement.{statement}
use Rattle.receive.proofs.room.mapping_needs.Tie as tie

pub mapping_needs_spec : {M : Type 1} → statement M
mapping_needs_spec =
    let answers = tie.spec
    (λ c. search rules)
    (λ c κs. search rules)
    (λ c. rw (c.in-Label.is, ← c.is_listable.ensures, c.if-not-is_listable.true))
    (λ c κs. search rules)
    (λ c. search rules)
    (λ c. search rules)
    (λ c. search rules)
    (λ c. rw (c.in-Label.is, ← c.is_listable.ensures, c.if-not-is_listable.false) c.takes_anew.ensures)
    (λ c. search rules)
    (λ c. search rules)
    (λ c. search rules) in
    tie.close answers
