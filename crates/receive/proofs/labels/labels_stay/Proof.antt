use borrow.Author.Rules.{rules}
use Rattle.receive.proofs.labels.labels_stay.Statement.{statement}
use Rattle.receive.proofs.labels.labels_stay.Tie as tie

pub labels_stay_spec : {M : Type 1} → statement M
labels_stay_spec =
    let answers = tie.spec
    (λ c κs. search rules)
    (λ c. rw (← c.leaves_words.ensures, c.if-not-leaves_words.true))
    (λ c κs. search rules)
    (λ c. rw (← c.leaves_words.ensures, c.if-not-leaves_words.false) c.frees_none.ensures) in
    tie.close answers
