use borrow.Author.Rules.{rules}
use borrow.Author.Tests.{eq-eqb, ne_eqb, lt-ltb, le-ltb}
use Rattle.label_list.specs.Word.{is_free}
use Rattle.label_events.proofs.changing.where_free.Statement.{statement}
use Rattle.label_events.proofs.changing.where_free.Tie as tie

pub where_free_spec : {M : Type 1} → statement M
unfolding is_free
where_free_spec =
    let answers = tie.spec
    (λ c. search rules)
    (λ c. rw (c.in-Some.is, le-ltb _ _ c.if-words-i.true))
    (λ c. search rules)
    (λ c. search rules)
    (λ c. rw (c.in-Some.is, lt-ltb _ _ c.if-words-i.false, ne_eqb _ _ c.if-words-i-ne0.true))
    (λ c. search rules)
    (λ c. rw (c.in-Some.is, lt-ltb _ _ c.if-words-i.false, eq-eqb _ _ c.if-words-i-ne0.false))
    (λ c. search rules) in
    tie.close answers
