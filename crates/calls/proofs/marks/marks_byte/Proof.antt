use borrow.Author.Rules.{rules}
use Rattle.calls.proofs.marks.marks_byte.Statement.{statement}
use Rattle.calls.proofs.marks.marks_byte.Tie as tie

pub marks_byte_spec : {M : Type 1} → statement M
marks_byte_spec =
    let answers = tie.spec
    (λ c. search rules)
    (λ c. rw (c.if-stopped.true, c.if-stopping.true))
    (λ c. rw (c.if-stopped.true, c.if-stopping.false))
    (λ c. rw (c.if-stopped.false, c.if-stopping-2.true))
    (λ c. rw (c.if-stopped.false, c.if-stopping-2.false)) in
    tie.close answers
