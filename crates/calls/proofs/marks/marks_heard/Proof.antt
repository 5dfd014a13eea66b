use borrow.Author.Rules.{rules}
use Rattle.calls.proofs.marks.marks_heard.Statement.{statement}
use Rattle.calls.proofs.marks.marks_heard.Tie as tie

pub marks_heard_spec : {M : Type 1} → statement M
marks_heard_spec =
    let answers = tie.spec
    (λ c κs. search rules)
    (λ c κs. search rules)
    (λ c κs. search rules)
    (λ c κs. search rules)
    (λ c. rw (c.marks_byte.ensures, c.requests_refused.ensures, c.stop_after.ensures, c.requests_stopped.ensures)) in
    tie.close answers
