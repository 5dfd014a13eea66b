use borrow.Author.Rules.{rules}
use Rattle.receive.proofs.taking.next_header.Statement.{statement}
use Rattle.receive.proofs.taking.next_header.Tie as tie

pub next_header_spec : {M : Type 1} → statement M
next_header_spec =
    let answers = tie.spec
    (λ c κs. search rules)
    (λ c κs. search rules)
    (λ c κs. search rules)
    (λ c κs. search rules)
    (λ c κs. search rules)
    (λ c. rw (c.marks_heard.ensures, c.kind_of.ensures, c.secured_by-next.ensures, c.released_header-next.ensures, c.ack_borne.ensures)) in
    tie.close answers
