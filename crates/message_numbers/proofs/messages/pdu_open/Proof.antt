-- `message_numbers::messages::pdu_open` meets its contract. Assumes nothing.
use borrow.Author.Rules.{rules}
use Rattle.message_numbers.proofs.messages.pdu_open.Statement.{statement}
use Rattle.message_numbers.proofs.messages.pdu_open.Tie as tie

pub pdu_open_spec : {M : Type 1} → statement M
pdu_open_spec =
    let answers = tie.spec
    (λ c κs. search rules)
    (λ c. search rules)
    (λ c. search rules)
    (λ c. rw (← c.open_pdu.ensures, c.in-Some.is))
    (λ c. rw (← c.open_pdu.ensures, c.in-None.is)) in
    tie.close answers
