-- `message_numbers::messages::pdu_message` meets its contract. Assumes nothing.
use mathlib.Core.Path.{sym, ◌∙◌}
use borrow.Author.Rules.{rules}
use Rattle.message_numbers.proofs.Parts.{place_ordered}
use Rattle.message_numbers.proofs.messages.pdu_message.Statement.{statement}
use Rattle.message_numbers.proofs.messages.pdu_message.Tie as tie

pub pdu_message_spec : {M : Type 1} → statement M
pdu_message_spec =
    let answers = tie.spec
    (λ c κs. search rules)
    (λ c. search rules)
    (λ c κs. place_ordered _ _ _ _ (sym c.message_at.ensures ∙ c.in-Some.is))
    (λ c. search rules)
    (λ c. rw (← c.message_at.ensures, c.in-Some.is) c.part_numbers.ensures)
    (λ c. rw (← c.message_at.ensures, c.in-None.is)) in
    tie.close answers
