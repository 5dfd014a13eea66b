-- `pdu::open_pdu` meets its contract: each answer is a law of `opened_of` at the tests that led there. Assumes nothing.
use borrow.Author.Rules.{rules}
use Rattle.pdu.proofs.Count.{openings}
use Rattle.pdu.proofs.open_pdu.Statement.{statement}
use Rattle.pdu.proofs.open_pdu.Tie as tie

pub open_pdu_spec : {M : Type 1} → statement M
open_pdu_spec =
    let answers = tie.spec
    (λ c. search (rules, openings))
    (λ c. search (rules, openings))
    (λ c. search (rules, openings))
    (λ c. search (rules, openings))
    (λ c. search (rules, openings))
    (λ c. search (rules, openings))
    (λ c. search (rules, openings))
    (λ c. search (rules, openings))
    (λ c. search (rules, openings)) in
    tie.close answers
