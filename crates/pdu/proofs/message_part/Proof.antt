-- `pdu::message_part` meets its contract: what lies at the place that `message_at` found. Assumes nothing.
use mathlib.Core.Path.{refl, sym, ◌∙◌}
use native.Mathlib.Omega.{arith}
use borrow.Author.Rules.{rules}
use Rattle.pdu.proofs.Message.{Within, place-within}
use Rattle.pdu.proofs.message_part.Statement.{statement}
use Rattle.pdu.proofs.message_part.Tie as tie

-- where the message lies that was found
lies : (c : tie.In-Some) → Within c.args.pdu.now c.args.at c.in-Some.place.start c.in-Some.place.end
lies c = place-within _ _ _ _ (sym c.message_at.ensures ∙ c.in-Some.is)

pub message_part_spec : {M : Type 1} → statement M
message_part_spec =
    let answers = tie.spec
    (λ c. search rules)
    (λ c. search rules)
    (λ c. let w = lies c in omega arith)
    (λ c. let w = lies c in omega arith)
    (λ c. (lies c).inside)
    (λ c. search rules)
    (λ c. search rules)
    (λ c. search rules)
    (λ c. search rules)
    (λ c. rw (← c.message_at.ensures, c.in-Some.is) (refl, (refl, search rules)))
    (λ c. rw (← c.message_at.ensures, c.in-None.is) (refl, (refl, search rules))) in
    tie.close answers
