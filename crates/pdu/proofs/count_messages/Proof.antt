-- `pdu::count_messages` meets its contract. The loop's invariant: the messages from `at` on, counted on from `count`, are those of the whole PDU.
-- Assumes nothing.
use Prim.Native.Nat.{◌-◌, ◌≤◌}
use mathlib.Core.Path.{◌≡◌, refl, sym, ◌∙◌}
use native.Mathlib.Omega.{arith}
use lib.ListN.{length}
use borrow.Author.Rules.{rules}
use Rattle.pdu.specs.Pdu.{counted_from}
use Rattle.pdu.proofs.Count.{count_end, count_next, count_none}
use Rattle.pdu.proofs.Message.{Within, place-within}
use Rattle.pdu.proofs.count_messages.Statement.{statement}
use Rattle.pdu.proofs.count_messages.Tie as tie

abbrev invariant-messages : tie.invariant-messages
invariant-messages pdu at₀ count₀ at count = (at ≤ length pdu) × (count ≤ at) × (counted_from pdu at count ≡ counted_from pdu 10 0)

abbrev decreases-messages : tie.decreases-messages
decreases-messages pdu at₀ count₀ at count = length pdu - at

-- where the message lies that was found
lies : (c : tie.In-Some invariant-messages decreases-messages) → Within c.args.pdu.now c.messages.at c.in-Some.place.start c.in-Some.place.end
lies c = place-within _ _ _ _ (sym c.message_at.ensures ∙ c.in-Some.is)

messages-again : tie.Need-messages-preserved invariant-messages decreases-messages
messages-again c =
    let w = lies c in (
      omega arith,
      omega arith,
      sym
          (count_next _ _ _ c.if-at-pdu.false _ c.message_at.ensures _ _ c.in-Some.is)
          ∙ c.messages.invariant.2,
    )

returns-2 : tie.Need-returns-in-None invariant-messages decreases-messages
returns-2 c =
    sym
    (count_none _ _ _ c.if-at-pdu.false _ c.message_at.ensures c.in-None.is)
    ∙ c.messages.invariant.2

pub count_messages_spec : {M : Type 1} → statement M
count_messages_spec =
    let answers = tie.spec invariant-messages decreases-messages
    (λ c. (omega arith, omega arith, refl))
    (λ c. search rules)
    (λ c. search rules)
    (λ c. search rules)
    (λ c. let w = lies c in omega arith)
    messages-again
    (λ c. search rules)
    (λ c. sym (count_end _ _ _ c.if-at-pdu.true) ∙ c.messages.invariant.2)
    returns-2 in
    tie.close answers
