use native.Mathlib.Omega.{arith}
use borrow.Author.Rules.{rules}
use Rattle.label_list.proofs.Reached.{found_in_lem, found_place}
use Rattle.label_list.proofs.Small.{acked-small}
use Rattle.label_events.proofs.Planned.{acked-small_label, acked_found, acked-absent}
use Rattle.label_events.proofs.accepting.release_by_ack.Statement.{statement}
use Rattle.label_events.proofs.accepting.release_by_ack.Tie as tie

pub release_by_ack_spec : {M : Type 1} → statement M
release_by_ack_spec =
    let answers = tie.spec
    (λ c κs. tt)
    (λ c κs. tt)
    (λ c. search rules)
    (λ c. omega (arith, found_place _ _ _ (found_in_lem _ _ c.find_label.ensures) c.in-Some.is))
    (λ c. found_place _ _ _ (found_in_lem _ _ c.find_label.ensures) c.in-Some.is)
    (λ c κs. tt)
    (λ c κs. (
      acked-small_label _ c.args.message _ c.sent_side.ensures c.find_label.ensures _ c.in-Some.is,
      rw c.code_acked.ensures (acked-small c.args.message _ (omega (arith, c.slice_known-in-Some-1.given c.in-Some.i))),
    ))
    (λ c. omega (arith, found_place _ _ _ (found_in_lem _ _ c.find_label.ensures) c.in-Some.is))
    (λ c. found_place _ _ _ (found_in_lem _ _ c.find_label.ensures) c.in-Some.is)
    (λ c. search rules)
    (λ c. search rules)
    (λ c. acked_found _ _ _ c.sent_side.ensures c.find_label.ensures _ c.in-Some.is c.code_acked.ensures c.word_of.ensures)
    (λ c. search rules)
    (λ c. acked-absent _ _ _ c.sent_side.ensures c.find_label.ensures c.in-None.is) in
    tie.close answers
