-- `image_numbers::contents::held` meets its contract: what it shows is the message, by the law of the definition. Assumes nothing.
use native.Mathlib.Omega.{arith}
use borrow.Author.Rules.{rules}
use Rattle.image_numbers.proofs.Holdings.{contents_sound, held_refused, held_none, held-live, held_low, held-shown, shows_held}
use Rattle.image_numbers.proofs.contents.held.Statement.{statement}
use Rattle.image_numbers.proofs.contents.held.Tie as tie

pub held_spec : {M : Type 1} → statement M
held_spec =
    let answers = tie.spec
    (λ c κs. search rules)
    (λ c κs. search rules)
    (λ c κs. search rules)
    (λ c. let e = held_refused _ c.check_image.ensures c.verdict_number-answer.ensures _ c.if-answer-ne0.true c.no_part.ensures in (e, rw e (shows_held _ _)))
    (λ c κs. (contents_sound _ c.check_image.ensures c.verdict_number-answer.ensures c.if-answer-ne0.false).size)
    (λ c. search rules)
    (λ c κs. search rules)
    (λ c. let e = held_none _ c.check_image.ensures c.verdict_number-answer.ensures _ c.if-answer-ne0.false c.header_of-h.ensures c.if-h-place.true c.no_part-then-h-place.ensures in (e, rw e (shows_held _ _)))
    (λ c κs. held-live _ c.check_image.ensures c.verdict_number-answer.ensures _ c.if-answer-ne0.false c.header_of-h.ensures c.if-h-place.false)
    (λ c κs. held-live _ c.check_image.ensures c.verdict_number-answer.ensures _ c.if-answer-ne0.false c.header_of-h.ensures c.if-h-place.false)
    (λ c. omega (arith, held_low _ c.check_image.ensures c.verdict_number-answer.ensures _ c.if-answer-ne0.false c.header_of-h.ensures c.if-h-place.false c.held_start-start.ensures c.held_message.ensures.0))
    (λ c. omega (arith, held_low _ c.check_image.ensures c.verdict_number-answer.ensures _ c.if-answer-ne0.false c.header_of-h.ensures c.if-h-place.false c.held_start-start.ensures c.held_message.ensures.0))
    (λ c. omega (arith, held_low _ c.check_image.ensures c.verdict_number-answer.ensures _ c.if-answer-ne0.false c.header_of-h.ensures c.if-h-place.false c.held_start-start.ensures c.held_message.ensures.0))
    (λ c. let e = held-shown _ c.check_image.ensures c.verdict_number-answer.ensures _ c.if-answer-ne0.false c.header_of-h.ensures c.if-h-place.false c.held_start-start.ensures c.held_message.ensures.0 in (e, rw e (shows_held _ _))) in
    tie.close answers
