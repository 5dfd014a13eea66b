-- `message_numbers::messages::message_read` meets its contract. Assumes nothing.
use mathlib.Core.Path.{refl, sym}
use borrow.Author.Rules.{rules}
use Rattle.message.proofs.Readings.{reading_malformed, reading_places, reading_whole}
use Rattle.message_numbers.proofs.Parts.{message_narrow}
use Rattle.message_numbers.proofs.messages.message_read.Statement.{statement}
use Rattle.message_numbers.proofs.messages.message_read.Tie as tie

pub message_read_spec : {M : Type 1} → statement M
message_read_spec =
    let answers = tie.spec
    (λ c κs. search rules)
    (λ c. search rules)
    (λ c κs. search rules)
    (λ c. search rules)
    (λ c κs. (
      reading_places _ _ c.places_in.ensures _ c.in-Some.is,
      message_narrow _ (λ k. (c.shared_slice_known-1.given k).fits) _ (sym (reading_whole _ _ c.places_in.ensures _ c.in-Some.is _ refl)),
    ))
    (λ c. rw (← reading_malformed _ _ c.places_in.ensures c.in-None.is) c.no_message.ensures)
    (λ c. rw (← reading_whole _ _ c.places_in.ensures _ c.in-Some.is _ refl) c.whole_message.ensures) in
    tie.close answers
