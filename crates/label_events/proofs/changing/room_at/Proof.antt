use mathlib.Core.Logic.{⊎_elim}
use mathlib.Core.Path.{◌∙◌}
use native.Mathlib.Omega.{arith}
use borrow.Author.Rules.{rules}
use Rattle.label_events.proofs.Ended.{room-here, room-free, room_past, room_nowhere}
use Rattle.label_events.proofs.changing.room_at.Statement.{statement}
use Rattle.label_events.proofs.changing.room_at.Tie as tie

pub room_at_spec : {M : Type 1} → statement M
room_at_spec =
    let answers = tie.spec
    (λ c. search rules)
    (λ c. search rules)
    (λ c. search rules)
    (λ c. room-here _ _ c.in-Some.is c.if-words-i-eq-REQUEST_WORD.true _)
    (λ c κs. tt)
    (λ c. search rules)
    (λ c κs. tt)
    (λ c. c.where_free.ensures ∙ ⊎_elim
    (λ w. room-free _ _ c.in-Some.is w.if-words-i-eq-REQUEST_WORD.false _)
    (λ w. room_past _ _ c.in-Some.is (omega arith) _)
    c.if-i-words.branch-raw)
    (λ c. c.where_free-in-None.ensures ∙ room_nowhere _ c.in-None.is _) in
    tie.close answers
