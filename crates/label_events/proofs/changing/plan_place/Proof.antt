use mathlib.Core.Path.{refl}
use borrow.Author.Rules.{rules}
use Rattle.label_events.proofs.Planned.{change_none, change-taken, placed_moved, placed_stays, placed_new}
use Rattle.label_events.proofs.changing.plan_place.Statement.{statement}
use Rattle.label_events.proofs.changing.plan_place.Tie as tie

pub plan_place_spec : {M : Type 1} → statement M
plan_place_spec =
    let answers = tie.spec
    (λ c κs. c.requires)
    (λ c. search rules)
    (λ c κs. tt)
    (λ c. placed_moved _ _ _ _ _ _ c.if-moves.true c.word_of-word.ensures c.move_to.ensures c.in-Some.is)
    (λ c. search rules)
    (λ c. placed_new _ _ _ _ _ (change_none _ _ _ _ c.in-None.is c.if-code-eq0.true) c.in-None.is)
    (λ c κs. tt)
    (λ c. placed_stays _ _ _ _ _ _ c.if-moves.false c.word_of-word.ensures c.in-Some.is)
    (λ c. placed_new _ _ _ _ _ (change-taken _ _ _ _ c.in-None.is c.if-code-eq0.false c.word_of-word.ensures refl c.take_free.ensures) c.in-None.is) in
    tie.close answers
