use mathlib.Core.Path.{sym, ◌∙◌}
use borrow.Author.Rules.{rules}
use Rattle.receive.proofs.Taken.{put, put_stays}
use Rattle.receive.proofs.taking.store_zeroth.Statement.{statement}
use Rattle.receive.proofs.taking.store_zeroth.Tie as tie

pub store_zeroth_spec : {M : Type 1} → statement M
store_zeroth_spec =
    let answers = tie.spec
    (λ c κs. rw (c.requires.2, c.requires.1) c.requires.0.within)
    (λ c κs. (c.requires.0.sound, rw c.requires.2 c.requires.0.within))
    (λ c κs. search rules)
    (λ c. search rules)
    (λ c. put_stays _ c.requires.0.sound _ c.requires.1 c.requires.2 c.next_header-next.ensures (sym c.labels_stay.ensures ∙ c.if-labels_stay.true) c.store_numbers.ensures)
    (λ c κs. search rules)
    (λ c. search rules)
    (λ c. put _ c.requires.0.sound _ c.requires.1 c.requires.2 c.next_header-next.ensures (c.requires.0.labels (rw (← c.requires.2) (sym c.labels_stay.ensures ∙ c.if-labels_stay.false))) c.store_changed.ensures) in
    tie.close answers
