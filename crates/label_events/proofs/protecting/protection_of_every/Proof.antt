use mathlib.Core.Path.{sym}
use borrow.Author.Rules.{rules}
use Rattle.label_list.proofs.Sought.{found_any}
use Rattle.label_events.specs.Protect.{protection_of}
use Rattle.label_events.proofs.protecting.protection_of_every.Statement.{statement}
use Rattle.label_events.proofs.protecting.protection_of_every.Tie as tie

pub protection_of_every_spec : {M : Type 1} → statement M
unfolding protection_of
protection_of_every_spec =
    let answers = tie.spec
    (λ c. rw c.if-protected.true)
    (λ c κs. tt)
    (λ c κs. tt)
    (λ c. search rules)
    (λ c. search rules)
    (λ c. rw (c.if-protected.false, ← c.received_side.ensures, sym (found_any _ _ c.find.ensures), c.in-Some.is))
    (λ c. rw (c.if-protected.false, ← c.received_side.ensures, sym (found_any _ _ c.find.ensures), c.in-None.is)) in
    tie.close answers
