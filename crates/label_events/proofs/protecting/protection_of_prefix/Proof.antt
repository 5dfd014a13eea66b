use Rattle.label_events.proofs.protecting.protection_of_prefix.Statement.{statement}
use Rattle.label_events.proofs.protecting.protection_of_prefix.Tie as tie

pub protection_of_prefix_spec : {M : Type 1} → statement M
protection_of_prefix_spec =
    let answers = tie.spec
    (λ c. rw c.if-protected.true)
    (λ c κs. tt)
    (λ c κs. tt)
    (λ c. rw (c.if-protected.false, ← c.received_side.ensures, ← c.any_guarded.ensures, c.if-any_guarded.true))
    (λ c. rw (c.if-protected.false, ← c.received_side.ensures, ← c.any_guarded.ensures, c.if-any_guarded.false)) in
    tie.close answers
