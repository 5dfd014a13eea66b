use Rattle.timers.proofs.Judged.{never_expires, expires}
use Rattle.timers.proofs.has_expired.Statement.{statement}
use Rattle.timers.proofs.has_expired.Tie as tie

pub has_expired_spec : {M : Type 1} → statement M
has_expired_spec =
    let answers = tie.spec
    (λ c. never_expires _ _ c.if-h-eq0.true)
    (λ c. expires _ _ c.if-h-eq0.false) in
    tie.close answers
