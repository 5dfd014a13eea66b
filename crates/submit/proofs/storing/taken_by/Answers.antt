use Rattle.submit.proofs.Queueing.{change-at}
use Rattle.submit.proofs.Taking.{is_taken, not_taken}
use Rattle.submit.proofs.storing.taken_by.Goals as goal

pub label_at-requires : goal.label_at-requires
label_at-requires c = (c.requires.0, change-at _ _ _ _ c.requires.1 c.in-Put.is)

pub returns-then-label_at-ne0 : goal.returns-then-label_at-ne0
returns-then-label_at-ne0 c = not_taken _ _ _ _ c.in-Put.is c.label_at.ensures c.if-label_at-ne0.true

pub returns-else-label_at-ne0 : goal.returns-else-label_at-ne0
returns-else-label_at-ne0 c =
    is_taken _ _ _ _ c.in-Put.is c.label_at.ensures c.if-label_at-ne0.false c.requires.1
