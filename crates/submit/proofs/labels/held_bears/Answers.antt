use Rattle.image.proofs.Queue.{queue_storable}
use Rattle.submit.proofs.Barring.{other_kind, same_kind}
use Rattle.submit.proofs.labels.held_bears.Goals as goal

pub returns-then-held_kind-kind : goal.returns-then-held_kind-kind
returns-then-held_kind-kind c =
    other_kind _ (queue_storable _ c.requires.0 _ c.requires.1) _ _ c.held_kind.ensures c.if-held_kind-kind.true

pub returns : goal.returns
returns c =
    same_kind _ (queue_storable _ c.requires.0 _ c.requires.1) _ _ c.held_kind.ensures c.held_label.ensures
    c.if-held_kind-kind.false
