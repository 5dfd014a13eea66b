use Rattle.image.specs.State.{decode}
use Rattle.image.proofs.Queue.{queue_length, queue_storable}
use Rattle.send.proofs.Passing.{undone_among, undone_none}
use Rattle.send.proofs.leaving_out.is_undone.Goals as goal

pub returns-then-held_kind-ne-REQUEST : goal.returns-then-held_kind-ne-REQUEST
returns-then-held_kind-ne-REQUEST c =
    undone_none (decode c.args.image.now).queue c.args.i (rw queue_length c.requires.1) c.held_kind.ensures
    c.if-held_kind-ne-REQUEST.true

pub id_in-requires : goal.id_in-requires
id_in-requires c =
    rw c.held_message.ensures.result_value (queue_storable _ c.requires.0 _ c.requires.1).low

pub returns : goal.returns
returns c =
    undone_among (decode c.args.image.now).queue c.args.i (rw queue_length c.requires.1) c.held_kind.ensures
    c.if-held_kind-ne-REQUEST.false c.held_message.ensures.result_value c.id_in.ensures c.requires.2 c.is_among.ensures
