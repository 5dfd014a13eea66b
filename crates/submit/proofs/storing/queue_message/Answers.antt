use mathlib.Core.Path.{◌∙◌}
use borrow.Author.Rules.{rules}
use Rattle.submit.proofs.Settling.{none_moved, put_inside, queued_is, slotted_inside}
use Rattle.submit.proofs.storing.queue_message.Goals as goal

pub store_further-further-requires : goal.store_further-further-requires
store_further-further-requires c = (
  c.store_slot.auto.image ∙ c.requires.sound.size,
  slotted_inside _ _ _ _ c.requires c.header_of-h.ensures c.next_slot-k.ensures c.store_slot.ensures,
)

pub store_change-requires : goal.store_change-requires
store_change-requires c = (
  c.store_further-further.auto.image ∙ c.store_slot.auto.image ∙ c.requires.sound.size,
  put_inside _ _ _ _ c.requires c.header_of-h.ensures c.next_slot-k.ensures c.store_slot.ensures
      c.store_further-further.ensures,
  none_moved _ _ _ _ c.requires,
)

pub returns : goal.returns
returns c =
    queued_is _ _ _ _ c.requires c.header_of-h.ensures c.next_slot-k.ensures c.store_slot.ensures
    c.store_further-further.ensures _ (search rules) (search rules) c.queued_header.ensures c.store_change.ensures
