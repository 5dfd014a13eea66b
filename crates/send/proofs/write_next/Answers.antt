use Rattle.send.proofs.Acts.{next_fits, next-written}
use Rattle.send.proofs.write_next.Goals as goal

pub write_protected-requires : goal.write_protected-requires
write_protected-requires c = next_fits _ _ c.requires.0 c.requires.1 c.held_message-m.ensures.result_value

pub returns : goal.returns
returns c =
    next-written _ _ _ _ c.header_of-h.ensures c.held_message-m.ensures.result_value c.number_at.ensures
    c.ack_asked.ensures c.write_protected.ensures
