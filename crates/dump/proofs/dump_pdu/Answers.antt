-- `dump::dump_pdu` meets its contract. Assumes nothing.
use Rattle.text.proofs.Pieces.{put_then}
use Rattle.dump.specs.Line.{pdu_text}
use Rattle.dump.proofs.dump_pdu.Goals as goal

pub returns-in-Some-clause-put : goal.returns-in-Some-clause-put
unfolding pdu_text
returns-in-Some-clause-put c = rw (← c.open_pdu.ensures, c.in-Some.is) c.put_lines-end.ensures.put

pub returns-in-None-clause-put : goal.returns-in-None-clause-put
unfolding pdu_text
returns-in-None-clause-put c =
    rw (← c.open_pdu.ensures, c.in-None.is) (put_then c.put_decimal-end.ensures.put c.put_text-end.ensures)
