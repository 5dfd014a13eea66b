-- `image_report::lines::put_numbers` meets its contract: the lines one after the other. Assumes nothing.
use Rattle.text.proofs.Pieces.{put_then}
use Rattle.image_report.proofs.lines.put_numbers.Goals as goal

pub returns-clause-put : goal.returns-clause-put
returns-clause-put c = put_then c.put_line-released.ensures.put (put_then c.put_line-issued.ensures.put c.put_line.ensures.put)
