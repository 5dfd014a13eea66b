-- `image_report::lines::put_report` meets its contract, where the report counts. Assumes nothing.
use Rattle.text.proofs.Pieces.{put_then}
use Rattle.image_report.proofs.lines.put_report.Goals as goal

pub returns-in-Ok-clause-put : goal.returns-in-Ok-clause-put
returns-in-Ok-clause-put c = rw c.in-Ok.is (put_then c.put_numbers-end.ensures.put c.put_counts.ensures.put)
