-- `image_report::lines::put_line` meets its contract: the texts one after the other. Assumes nothing.
use borrow.Author.Rules.{rules}
use Rattle.text.proofs.Pieces.{put_then}
use Rattle.image_report.proofs.lines.put_line.Statement.{statement}
use Rattle.image_report.proofs.lines.put_line.Tie as tie

pub put_line_spec : {M : Type 1} → statement M
put_line_spec =
    let answers = tie.spec
    (λ c κs. search rules)
    (λ c. search rules)
    (λ c κs. search rules)
    (λ c. search rules)
    (λ c. (put_then c.put_text-after.ensures (put_then c.put_decimal-end.ensures.0 c.put_text.ensures), search rules)) in
    tie.close answers
