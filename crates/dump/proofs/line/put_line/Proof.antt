-- `dump::line::put_line` meets its contract. Assumes nothing.
use borrow.Author.Rules.{rules}
use Rattle.dump.proofs.Pieces.{put-line}
use Rattle.dump.proofs.line.put_line.Statement.{statement}
use Rattle.dump.proofs.line.put_line.Tie as tie

pub put_line_spec : {M : Type 1} → statement M
put_line_spec =
    let answers = tie.spec
    (λ c. search rules)
    (λ c. search rules)
    (λ c. search rules)
    (λ c. search rules)
    (λ c. search (rules, put-line)) in
    tie.close answers
