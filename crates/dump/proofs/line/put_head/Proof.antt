-- `dump::line::put_head` meets its contract. Assumes nothing.
use borrow.Author.Rules.{rules}
use Rattle.dump.proofs.Pieces.{put_head}
use Rattle.dump.proofs.line.put_head.Statement.{statement}
use Rattle.dump.proofs.line.put_head.Tie as tie

returns : tie.Need-returns
returns c = (
  put_head _ _ _ _ _
      c.number_in-kind.ensures
      c.id_in-id.ensures
      c.put_decimal-end.ensures.0
      c.put_number-end.ensures.0
      c.put_type-end.ensures.0
      c.put_number.ensures.0,
  search rules,
)

pub put_head_spec : {M : Type 1} → statement M
put_head_spec =
    let answers = tie.spec
    (λ c. search rules)
    (λ c. search rules)
    (λ c. search rules)
    (λ c. search rules)
    (λ c. search rules)
    (λ c. search rules)
    (λ c. search rules)
    (λ c. search rules)
    returns in
    tie.close answers
