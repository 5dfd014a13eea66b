-- `dump::line::put_fields` meets its contract. Assumes nothing.
use borrow.Author.Rules.{rules}
use Rattle.text.proofs.Pieces.{put_then}
use Rattle.dump.proofs.line.put_fields.Statement.{statement}
use Rattle.dump.proofs.line.put_fields.Tie as tie

returns : tie.Need-returns
returns c = (
  put_then (put_then (put_then
      c.put_binding-end.ensures.0
      c.put_state-end.ensures.0)
      c.put_ft-end.ensures.0)
      c.put_request_id.ensures.0,
  search rules,
)

pub put_fields_spec : {M : Type 1} → statement M
put_fields_spec =
    let answers = tie.spec
    (λ c. search rules)
    (λ c. search rules)
    (λ c. search rules)
    (λ c. search rules)
    (λ c. search rules)
    returns in
    tie.close answers
