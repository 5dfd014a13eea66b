-- `dump::line::put_state` meets its contract. Assumes nothing.
use borrow.Author.Rules.{rules}
use Rattle.text.proofs.Pieces.{put_then}
use Rattle.dump.proofs.line.put_state.Statement.{statement}
use Rattle.dump.proofs.line.put_state.Tie as tie

pub put_state_spec : {M : Type 1} → statement M
put_state_spec =
    let answers = tie.spec
    (λ c. search rules)
    (λ c. search rules)
    (λ c. search rules)
    (λ c. search rules)
    (λ c. (put_then c.put_status-end.ensures.0 (rw c.value_of-value.ensures.0 at c.put_parameters.ensures.0), search rules)) in
    tie.close answers
