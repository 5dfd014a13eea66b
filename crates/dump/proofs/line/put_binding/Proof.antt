-- `dump::line::put_binding` meets its contract. Assumes nothing.
use borrow.Author.Rules.{rules}
use Rattle.text.proofs.Pieces.{put_then}
use Rattle.dump.proofs.line.put_binding.Statement.{statement}
use Rattle.dump.proofs.line.put_binding.Tie as tie

pub put_binding_spec : {M : Type 1} → statement M
put_binding_spec =
    let answers = tie.spec
    (λ c. search rules)
    (λ c. search rules)
    (λ c. search rules)
    (λ c. search rules)
    (λ c. (put_then (rw c.value_of-value.ensures.0 at c.put_fec-end.ensures.0) c.put_label.ensures.0, search rules)) in
    tie.close answers
