-- `connect::writing::kept_ack` meets its contract. Assumes nothing.
use borrow.Author.Tests.{eq-eqb, ne_eqb}
use Rattle.connect.proofs.Written.{kept_set, kept_clear}
use Rattle.connect.proofs.writing.kept_ack.Statement.{statement}
use Rattle.connect.proofs.writing.kept_ack.Tie as tie

pub kept_ack_spec : {M : Type 1} → statement M
kept_ack_spec =
    let answers = tie.spec
    (λ c. kept_set _ (eq-eqb _ 1 c.if-h-eq1.true))
    (λ c. kept_clear _ (ne_eqb _ 1 c.if-h-eq1.false)) in
    tie.close answers
