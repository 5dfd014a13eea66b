-- `connect::starting::restore` meets its contract. Assumes nothing.
use mathlib.Core.Bool.{not}
use mathlib.Core.Path.{ap}
use borrow.Author.Rules.{rules}
use Rattle.octets.proofs.Choice.{denied, granted}
use Rattle.call_meaning.proofs.Calling.{checks_passed}
use Rattle.connect.proofs.Started.{restore_refused, restore-passed}
use Rattle.connect.proofs.starting.restore.Statement.{statement}
use Rattle.connect.proofs.starting.restore.Tie as tie

pub restore_spec : {M : Type 1} → statement M
restore_spec =
    let answers = tie.spec
    (λ c κs. search rules)
    (λ c κs. search rules)
    (λ c κs. search rules)
    (λ c. search rules)
    (λ c. restore_refused _ c.check-a.ensures (denied c.is_done.ensures (ap not c.if-not-is_done.true)) c.refuse.ensures)
    (λ c κs. checks_passed _ c.check-a.ensures (granted c.is_done.ensures (ap not c.if-not-is_done.false)))
    (λ c. search rules)
    (λ c. restore-passed _ c.check-a.ensures (granted c.is_done.ensures (ap not c.if-not-is_done.false)) c.fail.ensures) in
    tie.close answers
