-- `connect::writing::keepalive` meets its contract. Assumes nothing.
use mathlib.Core.Bool.{not}
use mathlib.Core.Path.{ap}
use borrow.Author.Rules.{rules}
use Rattle.octets.proofs.Choice.{denied, granted}
use Rattle.calls.proofs.Settled.{admit_passed, admitted-sound}
use Rattle.connect.proofs.Written.{alive_refused, alive_barred, alive-wrote}
use Rattle.connect.proofs.writing.keepalive.Statement.{statement}
use Rattle.connect.proofs.writing.keepalive.Tie as tie

pub keepalive_spec : {M : Type 1} → statement M
keepalive_spec =
    let answers = tie.spec
    (λ c κs. search rules)
    (λ c κs. search rules)
    (λ c κs. search rules)
    (λ c. alive_refused _ _ _ _ c.admit-a.ensures (denied c.is_done.ensures (ap not c.if-not-is_done.true)) c.refuse.ensures)
    (λ c κs. search rules)
    (λ c κs. search rules)
    (λ c. alive_barred _ _ _ _ c.admit-a.ensures (granted c.is_done.ensures (ap not c.if-not-is_done.false)) (denied c.is_up.ensures (ap not c.if-not-is_up.true)) c.refuse-then-not-is_up.ensures)
    (λ c κs. (admitted-sound (admit_passed _ _ c.admit-a.ensures (granted c.is_done.ensures (ap not c.if-not-is_done.false)))).size)
    (λ c κs. search rules)
    (λ c κs. search rules)
    (λ c κs. search rules)
    (λ c. search rules)
    (λ c. alive-wrote _ _ _ _ c.admit-a.ensures (λ k. (c.shared_slice_known-1.given k).fits) (granted c.is_done.ensures (ap not c.if-not-is_done.false)) (granted c.is_up.ensures (ap not c.if-not-is_up.false)) c.header_of-h.ensures c.alive_ack-ack.ensures c.write_keepalive-written.ensures c.answer_written.ensures) in
    tie.close answers
