-- `connect::writing::open_session` meets its contract. Assumes nothing.
use mathlib.Core.Bool.{not}
use mathlib.Core.Path.{ap}
use borrow.Author.Rules.{rules}
use Rattle.octets.proofs.Choice.{denied, granted}
use Rattle.calls.proofs.Settled.{admit_passed, admitted-sound}
use Rattle.connect.proofs.Written.{open_refused, open_barred, open_wrote}
use Rattle.connect.proofs.writing.open_session.Statement.{statement}
use Rattle.connect.proofs.writing.open_session.Tie as tie

pub open_session_spec : {M : Type 1} → statement M
open_session_spec =
    let answers = tie.spec
    (λ c κs. search rules)
    (λ c κs. search rules)
    (λ c κs. search rules)
    (λ c. open_refused _ _ _ _ _ _ c.admit-a.ensures (denied c.is_done.ensures (ap not c.if-not-is_done.true)) c.refuse.ensures)
    (λ c κs. search rules)
    (λ c κs. search rules)
    (λ c. open_barred _ _ _ _ _ _ c.admit-a.ensures (granted c.is_done.ensures (ap not c.if-not-is_done.false)) (denied c.opens_in.ensures (ap not c.if-not-opens_in.true)) c.refuse-then-not-opens_in.ensures)
    (λ c κs. search rules)
    (λ c κs. search rules)
    (λ c κs. (admitted-sound (admit_passed _ _ c.admit-a.ensures (granted c.is_done.ensures (ap not c.if-not-is_done.false)))).size)
    (λ c κs. search rules)
    (λ c κs. search rules)
    (λ c κs. search rules)
    (λ c. search rules)
    (λ c. open_wrote _ _ _ _ _ _ c.admit-a.ensures (λ k. (c.shared_slice_known-1.given k).fits) (granted c.is_done.ensures (ap not c.if-not-is_done.false)) (granted c.opens_in.ensures (ap not c.if-not-opens_in.false)) c.proposed_timeout-timeout.ensures c.milliseconds-millis.ensures c.header_of.ensures c.kept_ack-ack.ensures c.write_init-written.ensures c.answer_written.ensures) in
    tie.close answers
