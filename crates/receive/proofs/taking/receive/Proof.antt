use mathlib.Core.Bool.{not}
use mathlib.Core.Path.{ap}
use borrow.Author.Rules.{rules}
use Rattle.octets.proofs.Choice.{denied, granted}
use Rattle.protocol.specs.Cases.{may_receive}
use Rattle.calls.proofs.Settled.{admit_passed, admitted-sound}
use Rattle.receive.proofs.Taken.{receive_refused, receive_barred, receive_judges}
use Rattle.receive.proofs.taking.receive.Statement.{statement}
use Rattle.receive.proofs.taking.receive.Tie as tie

pub receive_spec : {M : Type 1} → statement M
receive_spec =
    let answers = tie.spec
    (λ c κs. search rules)
    (λ c κs. search rules)
    (λ c κs. search rules)
    (λ c. search rules)
    (λ c. receive_refused _ _ _ c.admit-a.ensures (denied c.is_done.ensures (ap not c.if-not-is_done.true)) c.refuse.ensures)
    (λ c. search rules)
    (λ c κs. search rules)
    (λ c. search rules)
    (λ c κs. search rules)
    (λ c. search rules)
    (λ c κs. admitted-sound (admit_passed _ _ c.admit-a.ensures (granted c.is_done.ensures (ap not c.if-not-is_done.false))))
    (λ c. search rules)
    (λ c κs. admitted-sound (admit_passed _ _ c.admit-a.ensures (granted c.is_done.ensures (ap not c.if-not-is_done.false))))
    (λ c. search rules)
    (λ c κs. search rules)
    (λ c. search rules)
    (λ c. receive_barred _ _ _ c.admit-a.ensures (granted c.is_done.ensures (ap not c.if-not-is_done.false)) (ap may_receive c.in-Idle.is) c.refuse-in-Idle.ensures)
    (λ c. search rules)
    (λ c. receive_barred _ _ _ c.admit-a.ensures (granted c.is_done.ensures (ap not c.if-not-is_done.false)) (ap may_receive c.in-InitWait.is) c.refuse-in-InitWait.ensures)
    (λ c. search rules)
    (λ c. receive_judges _ _ _ c.admit-a.ensures (granted c.is_done.ensures (ap not c.if-not-is_done.false)) _ c.in-UpFT.is c.receive_up.ensures)
    (λ c. search rules)
    (λ c. receive_judges _ _ _ c.admit-a.ensures (granted c.is_done.ensures (ap not c.if-not-is_done.false)) _ c.in-UpPlain.is c.receive_plain.ensures)
    (λ c. search rules)
    (λ c. receive_barred _ _ _ c.admit-a.ensures (granted c.is_done.ensures (ap not c.if-not-is_done.false)) (ap may_receive c.in-Failed.is) c.refuse-in-Failed.ensures) in
    tie.close answers
