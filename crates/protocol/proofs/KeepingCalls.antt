-- Every call keeps the state lawful, and leaves a phase that it allows. Assumes nothing.
use Prim.Native.Nat.{ℕ}
use mathlib.Core.Bool.{true}
use mathlib.Core.List.{List}
use mathlib.Core.Path.{◌≡◌, refl, ◌∙◌}
use Rattle.octets.proofs.Choice.{pick_all}
use Rattle.message.specs.Reading.{reading_of}
use Rattle.protocol.specs.declared.Answer.{Answer}
use Rattle.protocol.specs.declared.Phase.{Phase}
use Rattle.protocol.specs.Calls.{Call, formats, restores, fails, opens, greets, passes, submits, sends, keeps-alive, receives, step}
use Rattle.protocol.specs.Judged.{judged, done}
use Rattle.protocol.specs.Lawful.{Lawful}
use Rattle.protocol.specs.Phases.{phase_fits, resumed_of, issued_count}
use Rattle.protocol.specs.Proper.{Proper}
use Rattle.protocol.specs.Receive.{receive_rule}
use Rattle.protocol.specs.Send.{place_sent, send_room, send_rule}
use Rattle.protocol.specs.State.{State}
use Rattle.protocol.specs.Step.{Step, admitted}
use Rattle.protocol.specs.Submit.{submit_rule, submitted}
use Rattle.protocol.specs.TimePassed.{expired}
use Rattle.protocol.proofs.Effects.{done_is}
use Rattle.protocol.proofs.KeepingInit.{greeted_lawful}
use Rattle.protocol.proofs.KeepingPhases.{LawfulIn, resting_fits}
use Rattle.protocol.proofs.KeepingReceive.{taken_stands}
use Rattle.protocol.proofs.KeepingSend.{kept_up, sent_stands}
use Rattle.protocol.proofs.KeepingStates.{lawful_released, lawful_broken, lawful_submitted}
use Rattle.protocol.proofs.Sends.{Sendable, sendable}
use Rattle.protocol.proofs.Settles.{ends}
use Rattle.protocol.proofs.Settling.{admitted-done}

abbrev Stands : Step → Type 0
Stands x = LawfulIn x.state x.phase

-- the call's own tests said Done
pub own_done : (s : State) (ph : Phase) (a : Answer) → admitted s ph a ≡ Answer.Done → a ≡ Answer.Done
own_done s ph a e = done_is a (admitted-done s ph a (rw e))

-- ---- a message queued rules no phase out
submitted_fits : (ph : Phase) (s : State) (m : List ℕ) → phase_fits ph (submitted s m) ≡ phase_fits ph s
unfolding phase_fits submitted issued_count
submitted_fits Phase.Idle s m = refl
submitted_fits (Phase.InitWait v) s m = refl
submitted_fits (Phase.UpFT u) s m = refl
submitted_fits Phase.UpPlain s m = refl
submitted_fits Phase.Failed s m = refl

-- ---- what a call does where it is done
done_stands : (c : Call) (s : State) (ph : Phase) (room : ℕ) → Proper c ph → LawfulIn s ph → judged c s ph room ≡ Answer.Done → Stands (done c s ph)
unfolding judged done phase_fits
done_stands formats s ph room p st d = (lawful_released, refl)
done_stands restores s ph room p st d = (lawful_broken s st.0, resting_fits s)
done_stands fails s ph room p st d = (lawful_broken s st.0, resting_fits s)
done_stands (opens id own proposal) s ph room p st d = (st.0, refl)
done_stands (greets m) s ph room p st d = greeted_lawful s ph m st.0 st.1 p.0 p.1
done_stands (passes elapsed) s ph room p st d = pick_all Stands (expired s elapsed) (lawful_released, refl) st
done_stands (submits m) s ph room p st d = (lawful_submitted s st.0 ph m p (own_done s ph (submit_rule s ph m) d), submitted_fits ph s m ∙ st.1)
done_stands (sends ask) s ph room p st d =
    let e : send_rule s ph (send_room s ph ask room) ≡ Answer.Done = own_done s ph (send_rule s ph (send_room s ph ask room)) d in
    let x : Sendable s ph = sendable s ph (send_room s ph ask room) (rw e) in
    sent_stands s (resumed_of ph) (place_sent s ph) st.0 (kept_up ph s x.up st.1) x.place
done_stands (keeps-alive id) s ph room p st d = st
done_stands (receives m) s ph room p st d = taken_stands s ph m st p (own_done s ph (receive_rule s ph (reading_of m)) d)

-- ---- every call
pub lawful_step : (c : Call) (s : State) (ph : Phase) (room : ℕ) → Proper c ph → Lawful s → phase_fits ph s ≡ true
    → Lawful (step c s ph room).state × (phase_fits (step c s ph room).phase (step c s ph room).state ≡ true)
unfolding phase_fits
lawful_step c s ph room p law fits =
    ends c s ph room Stands
    (λ e. (law, fits))
    (λ e. (lawful_broken s law, resting_fits s))
    (λ e. (lawful_released, refl))
    (λ e. done_stands c s ph room p (law, fits) e)
