-- A call that hears nothing of the peer's changes nothing where it is not done. Assumes nothing.
use Prim.Native.Nat.{ℕ}
use mathlib.Core.Bool.{false, true≢false}
use mathlib.Core.Path.{◌≡◌}
use Rattle.octets.proofs.Choice.{by_test}
use Rattle.protocol.specs.declared.Answer.{Answer}
use Rattle.protocol.specs.declared.Phase.{Phase}
use Rattle.protocol.specs.Answers.{is_done}
use Rattle.protocol.specs.Calls.{Call, formats, restores, fails, opens, greets, passes, submits, sends, keeps-alive, receives, step}
use Rattle.protocol.specs.Hearing.{hears}
use Rattle.protocol.specs.Judged.{judged, done}
use Rattle.protocol.specs.KeepAlive.{alive_bytes}
use Rattle.protocol.specs.Open.{open_bytes}
use Rattle.protocol.specs.Phases.{is_up, may_open, waiting, connected}
use Rattle.protocol.specs.Send.{send_bytes, place_sent}
use Rattle.protocol.specs.State.{State}
use Rattle.protocol.specs.Step.{Step, unchanged}
use Rattle.protocol.proofs.Effects.{done_is}
use Rattle.protocol.proofs.Refusals.{room_harmless, may_harmless, send_harmless}
use Rattle.protocol.proofs.Settles.{settles, step-does}
use Rattle.protocol.proofs.Settling.{Harmless, done_harmless, admitted_harmless, settle-refusal}
use Rattle.protocol.proofs.Submits.{submit_harmless}

pub harmless : (c : Call) (s : State) (ph : Phase) (room : ℕ) → hears c ≡ false → Harmless (judged c s ph room)
unfolding judged
harmless formats s ph room q = done_harmless
harmless restores s ph room q = done_harmless
harmless fails s ph room q = admitted_harmless s ph _ (may_harmless (connected ph) _ done_harmless)
harmless (opens id own proposal) s ph room q = admitted_harmless s ph _ (may_harmless (may_open ph) _ (room_harmless (open_bytes s id own proposal) room))
harmless (greets m) s ph room q = absurd (true≢false q)
harmless (passes elapsed) s ph room q = admitted_harmless s ph _ (may_harmless (waiting ph) _ done_harmless)
harmless (submits m) s ph room q = admitted_harmless s ph _ (submit_harmless s ph m)
harmless (sends ask) s ph room q = admitted_harmless s ph _ (send_harmless s ph (send_bytes s (place_sent s ph) ask) room)
harmless (keeps-alive id) s ph room q = admitted_harmless s ph _ (may_harmless (is_up ph) _ (room_harmless (alive_bytes s ph id) room))
harmless (receives m) s ph room q = absurd (true≢false q)

-- so what holds of the state as it was and of what is done holds of what the call leaves
pub unheard : (c : Call) (s : State) (ph : Phase) (room : ℕ) → hears c ≡ false → (P : Step → Type 0)
    → P (unchanged (judged c s ph room) s ph) → (judged c s ph room ≡ Answer.Done → P (done c s ph)) → P (step c s ph room)
unheard c s ph room q P still does =
    let a : Answer = judged c s ph room in
    by_test (is_done a)
    (λ t. rw (step-does c s ph room (done_is a t)) (does (done_is a t)))
    (λ n. rw (settles c s ph room, settle-refusal a s ph (done c s ph) (harmless c s ph room q n)) still)
