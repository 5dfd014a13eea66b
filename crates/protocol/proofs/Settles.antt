-- Every call is its tests' answer, settled: so its answer is theirs, and what holds of the four ways to end holds of every call. Assumes nothing.
use Rattle.std.specs.Prelude.{Option, Some, None}
use Prim.Native.Nat.{ℕ}
use mathlib.Core.Path.{◌≡◌, refl, ap, ◌∙◌}
use Rattle.octets.proofs.Choice.{by_test, pick_all}
use Rattle.message.specs.declared.Message.{Message}
use Rattle.message.specs.Reading.{reading_of}
use Rattle.protocol.specs.declared.Answer.{Answer}
use Rattle.protocol.specs.declared.Effect.{Effect}
use Rattle.protocol.specs.declared.Phase.{Phase}
use Rattle.protocol.specs.Answers.{effect_of, is_done}
use Rattle.protocol.specs.Calls.{Call, formats, restores, fails, opens, greets, passes, submits, sends, keeps-alive, receives, step}
use Rattle.protocol.specs.ConnectionFailed.{connection_failed}
use Rattle.protocol.specs.Init.{init_received}
use Rattle.protocol.specs.Judged.{judged, done}
use Rattle.protocol.specs.KeepAlive.{keepalive}
use Rattle.protocol.specs.Open.{open_session}
use Rattle.protocol.specs.Receive.{taken_as, receive}
use Rattle.protocol.specs.Send.{send_next}
use Rattle.protocol.specs.State.{State}
use Rattle.protocol.specs.Step.{Step, unchanged, failed_with, released_with, settled_by, settle}
use Rattle.protocol.specs.Submit.{submit}
use Rattle.protocol.specs.TimePassed.{expired, time_passed}
use Rattle.protocol.specs.Writer.{writer}
use Rattle.protocol.proofs.Effects.{act-done, done_is}
use Rattle.protocol.proofs.Settling.{settle_answer}

-- every call is the answer of its tests, settled
pub settles : (c : Call) (s : State) (ph : Phase) (room : ℕ) → step c s ph room ≡ settle (judged c s ph room) s ph (done c s ph)
unfolding step judged done settle effect_of writer open_session init_received connection_failed time_passed submit send_next keepalive receive
settles formats s ph room = refl
settles restores s ph room = refl
settles fails s ph room = refl
settles (opens id own proposal) s ph room = refl
settles (greets m) s ph room = refl
settles (passes elapsed) s ph room = refl
settles (submits m) s ph room = refl
settles (sends ask) s ph room = refl
settles (keeps-alive id) s ph room = refl
settles (receives m) s ph room = refl

-- ---- what is done is answered Done
pub taken-done : (s : State) (ph : Phase) (r : Option Message) → (taken_as s ph r).answer ≡ Answer.Done
taken-done s Phase.Idle r = refl
taken-done s (Phase.InitWait v) r = refl
taken-done s (Phase.UpFT u) None = refl
taken-done s (Phase.UpFT u) (Some g) = refl
taken-done s Phase.UpPlain r = refl
taken-done s Phase.Failed r = refl

pub done_answer : (c : Call) (s : State) (ph : Phase) → (done c s ph).answer ≡ Answer.Done
unfolding done
done_answer formats s ph = refl
done_answer restores s ph = refl
done_answer fails s ph = refl
done_answer (opens id own proposal) s ph = refl
done_answer (greets m) s ph = refl
done_answer (passes elapsed) s ph = pick_all (λ (x : Step). x.answer ≡ Answer.Done) (expired s elapsed) refl refl
done_answer (submits m) s ph = refl
done_answer (sends ask) s ph = refl
done_answer (keeps-alive id) s ph = refl
done_answer (receives m) s ph = taken-done s ph (reading_of m)

module _ (c : Call) (s : State) (ph : Phase) (room : ℕ) where
  -- so the answer of a call is that of its tests
  pub step_answer : (step c s ph room).answer ≡ judged c s ph room
  step_answer = ap (λ (x : Step). x.answer) (settles c s ph room) ∙ settle_answer (judged c s ph room) s ph (done c s ph) (done_answer c s ph)

  by_effect : (f : Effect) → effect_of (judged c s ph room) ≡ f → step c s ph room ≡ settled_by f (judged c s ph room) s ph (done c s ph)
  unfolding settle
  by_effect f e = settles c s ph room ∙ rw e

  acts : effect_of (judged c s ph room) ≡ Effect.Act → judged c s ph room ≡ Answer.Done
  acts e = by_test (is_done (judged c s ph room)) (λ t. done_is (judged c s ph room) t) (λ n. absurd (act-done (judged c s ph room) e n))

  -- ---- the four ways to end, by what the answer does
  pub ends : (P : Step → Type 0)
      → (effect_of (judged c s ph room) ≡ Effect.Nothing → P (unchanged (judged c s ph room) s ph))
      → (effect_of (judged c s ph room) ≡ Effect.Fail → P (failed_with (judged c s ph room) s))
      → (effect_of (judged c s ph room) ≡ Effect.Release → P (released_with (judged c s ph room)))
      → (judged c s ph room ≡ Answer.Done → P (done c s ph))
      → P (step c s ph room)
  ends P nothing breaks releases does = by (effect_of (judged c s ph room)) refl
    where
      by : (f : Effect) → effect_of (judged c s ph room) ≡ f → P (step c s ph room)
      by Effect.Nothing e = rw (by_effect Effect.Nothing e) (nothing e)
      by Effect.Fail e = rw (by_effect Effect.Fail e) (breaks e)
      by Effect.Release e = rw (by_effect Effect.Release e) (releases e)
      by Effect.Act e = rw (by_effect Effect.Act e) (does (acts e))

  -- a call that its tests pass does what it does
  pub step-does : judged c s ph room ≡ Answer.Done → step c s ph room ≡ done c s ph
  unfolding effect_of settle
  step-does e = settles c s ph room ∙ rw e
