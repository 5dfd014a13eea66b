-- Whatever the call, no more than 64 messages are held after it. Assumes nothing.
use Rattle.std.specs.Prelude.{Result, Ok, Err, Option, Some, None}
use Prim.Native.Nat.{ℕ, ◌≤◌}
use mathlib.Core.Bool.{true, Bool}
use mathlib.Core.List.{List, [], ◌∷◌}
use mathlib.Core.Path.{◌≡◌}
use native.Mathlib.Omega.{arith}
use lib.Dec.{ltb}
use lib.ListN.{length-append, length-drop}
use Rattle.octets.proofs.Choice.{pick_all}
use Rattle.message.specs.declared.Message.{Message}
use Rattle.message.specs.Reading.{reading_of}
use Rattle.protocol.specs.declared.Answer.{Answer}
use Rattle.protocol.specs.declared.Phase.{Phase}
use Rattle.protocol.specs.declared.Start.{Start}
use Rattle.protocol.specs.Acked.{acked, ack_borne}
use Rattle.protocol.specs.Answers.{is_done}
use Rattle.protocol.specs.Calls.{step, Call, opens, fails, formats, greets, keeps-alive, passes, receives, restores, sends, submits}
use Rattle.protocol.specs.ConnectionFailed.{connection_failed}
use Rattle.protocol.specs.Init.{fresh, resumed, start_state, init_received, init_start}
use Rattle.protocol.specs.KeepAlive.{keepalive, alive_bytes}
use Rattle.protocol.specs.Open.{open_session, open_bytes, awaiting}
use Rattle.protocol.specs.Phases.{issued_count, is_up, may_open}
use Rattle.protocol.specs.Receive.{received_state, taken, taken_as, ack_count, ack_on, receive}
use Rattle.protocol.specs.Send.{sent_state, numbered, send_next, place_sent}
use Rattle.protocol.specs.State.{State, held, capacity}
use Rattle.protocol.specs.Step.{Step, settle}
use Rattle.protocol.specs.Submit.{submitted, submit_rule, submit}
use Rattle.protocol.specs.TimePassed.{time_passed, expired}
use Rattle.protocol.specs.Writer.{writer}
use Rattle.protocol.proofs.Effects.{done_is}
use Rattle.protocol.proofs.Leaving.{settle-leaves}
use Rattle.protocol.proofs.Settling.{admitted-done}
use Rattle.protocol.proofs.Submits.{done_accepted}

abbrev Few : State → Type 0
Few s = held s ≤ capacity

-- ---- what Done does
module _ (s : State) (few : Few s) where
  sent_few : (sent : ℕ) → Few (sent_state s sent)
  unfolding sent_state numbered
  sent_few sent = pick_all Few (ltb sent (issued_count s)) few few

  acked_few : (k a : ℕ) → Few (acked s k a)
  unfolding acked
  acked_few k a = omega (arith, length-drop k s.queue)

  begun_few : (st : Result Start Answer) → Few (start_state s st)
  unfolding fresh resumed acked
  begun_few (Err a) = few
  begun_few (Ok Start.Plain) = omega arith
  begun_few (Ok (Start.Fresh t)) = omega arith
  begun_few (Ok (Start.Resumed t k a)) = acked_few k a.0

  taken_few : (ph : Phase) (r : Option Message) → Few (taken_as s ph r).state
  unfolding received_state taken
  taken_few Phase.Idle r = few
  taken_few (Phase.InitWait v) r = few
  taken_few (Phase.UpFT u) None = few
  taken_few (Phase.UpFT u) (Some g) = acked_few (ack_count (ack_on s g)) (ack_borne s g.ack)
  taken_few Phase.UpPlain r = few
  taken_few Phase.Failed r = few

  submitted_few : (ph : Phase) (m : List ℕ) → submit_rule s ph m ≡ Answer.Done → Few (submitted s m)
  unfolding submitted
  submitted_few ph m e = omega (arith, (done_accepted s ph m e).room, length-append s.queue (m ∷ []))

  -- ---- every call
  module _ (ph : Phase) where
    abbrev Left : Step → Type 0
    Left x = Few x.state

    settled_few : (a : Answer) (d : Step) → (is_done a ≡ true → Left d) → Left (settle a s ph d)
    settled_few a d does = settle-leaves Few a s ph d few few (omega arith) does

    writer_few : (may : Bool) (next : Phase) (bytes : List ℕ) (room : ℕ) → Left (writer s ph may next bytes room)
    unfolding writer
    writer_few may next bytes room = settled_few _ _ (λ t. few)

    -- where at most 64 were held, at most 64 are held after any call, whatever the phase
    pub few_held : (c : Call) (room : ℕ) → Left (step c s ph room)
    unfolding step open_session init_received connection_failed time_passed submit send_next keepalive receive
    few_held formats room = omega arith
    few_held restores room = few
    few_held fails room = settled_few _ _ (λ t. few)
    few_held (opens id p q) room = writer_few (may_open ph) (awaiting q) (open_bytes s id p q) room
    few_held (greets m) room = settled_few _ _ (λ t. begun_few (init_start s ph m))
    few_held (passes elapsed) room = settled_few _ _ (λ t. pick_all Left (expired s elapsed) (omega arith) few)
    few_held (submits m) room = settled_few _ _ (λ t. submitted_few ph m (done_is (submit_rule s ph m) (admitted-done s ph (submit_rule s ph m) t)))
    few_held (sends ask) room = settled_few _ _ (λ t. sent_few (place_sent s ph))
    few_held (keeps-alive id) room = writer_few (is_up ph) ph (alive_bytes s ph id) room
    few_held (receives m) room = settled_few _ _ (λ t. taken_few ph (reading_of m))
