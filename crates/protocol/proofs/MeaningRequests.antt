-- The life of a Request over all calls: it is open from its acceptance until its Abort is accepted, an answer is received, or the state is released. Assumes nothing.
use Rattle.std.specs.Prelude.{Result, Ok, Err, Option, Some, None}
use Prim.Native.Nat.{ℕ}
use mathlib.Core.Bool.{false}
use mathlib.Core.List.{List}
use mathlib.Core.Logic.{inl, inr}
use mathlib.Core.Path.{◌≡◌, refl, sym, ap, ◌∙◌}
use lib.Dec.{ltb}
use Rattle.octets.proofs.Choice.{by_test, pick_all}
use Rattle.ft_number.specs.declared.MessageId.{MessageId}
use Rattle.message.specs.declared.Message.{Message}
use Rattle.message.specs.Reading.{reading_of}
use Rattle.protocol.specs.declared.Answer.{Answer}
use Rattle.protocol.specs.declared.Phase.{Phase}
use Rattle.protocol.specs.declared.Start.{Start}
use Rattle.protocol.specs.Calls.{Call, formats, restores, fails, opens, greets, passes, submits, sends, keeps-alive, receives, step}
use Rattle.protocol.specs.Init.{fresh, resumed, init_deed, init_start}
use Rattle.protocol.specs.Judged.{judged, done}
use Rattle.protocol.specs.Lawful.{Lawful}
use Rattle.protocol.specs.MeaningRequests.{is_open, opens_in, forgotten, RequestFrom}
use Rattle.protocol.specs.Phases.{issued_count}
use Rattle.protocol.specs.Receive.{taken_as}
use Rattle.protocol.specs.Send.{sent_state, numbered, place_sent}
use Rattle.protocol.specs.State.{State, no_table, Table}
use Rattle.protocol.specs.Step.{Step, released_with}
use Rattle.protocol.specs.Submit.{submit_rule}
use Rattle.protocol.specs.TimePassed.{expired}
use Rattle.protocol.proofs.KeepingCalls.{own_done}
use Rattle.protocol.proofs.OpenRequests.{none_open, acked_is, broken_is}
use Rattle.protocol.proofs.RequestsReceived.{message_moves}
use Rattle.protocol.proofs.RequestsSubmitted.{submitted_moves}
use Rattle.protocol.proofs.Settles.{ends}

module _ (s : State) (ph : Phase) (law : Lawful s) (id : MessageId) where
  forgets : (c : Call) (x : Step) → x.state.table ≡ no_table → RequestFrom s ph id c x
  forgets c x e =
      let after : is_open x.state id ≡ false = ap (λ (t : Table). opens_in t id) e ∙ none_open id in
      by_test (is_open s id) (λ t. inr (rw (t, after) (forgotten e))) (λ f. inl (after ∙ sym f))

  -- ---- the peer's Init
  greeted_moves : (m : List ℕ) → RequestFrom s ph id (greets m) (init_deed s ph m)
  unfolding fresh resumed
  greeted_moves m = by (init_start s ph m) refl
    where
      by : (st : Result Start Answer) → init_start s ph m ≡ st → RequestFrom s ph id (greets m) (init_deed s ph m)
      by (Err a) e = inl (rw e)
      by (Ok Start.Plain) e = forgets (greets m) (init_deed s ph m) (rw e)
      by (Ok (Start.Fresh t)) e = forgets (greets m) (init_deed s ph m) (rw e)
      by (Ok (Start.Resumed t k a)) e = inl (rw e (acked_is s law id k a.0))

  -- ---- what a call does where it is done
  taken_moves : (m : List ℕ) → RequestFrom s ph id (receives m) (taken_as s ph (reading_of m))
  taken_moves m = by ph refl (reading_of m) refl
    where
      by : (p : Phase) → ph ≡ p → (r : Option Message) → reading_of m ≡ r → RequestFrom s ph id (receives m) (taken_as s p r)
      by Phase.Idle e r q = inl refl
      by (Phase.InitWait v) e r q = inl refl
      by (Phase.UpFT u) e None q = inl refl
      by (Phase.UpFT u) e (Some g) q = message_moves s ph law id m u g q (rw e)
      by Phase.UpPlain e r q = inl refl
      by Phase.Failed e r q = inl refl

  sent_moves : (sent : ℕ) → is_open (sent_state s sent) id ≡ is_open s id
  unfolding sent_state numbered
  sent_moves sent = pick_all (λ (x : State). is_open x id ≡ is_open s id) (ltb sent (issued_count s)) refl refl

  done_moves : (c : Call) (room : ℕ) → judged c s ph room ≡ Answer.Done → RequestFrom s ph id c (done c s ph)
  unfolding judged done
  done_moves formats room d = forgets formats (done formats s ph) refl
  done_moves restores room d = inl (broken_is s law id)
  done_moves fails room d = inl (broken_is s law id)
  done_moves (opens n own proposal) room d = inl refl
  done_moves (greets m) room d = greeted_moves m
  done_moves (passes elapsed) room d = pick_all (RequestFrom s ph id (passes elapsed)) (expired s elapsed) (forgets (passes elapsed) (released_with Answer.Done) refl) (inl refl)
  done_moves (submits m) room d = submitted_moves s ph law id m (own_done s ph (submit_rule s ph m) d)
  done_moves (sends ask) room d = inl (sent_moves (place_sent s ph))
  done_moves (keeps-alive n) room d = inl refl
  done_moves (receives m) room d = taken_moves m

  -- ---- THE THEOREM: of every call, whatever it answers: a Request stays open or closed, or the call asks, aborts, answers or forgets it
  pub step_requests : (c : Call) (room : ℕ) → RequestFrom s ph id c (step c s ph room)
  step_requests c room =
      ends c s ph room (RequestFrom s ph id c) (λ e. inl refl) (λ e. inl (broken_is s law id)) (λ e. forgets c (released_with (judged c s ph room)) refl) (λ e. done_moves c room e)
