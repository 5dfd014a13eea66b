-- Where the agreed timeout of a state comes from, over all calls. 02: "A stored agreed timeout changes by this only at the next Init."
use Rattle.std.specs.Prelude.{Some, ℕ, Bool, List, ◌≡◌}
use Rattle.ft_number.specs.declared.Timeout.{Timeout}
use Rattle.ft_number.specs.Timeout.{lesser_of, millis_of}
use Rattle.message.specs.declared.Message.{Message}
use Rattle.message.specs.Reading.{reading_of}
use Rattle.protocol.specs.declared.Answer.{Answer}
use Rattle.protocol.specs.declared.Phase.{Phase}
use Rattle.protocol.specs.Calls.{Call, greets}
use Rattle.protocol.specs.Phases.{proposal_of}
use Rattle.protocol.specs.State.{State, released_state}
use Rattle.protocol.specs.Step.{Step}

-- an Init m that was taken in the phase ph: the timeout is the lesser of our proposal, which the phase bears, and the peer's
pub record TakenInit (ph : Phase) (m : List ℕ) (x : Step) : Type 0 where
  pub answer : x.answer ≡ Answer.Done
  pub message : Message
  pub reconnect : Bool
  pub peers : Timeout
  pub read : reading_of m ≡ Some message
  pub session : message.session ≡ Some (record { reconnect = reconnect; timeout = peers })
  pub timeout : x.state.terms.timeout ≡ lesser_of (proposal_of ph) (millis_of peers)

-- of a call that leaves x of the state s: the timeout stays, the state is released and has none, or the call takes an Init
pub data TimeoutFrom (s : State) (ph : Phase) : Call → Step → Type 0 where
  stays : {c : Call} {x : Step} → x.state.terms.timeout ≡ s.terms.timeout → TimeoutFrom s ph c x
  released : {c : Call} {x : Step} → x.state ≡ released_state → TimeoutFrom s ph c x
  agreed : {m : List ℕ} {x : Step} → TakenInit ph m x → TimeoutFrom s ph (greets m) x
