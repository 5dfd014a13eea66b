-- 01, "Strength of the promises": "Show these fail: a keeper that always refuses ..; one constant answer ..; one that queues and never stores ..;
-- one that re-issues everything at the first send and later only nods ..; one that invents held or released counts".
use Rattle.std.specs.Prelude.{Some, ℕ, ◌+◌, ◌-◌, ◌≤◌, Bool, false, List, [], ◌≢◌, ◌⊎◌, ◌≡◌}
use Rattle.octets.specs.Bytes.{Bytes}
use Rattle.message.specs.declared.Message.{Message}
use Rattle.message.specs.Reading.{reading_of}
use Rattle.protocol.specs.declared.Answer.{Answer}
use Rattle.protocol.specs.declared.Phase.{Phase}
use Rattle.protocol.specs.declared.Progress.{Progress}
use Rattle.protocol.specs.Acked.{ack_borne}
use Rattle.protocol.specs.Answers.{is_done}
use Rattle.protocol.specs.Calls.{Call, submits, sends, receives}
use Rattle.protocol.specs.Phases.{up_with}
use Rattle.protocol.specs.Receive.{ack_count, ack_on}
use Rattle.protocol.specs.State.{State, held}
use Rattle.calls.specs.Outcomes.{After}
use Rattle.calls.specs.State.{state_of}
use Rattle.call_meaning.specs.Standing.{Standing}
use Rattle.session.specs.Call.{leaves}

-- a keeper is anything that takes the calls; it meets the promises where it leaves what they say, for every input
abbrev pub Keeper : Type 0
Keeper = Call → List ℕ → Phase → List ℕ → After

abbrev pub Meets : Keeper → Type 0
Meets keeper = (c : Call) (im : List ℕ) (ph : Phase) (out : List ℕ) → keeper c im ph out ≡ leaves c im ph out

-- a message queued by a call that left another count than one more held
pub record InventsHeld (keeper : Keeper) : Type 0 where
  pub image : List ℕ
  pub phase : Phase
  pub message : List ℕ
  pub standing : Standing image phase
  pub bytes : Bytes message
  pub done : (keeper (submits message) image phase []).outcome.answer ≡ Answer.Done
  pub invented : held (state_of (keeper (submits message) image phase []).image) ≢ held (state_of image) + 1

-- a message that the keeper takes in UpFT
pub record Taking (keeper : Keeper) : Type 0 where
  pub image : List ℕ
  pub progress : Progress
  pub message : List ℕ
  pub read : Message
  pub standing : Standing image (Phase.UpFT progress)
  pub bytes : Bytes message
  pub whole : reading_of message ≡ Some read
  pub done : (keeper (receives message) image (Phase.UpFT progress) []).outcome.answer ≡ Answer.Done

-- the state before it, and the state that the keeper leaves
abbrev pub state_before : {keeper : Keeper} → Taking keeper → State
state_before w = state_of w.image

abbrev pub state_left : {keeper : Keeper} → Taking keeper → State
state_left {keeper} w = state_of (keeper (receives w.message) w.image (Phase.UpFT w.progress) []).image

-- it left another count than those held less those that its ACK releases
pub record InventsCount (keeper : Keeper) : Type 0 where
  pub taking : Taking keeper
  pub invented : held (state_left taking) ≢ held (state_before taking) - ack_count (ack_on (state_before taking) taking.read)

-- it left another R than the number that its ACK names
pub record InventsReleased (keeper : Keeper) : Type 0 where
  pub taking : Taking keeper
  pub invented : (state_left taking).released.0 ≢ ack_borne (state_before taking) taking.read.ack

pub data Wrong : Type 0 where
  always_refuses one_answer one_answer_to_messages one_count never_stores only_nods invents_counts : Wrong

unfoldable pub Is : Wrong → Keeper → Type 0
-- every submission is refused
Is always_refuses keeper = (im : List ℕ) (ph : Phase) (m : List ℕ) → is_done (keeper (submits m) im ph []).outcome.answer ≡ false
-- every call has one and the same answer
Is one_answer keeper = (a : Answer) × ((c : Call) (im : List ℕ) (ph : Phase) (out : List ℕ) → (keeper c im ph out).outcome.answer ≡ a)
-- every message received has one and the same answer, whatever it acknowledges
Is one_answer_to_messages keeper = (a : Answer) × ((im : List ℕ) (ph : Phase) (m : List ℕ) → (keeper (receives m) im ph []).outcome.answer ≡ a)
-- every message taken releases one and the same count, whatever it acknowledges
Is one_count keeper = (k : ℕ) × ((w : Taking keeper) → held (state_before w) ≡ held (state_left w) + k)
-- no submission changes the image
Is never_stores keeper = (im : List ℕ) (ph : Phase) (m : List ℕ) → (keeper (submits m) im ph []).image ≡ im
-- on the connections that are resumed, or on the others: once something was sent, nothing more is written
Is only_nods keeper =
    (resumed : Bool) × ((im : List ℕ) (sent : ℕ) (ask : Bool) (out : List ℕ) → 1 ≤ sent → (keeper (sends ask) im (up_with resumed sent) out).outcome.written ≡ 0)
Is invents_counts keeper = InventsHeld keeper ⊎ (InventsCount keeper ⊎ InventsReleased keeper)
