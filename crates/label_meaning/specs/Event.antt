-- The events of the label list, the list after each, and the moves of a label's code that 01 and 02 name.
use Rattle.std.specs.Prelude.{Option, ℕ, Bool, true, false, List, ◌≡◌}
use Rattle.label_list.specs.declared.LabelMessage.{LabelMessage}
use Rattle.label_list.specs.declared.LabelMessage.TheVariants.{Mapping, Withdraw, Release}
use Rattle.label_list.specs.declared.Side.{Side}
use Rattle.label_list.specs.declared.Side.TheVariants.{Given, Used}
use Rattle.label_list.specs.declared.SweepRule.TheVariants.{AfterBreak}
use Rattle.label_list.specs.Sweep.{swept_of}
use Rattle.label_list.specs.Word.{without_protection}
use Rattle.label_events.specs.declared.Meets.{Meets}
use Rattle.label_events.specs.Accept.{accepted_of}
use Rattle.label_events.specs.Ack.{acked_of}
use Rattle.label_events.specs.Change.{changed}
use Rattle.label_events.specs.Reach.{Reach, Label, Those}
use Rattle.label_events.specs.Receive.{received_of}
use Rattle.label_events.specs.Requests.{asked_change, ended_at}

-- a message of ours is accepted for sending or released by an ACK, one of the peer's is received (what it meets beside the words; the
-- Bool: protected), a Request of ours is accepted under an ID that is not open, one is ended at a place (by its Abort, or by a
-- Notification), a connection ends
pub data LabelEvent : Type 0 where
  Accepted : LabelMessage → ℕ → LabelEvent
  Acked : LabelMessage → ℕ → LabelEvent
  Received : Meets → LabelMessage → Bool → Reach → LabelEvent
  Asked : LabelEvent
  Ended : Option ℕ → LabelEvent
  Broken : LabelEvent

unfoldable pub after_event : List ℕ → LabelEvent → List ℕ
after_event words (Accepted message label) = (accepted_of words message label).1
after_event words (Acked message label) = acked_of words message label
after_event words (Received x message protected reach) = (received_of words x message protected reach).1
after_event words Asked = changed words (asked_change words)
after_event words (Ended request) = ended_at request words
after_event words Broken = swept_of words AfterBreak

-- the labels that a received message touches
pub data Touches : Reach → ℕ → Type 0 where
  named : {k : ℕ} → Touches (Label k) k
  among : {reached : ℕ → Bool} {k : ℕ} → reached k ≡ true → Touches (Those reached) k

-- an event moves a label on a side from a code to a code; 0: absent. A Request asked or ended moves none
pub data Moves : LabelEvent → Side → ℕ → ℕ → ℕ → Type 0 where
  -- "Accepted for sending: Mapping, absent or 1, becomes 1; Withdraw, 1 becomes 2; Release, 3 becomes 5, 4 becomes free."
  given : {k : ℕ} → Moves (Accepted Mapping k) Given k 0 1
  withdrawn : {k : ℕ} → Moves (Accepted Withdraw k) Given k 1 2
  released : {k : ℕ} → Moves (Accepted Release k) Used k 3 5
  returned : {k : ℕ} → Moves (Accepted Release k) Used k 4 0
  -- "Released by ACK: .. Release 5 becomes free"; 02: "Free a withdrawn label at the second of Release and ACK": of a Withdraw 2 becomes 8, 9 becomes free
  withdraw-acked : {k : ℕ} → Moves (Acked Withdraw k) Given k 2 8
  back_acked : {k : ℕ} → Moves (Acked Withdraw k) Given k 9 0
  release-acked : {k : ℕ} → Moves (Acked Release k) Used k 5 0
  -- "Received: Mapping protected, absent or 3 or 5 becomes 3 ..; unprotected, absent becomes 6"
  taken : {k : ℕ} {r : Meets} → Moves (Received r Mapping true (Label k)) Used k 0 3
  taken-again : {k : ℕ} {r : Meets} → Moves (Received r Mapping true (Label k)) Used k 5 3
  taken_bare : {k : ℕ} {r : Meets} → Moves (Received r Mapping false (Label k)) Used k 0 without_protection
  -- "Withdraw: 3 becomes 4; .. 6 becomes free"
  asked_back : {p : Bool} {t : Reach} {k : ℕ} {r : Meets} → Touches t k → Moves (Received r Withdraw p t) Used k 3 4
  bare_withdrawn : {p : Bool} {t : Reach} {k : ℕ} {r : Meets} → Touches t k → Moves (Received r Withdraw p t) Used k without_protection 0
  -- 02: "A Release at code 1 still frees it"; 2 becomes 9, 8 becomes free
  given_back : {p : Bool} {t : Reach} {k : ℕ} {r : Meets} → Touches t k → Moves (Received r Release p t) Given k 1 0
  withdrawn_back : {p : Bool} {t : Reach} {k : ℕ} {r : Meets} → Touches t k → Moves (Received r Release p t) Given k 2 9
  acked_back : {p : Bool} {t : Reach} {k : ℕ} {r : Meets} → Touches t k → Moves (Received r Release p t) Given k 8 0
  -- "code 6 words are freed"
  bare_lost : {k : ℕ} → Moves Broken Used k without_protection 0
