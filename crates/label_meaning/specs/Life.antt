-- The life of a label: by which events its code can change, and which of them free it.
use Rattle.std.specs.Prelude.{ℕ, Bool, List, ◌⊎◌, ◌≡◌}
use Rattle.label_list.specs.declared.LabelMessage.{LabelMessage}
use Rattle.label_list.specs.declared.LabelMessage.TheVariants.{Mapping, Withdraw, Release}
use Rattle.label_list.specs.declared.Side.{Side}
use Rattle.label_list.specs.declared.Side.TheVariants.{Given, Used}
use Rattle.label_events.specs.declared.Meets.{Meets}
use Rattle.label_events.specs.declared.Reception.{Reception}
use Rattle.label_events.specs.Change.{code_at}
use Rattle.label_events.specs.Reach.{Reach}
use Rattle.label_events.specs.Receive.{received_of}
use Rattle.label_meaning.specs.Event.{LabelEvent, Accepted, Acked, Received, Asked, Ended, Broken, after_event, Touches, Moves}

-- the event leaves the label's code on that side, or moves it as 01 and 02 say
abbrev pub Moved : List ℕ → LabelEvent → Side → ℕ → Type 0
Moved words e side label =
    (code_at (after_event words e) side label ≡ code_at words side label) ⊎ Moves e side label (code_at words side label) (code_at (after_event words e) side label)

-- the events that free a label of any code but 6, and from which code; 02: "Free a withdrawn label at the second of Release and ACK.", "A Release at code 1 still frees it."
pub data Frees : LabelEvent → Side → ℕ → ℕ → Type 0 where
  release_of_given : {p : Bool} {t : Reach} {k : ℕ} {r : Meets} → Touches t k → Frees (Received r Release p t) Given k 1
  release-after_ack : {p : Bool} {t : Reach} {k : ℕ} {r : Meets} → Touches t k → Frees (Received r Release p t) Given k 8
  ack_after-release : {k : ℕ} → Frees (Acked Withdraw k) Given k 9
  our_release : {k : ℕ} → Frees (Accepted Release k) Used k 4
  ack_of_release : {k : ℕ} → Frees (Acked Release k) Used k 5

-- 21 is not the answer: a received Mapping that has to move its label finds no word; nothing is asked of any other event
abbrev pub RoomFor : List ℕ → Meets → LabelMessage → Bool → Reach → Type 0
RoomFor words x Mapping p t = (received_of words x Mapping p t).0 ≡ Reception.Taken
RoomFor words x Withdraw p t = Unit {0}
RoomFor words x Release p t = Unit {0}

abbrev pub HasRoom : List ℕ → LabelEvent → Type 0
HasRoom words (Accepted m l) = Unit {0}
HasRoom words (Acked m l) = Unit {0}
HasRoom words (Received x m p t) = RoomFor words x m p t
HasRoom words Asked = Unit {0}
HasRoom words (Ended request) = Unit {0}
HasRoom words Broken = Unit {0}
