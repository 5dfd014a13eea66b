-- A message of the peer's is received: the answer and the list afterwards.
use Rattle.std.specs.Prelude.{Option, None, ℕ, Bool, true, false, not, List}
use Rattle.octets.specs.Pick.{pick}
use Rattle.label_list.specs.declared.LabelMessage.{LabelMessage}
use Rattle.label_list.specs.declared.LabelMessage.TheVariants.{Mapping, Withdraw, Release}
use Rattle.label_list.specs.declared.SweepRule.TheVariants.{WithdrawAll, ReleaseAll}
use Rattle.label_list.specs.Beside.{swept_beside}
use Rattle.label_list.specs.Find.{find_of}
use Rattle.label_list.specs.Rules.{received_side, code_received}
use Rattle.label_list.specs.Sweep.{reached_of}
use Rattle.label_list.specs.Word.{listable, stands_for}
use Rattle.label_events.specs.declared.Change.{Change}
use Rattle.label_events.specs.declared.Meets.{Meets}
use Rattle.label_events.specs.declared.Reception.{Reception}
use Rattle.label_events.specs.declared.Reception.TheVariants.{Taken, NoRoom}
use Rattle.label_events.specs.declared.Touched.{Touched}
use Rattle.label_events.specs.Change.{code_at, placed_at, changed, taken_at}
use Rattle.label_events.specs.Reach.{Reach, Label, Those, Nothing}
use Rattle.label_events.specs.Requests.{ended_at, room_at}

-- 01's answer 21: "Mapping received that needs a word, none free"
abbrev pub reception_number : Reception → ℕ
reception_number Taken = 0
reception_number NoRoom = 21

-- where the label stands that a message names, on the message's own side; one that names none has no place
unfoldable pub received_place : List ℕ → LabelMessage → Touched → Option ℕ
received_place words message (Touched.Label label) = find_of (stands_for (received_side message) label) words
received_place words message Touched.Every = None
received_place words message (Touched.Prefix entry) = None
received_place words message Touched.Nothing = None

-- of the messages only a Mapping brings an entry
abbrev pub moves_by : LabelMessage → Bool → Bool
moves_by Mapping another = another
moves_by Withdraw another = false
moves_by Release another = false

-- 01: "Labels 0 to 15 are never listed, and passed on when received"; so is what is no label of 20 bits. `another`: the message's FEC
-- has another entry than the label
unfoldable pub received_change : List ℕ → Option ℕ → Bool → LabelMessage → Bool → ℕ → Change
received_change words room another message protected label =
    pick (not (listable label)) Change.Keep
    (placed_at (moves_by message another) (find_of (stands_for (received_side message) label) words) room label
    (code_received message protected (code_at words (received_side message) label)))

-- as the message is planned, before the Request that it ends is ended
abbrev pub planned_by : List ℕ → Meets → LabelMessage → Bool → ℕ → Change
planned_by words x message protected label = received_change words (room_at x.request x.spare words) x.another message protected label

-- where a message takes a word for its label
abbrev pub takes_at : List ℕ → Meets → LabelMessage → Bool → Touched → Option ℕ
takes_at words x message protected (Touched.Label label) =
    taken_at (received_place words message (Touched.Label label)) (planned_by words x message protected label)
takes_at words x message protected Touched.Every = None
takes_at words x message protected (Touched.Prefix entry) = None
takes_at words x message protected Touched.Nothing = None

abbrev pub reception_of : Change → Reception
reception_of Change.Keep = Taken
reception_of (Change.Put i w) = Taken
reception_of (Change.Move i j w) = Taken
reception_of Change.NoRoom = NoRoom

-- 01: "Withdraw or Release of the wildcard FEC .. acts on every label"; 02: of a prefix "on exactly the labels of that prefix"; a Mapping names its label
unfoldable pub every_received : LabelMessage → (ℕ → Bool) → List ℕ → List ℕ
every_received Mapping reached words = words
every_received Withdraw reached words = reached_of words reached WithdrawAll
every_received Release reached words = reached_of words reached ReleaseAll

-- "of another FEC it is accepted and changes no label here"; a word that is needed is taken at `room`
unfoldable pub received_with : List ℕ → Option ℕ → Bool → LabelMessage → Bool → Reach → Reception × List ℕ
received_with words room another message protected (Label label) =
    (reception_of (received_change words room another message protected label), changed words (received_change words room another message protected label))
received_with words room another message protected (Those reached) = (Taken, every_received message reached words)
received_with words room another message protected Nothing = (Taken, words)

-- a message that ends a Request: its word is freed first, and is there for the message's label
abbrev pub received_of : List ℕ → Meets → LabelMessage → Bool → Reach → Reception × List ℕ
received_of words x message protected reach = received_with (ended_at x.request words) (room_at x.request x.spare words) x.another message protected reach

-- ---- as the code goes: by the entries beside the words
unfoldable pub every_beside : LabelMessage → ℕ → List ℕ → List ℕ → List ℕ
every_beside Mapping entry words entries = words
every_beside Withdraw entry words entries = swept_beside WithdrawAll entry words entries
every_beside Release entry words entries = swept_beside ReleaseAll entry words entries

unfoldable pub received_beside : List ℕ → List ℕ → Meets → LabelMessage → Bool → Touched → Reception × List ℕ
received_beside words entries x message protected (Touched.Label label) = received_of words x message protected (Label label)
received_beside words entries x message protected Touched.Every = received_of words x message protected (Those (λ k. true))
received_beside words entries x message protected (Touched.Prefix entry) = (Taken, every_beside message entry (ended_at x.request words) entries)
received_beside words entries x message protected Touched.Nothing = received_of words x message protected Nothing
