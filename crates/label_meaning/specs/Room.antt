-- Room for a label and for a Request: which Mapping or Request finds no free word, and where every other Mapping writes its label.
use Rattle.std.specs.Prelude.{Option, Some, None, ℕ, ◌+◌, ◌*◌, ◌<◌, Bool, true, false, List, ◌≢◌, ◌≡◌, length, get_or, set}
use Rattle.label_list.specs.declared.LabelMessage.TheVariants.{Mapping}
use Rattle.label_list.specs.declared.Side.{Side}
use Rattle.label_list.specs.declared.Side.TheVariants.{Given, Used}
use Rattle.label_list.specs.Word.{label_count, is_request, listable, word_of, stands_for}
use Rattle.label_events.specs.declared.Acceptance.{Acceptance}
use Rattle.label_events.specs.declared.Meets.{Meets}
use Rattle.label_events.specs.declared.Reception.{Reception}
use Rattle.label_events.specs.Accept.{acceptance_of, accepted_of}
use Rattle.label_events.specs.Change.{code_at}
use Rattle.label_events.specs.Reach.{Label}
use Rattle.label_events.specs.Receive.{received_of}
use Rattle.label_events.specs.Requests.{asked_change, where_free, ended_at, room_at}
use Rattle.label_meaning.specs.Event.{LabelEvent, Accepted, Acked, Received, Asked, Ended, Broken}
use Rattle.label_meaning.specs.Requests.{ends_at}

-- a label that may be listed and that the side lacks
pub record NeedsWord (words : List ℕ) (side : Side) (label : ℕ) : Type 0 where
  pub may : listable label ≡ true
  pub lacking : code_at words side label ≡ 0

abbrev pub NoneFree : List ℕ → Type 0
NoneFree words = (i : ℕ) → i < length words → get_or words i 0 ≢ 0

-- no Request is open at that place
abbrev pub NoneOpen : List ℕ → Option ℕ → Type 0
NoneOpen words (Some i) = is_request (get_or words i 0) ≡ false
NoneOpen words None = Unit {0}

-- a received Mapping of a label that may be listed and that we lack, or 02: "that would change a listed label's entry"
pub data NeedsRoom (words : List ℕ) (x : Meets) (k : ℕ) : Type 0 where
  lacks : NeedsWord words Used k → NeedsRoom words x k
  leaves : code_at words Used k ≢ 0 → x.another ≡ true → NeedsRoom words x k

-- the spare place is not one of a free word
abbrev pub NoneSpare : List ℕ → Meets → Type 0
NoneSpare words x = where_free x.spare words ≡ None

-- 01's 13, "Mapping that needs a word, none free", 02's "13 also for a Request", and 21, "Mapping received that needs a word, none free":
-- one that ends no Request
pub data LacksRoom (words : List ℕ) : LabelEvent → Type 0 where
  sent : {k : ℕ} → NeedsWord words Given k → NoneFree words → LacksRoom words (Accepted Mapping k)
  asked : NoneFree words → LacksRoom words Asked
  received : {p : Bool} {k : ℕ} {r : Meets} → NeedsRoom words r k → NoneSpare words r → NoneOpen words r.request
      → LacksRoom words (Received r Mapping p (Label k))

-- the event is answered 13 or 21; an ACK, the end of a Request and the end of a connection have no such answer
abbrev pub NoRoomAnswered : List ℕ → LabelEvent → Type 0
NoRoomAnswered words (Accepted message label) = (accepted_of words message label).0 ≡ Acceptance.NoRoom
NoRoomAnswered words (Acked message label) = ⊥
NoRoomAnswered words (Received x message protected reach) = (received_of words x message protected reach).0 ≡ Reception.NoRoom
NoRoomAnswered words Asked = acceptance_of (asked_change words) ≡ Acceptance.NoRoom
NoRoomAnswered words (Ended request) = ⊥
NoRoomAnswered words Broken = ⊥

-- "the first free word is taken", by that label under that code; "label + 1,048,576 x code"
pub record FirstTaken (before after : List ℕ) (label code : ℕ) : Type 0 where
  pub at : ℕ
  pub inside : at < length before
  pub free : get_or before at 0 ≡ 0
  pub first : (j : ℕ) → j < at → get_or before j 0 ≢ 0
  pub taken : after ≡ set before at (label + label_count * code)

-- the spare word is taken
pub record SpareTaken (x : Meets) (before after : List ℕ) (label code : ℕ) : Type 0 where
  pub at : ℕ
  pub spare : x.spare ≡ Some at
  pub inside : at < length before
  pub free : get_or before at 0 ≡ 0
  pub taken : after ≡ set before at (label + label_count * code)

-- the label leaves its word, which is free then, and stands in the room for it under that code
pub record MovedWord (before : List ℕ) (x : Meets) (after : List ℕ) (label code : ℕ) : Type 0 where
  pub from : ℕ
  pub at : ℕ
  pub was : stands_for Used label (get_or before from 0) ≡ true
  pub room : room_at x.request x.spare before ≡ Some at
  pub moved : after ≡ set (set (ended_at x.request before) from 0) at (word_of label code)

-- where an event writes a label that was absent: a message of ours in the first free word, one of the peer's in the spare one
abbrev pub WordTaken : List ℕ → LabelEvent → List ℕ → ℕ → ℕ → Type 0
WordTaken before (Accepted message label) after k d = FirstTaken before after k d
WordTaken before (Acked message label) after k d = ⊥
WordTaken before (Received x message protected reach) after k d = SpareTaken x before after k d
WordTaken before Asked after k d = FirstTaken before after k d
WordTaken before (Ended request) after k d = ⊥
WordTaken before Broken after k d = ⊥

-- the event ends no Request
abbrev pub EndsNone : List ℕ → LabelEvent → Type 0
EndsNone words e = NoneOpen words (ends_at e)
