-- An aid of code: the entry is read of a Mapping alone, the label and the entry get one answer, and the word that a
-- Mapping takes is told by what stood there. No call's meaning rests on it.
use Rattle.std.specs.Prelude.{Option, Some, None, ℕ, List, get_or}
use Rattle.octets.specs.Pick.{pick}
use Rattle.label_list.specs.Word.{is_free}
use Rattle.label_events.specs.declared.Acceptance.{Acceptance}
use Rattle.label_events.specs.declared.Change.{Change}
use Rattle.message.specs.declared.Kind.{Kind}
use Rattle.protocol.specs.Accepting.{accepted_as, changes_entry}
use Rattle.protocol.specs.State.{Table}
use Rattle.calls.specs.Storing.{Further, same, entry_put}
use Rattle.submit.specs.Change.{accepted_change, id_put}

-- of no other kind is the entry asked
abbrev pub entry_for : Kind → ℕ → ℕ
entry_for Kind.Mapping entry = entry
entry_for Kind.Withdraw entry = 0
entry_for Kind.Release entry = 0
entry_for Kind.Address entry = 0
entry_for Kind.AddressWithdraw entry = 0
entry_for Kind.ResourcesAvailable entry = 0
entry_for (Kind.Request id) entry = 0
entry_for (Kind.Abort id) entry = 0
entry_for Kind.NoResources entry = 0
entry_for Kind.NoKind entry = 0

-- another entry is one more reason for 6, and changes no word
unfoldable pub accepted_for : Table → Kind → ℕ → ℕ → Acceptance
accepted_for t kind label entry = pick (changes_entry t kind label entry) Acceptance.NotAllowed (accepted_as t kind label).0

unfoldable pub change_for : Table → Kind → ℕ → ℕ → Change
change_for t kind label entry = pick (changes_entry t kind label entry) Change.Keep (accepted_change t kind label)

-- the place of the word that a change takes: one that was free, or the one to which a label moves
abbrev pub change_takes : List ℕ → Change → Option ℕ
change_takes words Change.Keep = None
change_takes words (Change.Put place word) = pick (is_free (get_or words place 0)) (Some place) None
change_takes words (Change.Move from place word) = Some place
change_takes words Change.NoRoom = None

-- what becomes of the further blocks, by the change and the words before it
unfoldable pub further_by : List ℕ → Kind → Change → ℕ → Further
further_by words Kind.Mapping change entry = entry_put (change_takes words change) entry
further_by words Kind.Withdraw change entry = same
further_by words Kind.Release change entry = same
further_by words Kind.Address change entry = same
further_by words Kind.AddressWithdraw change entry = same
further_by words Kind.ResourcesAvailable change entry = same
further_by words (Kind.Request id) change entry = id_put change id
further_by words (Kind.Abort id) change entry = same
further_by words Kind.NoResources change entry = same
further_by words Kind.NoKind change entry = same

-- a message of ours moves no label: that is for a received Mapping alone
abbrev pub MovesNone : Change → Type 0
MovesNone Change.Keep = Unit {0}
MovesNone (Change.Put place word) = Unit {0}
MovesNone (Change.Move from place word) = ⊥
MovesNone Change.NoRoom = Unit {0}
