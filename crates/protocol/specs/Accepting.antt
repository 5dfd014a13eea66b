-- What Submit asks of a label or a Request, and what it makes of the label words, the IDs and the index.
use Rattle.std.specs.Prelude.{ℕ, Bool, true, false, not, List, eqb}
use Rattle.octets.specs.Pick.{both}
use Rattle.label_list.specs.declared.LabelMessage.{LabelMessage}
use Rattle.label_list.specs.declared.Side.{Side}
use Rattle.label_list.specs.Beside.{entry_on}
use Rattle.label_list.specs.Find.{find_of, is_found}
use Rattle.label_list.specs.Word.{stands_for}
use Rattle.label_events.specs.declared.Acceptance.{Acceptance}
use Rattle.label_events.specs.Accept.{accepted_by, accepted_of, plan_change, plan_of}
use Rattle.label_events.specs.Change.{taken_at, put_at}
use Rattle.label_events.specs.Requests.{asked_plan, aborted_plan, ids_put}
use Rattle.message.specs.declared.Kind.{Kind}
use Rattle.message.specs.Kinds.{kind_number}
use Rattle.protocol.specs.Held.{is_held}
use Rattle.protocol.specs.State.{Table}

-- "6: .. or same label's Withdraw/Release of that kind still held"; nothing held bars a Mapping, nor what names no label
unfoldable pub is_barred : List (List ℕ) → Kind → ℕ → Bool
is_barred queue Kind.Mapping label = false
is_barred queue Kind.Withdraw label = is_held (kind_number Kind.Withdraw) label queue
is_barred queue Kind.Release label = is_held (kind_number Kind.Release) label queue
is_barred queue Kind.Address label = false
is_barred queue Kind.AddressWithdraw label = false
is_barred queue Kind.ResourcesAvailable label = false
is_barred queue (Kind.Request id) label = false
is_barred queue (Kind.Abort id) label = false
is_barred queue Kind.NoResources label = false
is_barred queue Kind.NoKind label = false

-- 02: "A .. Mapping that would change a listed label's entry": "6 for submitting such a Mapping". The label is given, and its entry is
-- another than that of the message's FEC
abbrev pub changes_entry : Table → Kind → ℕ → ℕ → Bool
changes_entry t Kind.Mapping label entry =
    both (is_found (find_of (stands_for Side.Given label) t.words)) (not (eqb (entry_on t.words t.index Side.Given label) entry))
changes_entry t Kind.Withdraw label entry = false
changes_entry t Kind.Release label entry = false
changes_entry t Kind.Address label entry = false
changes_entry t Kind.AddressWithdraw label entry = false
changes_entry t Kind.ResourcesAvailable label entry = false
changes_entry t (Kind.Request id) label entry = false
changes_entry t (Kind.Abort id) label entry = false
changes_entry t Kind.NoResources label entry = false
changes_entry t Kind.NoKind label entry = false

-- "Accepted for sending": kinds 1 to 3 by the label's code, kinds 4 to 6 and 9 without a label, kinds 7 and 8 by the open Requests; the words then.
-- A message of no kind does not come here
unfoldable pub accepted_as : Table → Kind → ℕ → Acceptance × List ℕ
accepted_as t Kind.Mapping label = accepted_of t.words LabelMessage.Mapping label
accepted_as t Kind.Withdraw label = accepted_of t.words LabelMessage.Withdraw label
accepted_as t Kind.Release label = accepted_of t.words LabelMessage.Release label
accepted_as t Kind.Address label = (Acceptance.Taken, t.words)
accepted_as t Kind.AddressWithdraw label = (Acceptance.Taken, t.words)
accepted_as t Kind.ResourcesAvailable label = (Acceptance.Taken, t.words)
accepted_as t (Kind.Request id) label = accepted_by t.words (asked_plan t.words t.ids id)
accepted_as t (Kind.Abort id) label = accepted_by t.words (aborted_plan t.words t.ids id)
accepted_as t Kind.NoResources label = (Acceptance.Taken, t.words)
accepted_as t Kind.NoKind label = (Acceptance.NotAllowed, t.words)

-- the IDs then: a Request puts its own at the place of its word
unfoldable pub ids_accepted : Table → Kind → List ℕ
ids_accepted t Kind.Mapping = t.ids
ids_accepted t Kind.Withdraw = t.ids
ids_accepted t Kind.Release = t.ids
ids_accepted t Kind.Address = t.ids
ids_accepted t Kind.AddressWithdraw = t.ids
ids_accepted t Kind.ResourcesAvailable = t.ids
ids_accepted t (Kind.Request id) = ids_put t.ids (plan_change (asked_plan t.words t.ids id)) id
ids_accepted t (Kind.Abort id) = t.ids
ids_accepted t Kind.NoResources = t.ids
ids_accepted t Kind.NoKind = t.ids

-- 02: the index then: a Mapping that takes a word puts the entry of its FEC at its place
unfoldable pub index_accepted : Table → Kind → ℕ → ℕ → List ℕ
index_accepted t Kind.Mapping label entry =
    put_at (taken_at (find_of (stands_for Side.Given label) t.words) (plan_change (plan_of t.words LabelMessage.Mapping label))) entry t.index
index_accepted t Kind.Withdraw label entry = t.index
index_accepted t Kind.Release label entry = t.index
index_accepted t Kind.Address label entry = t.index
index_accepted t Kind.AddressWithdraw label entry = t.index
index_accepted t Kind.ResourcesAvailable label entry = t.index
index_accepted t (Kind.Request id) label entry = t.index
index_accepted t (Kind.Abort id) label entry = t.index
index_accepted t Kind.NoResources label entry = t.index
index_accepted t Kind.NoKind label entry = t.index

-- it is a Request
abbrev pub asks : Kind → Bool
asks Kind.Mapping = false
asks Kind.Withdraw = false
asks Kind.Release = false
asks Kind.Address = false
asks Kind.AddressWithdraw = false
asks Kind.ResourcesAvailable = false
asks (Kind.Request id) = true
asks (Kind.Abort id) = false
asks Kind.NoResources = false
asks Kind.NoKind = false

-- 02: kind 9 "stops new Requests until" kind 6; every other kind leaves it. Of what we accept, and of what we receive
abbrev pub stop_after : Bool → Kind → Bool
stop_after stop Kind.Mapping = stop
stop_after stop Kind.Withdraw = stop
stop_after stop Kind.Release = stop
stop_after stop Kind.Address = stop
stop_after stop Kind.AddressWithdraw = stop
stop_after stop Kind.ResourcesAvailable = false
stop_after stop (Kind.Request id) = stop
stop_after stop (Kind.Abort id) = stop
stop_after stop Kind.NoResources = true
stop_after stop Kind.NoKind = stop
