-- What accepting a message changes: one label word, so that block 0 gets that one and not all of them anew; of a
-- Request its ID in block 65, of a Mapping that takes a word its entry in block 66 or 67; and block 0's numbers.
use Rattle.std.specs.Prelude.{ℕ, ◌+◌}
use Rattle.ft_number.specs.declared.MessageId.{MessageId}
use Rattle.label_list.specs.declared.LabelMessage.{LabelMessage}
use Rattle.label_list.specs.declared.Side.{Side}
use Rattle.label_list.specs.Find.{find_of}
use Rattle.label_list.specs.Word.{stands_for}
use Rattle.block0.specs.declared.Header.{Header}
use Rattle.label_events.specs.declared.Change.{Change}
use Rattle.label_events.specs.Accept.{plan_change, plan_of}
use Rattle.label_events.specs.Change.{taken_at}
use Rattle.label_events.specs.Requests.{asked_plan, aborted_plan}
use Rattle.message.specs.declared.Kind.{Kind}
use Rattle.protocol.specs.Accepting.{stop_after}
use Rattle.protocol.specs.State.{Table}
use Rattle.calls.specs.State.{marks_of}
use Rattle.calls.specs.Storing.{Further, same, put_id, entry_put, marks_byte}

-- kinds 1 to 3 by the label's code, kinds 7 and 8 by the open Requests; the others change no word
unfoldable pub accepted_change : Table → Kind → ℕ → Change
accepted_change t Kind.Mapping label = plan_change (plan_of t.words LabelMessage.Mapping label)
accepted_change t Kind.Withdraw label = plan_change (plan_of t.words LabelMessage.Withdraw label)
accepted_change t Kind.Release label = plan_change (plan_of t.words LabelMessage.Release label)
accepted_change t Kind.Address label = Change.Keep
accepted_change t Kind.AddressWithdraw label = Change.Keep
accepted_change t Kind.ResourcesAvailable label = Change.Keep
accepted_change t (Kind.Request id) label = plan_change (asked_plan t.words t.ids id)
accepted_change t (Kind.Abort id) label = plan_change (aborted_plan t.words t.ids id)
accepted_change t Kind.NoResources label = Change.Keep
accepted_change t Kind.NoKind label = Change.Keep

-- 02: "its message ID at the same place": that of the word which the change writes
abbrev pub id_put : Change → MessageId → Further
id_put Change.Keep id = same
id_put (Change.Put place word) id = put_id place id
id_put (Change.Move from place word) id = same
id_put Change.NoRoom id = same

-- what becomes of the further blocks: a Mapping that takes a word puts the entry of its FEC there, a Request its ID
unfoldable pub accepted_further : Table → Kind → ℕ → ℕ → Further
accepted_further t Kind.Mapping label entry =
    entry_put (taken_at (find_of (stands_for Side.Given label) t.words) (accepted_change t Kind.Mapping label)) entry
accepted_further t Kind.Withdraw label entry = same
accepted_further t Kind.Release label entry = same
accepted_further t Kind.Address label entry = same
accepted_further t Kind.AddressWithdraw label entry = same
accepted_further t Kind.ResourcesAvailable label entry = same
accepted_further t (Kind.Request id) label entry = id_put (accepted_change t (Kind.Request id) label) id
accepted_further t (Kind.Abort id) label entry = same
accepted_further t Kind.NoResources label entry = same
accepted_further t Kind.NoKind label entry = same

-- one more message held; 02: "4 from accepting kind 9 until kind 6"
abbrev pub header_queued : Header → Kind → Header
header_queued h kind = record {
  released = h.released;
  issued = h.issued;
  secured = h.secured;
  first = h.first;
  held = h.held + 1;
  timeout = h.timeout;
  kept = h.kept;
  marks = marks_byte (record { stopped = (marks_of h.marks).stopped; stopping = stop_after (marks_of h.marks).stopping kind });
  keepalive = h.keepalive;
  maxpdu = h.maxpdu;
}
