-- The index of prefixes over all calls: by which message a listed label has its entry, and which word a Mapping takes for it.
-- 02: "Keep an index of IPv4 prefix and length beside the label words .. A Mapping takes its Request's word or the first that is free in the
-- old block 0 too; so a cut leaves the old state."
use Rattle.std.specs.Prelude.{Ok, Some, ℕ, true, List, ◌≢◌, ◌≡◌, get_or}
use Rattle.label_list.specs.declared.Side.{Side}
use Rattle.label_list.specs.Beside.{entry_on}
use Rattle.label_list.specs.Word.{is_request}
use Rattle.tlv.specs.Element.{entry_by}
use Rattle.label_events.specs.Change.{code_at}
use Rattle.message.specs.declared.Kind.{Kind}
use Rattle.message.specs.declared.Message.{Message}
use Rattle.message.specs.declared.MessageType.{MessageType}
use Rattle.message.specs.Submission.{submission_of, entry_in}
use Rattle.protocol.specs.declared.Phase.{Phase}
use Rattle.protocol.specs.Calls.{Call, submits, receives}
use Rattle.protocol.specs.Cases.{table_after}
use Rattle.protocol.specs.Labels.{answered_at}
use Rattle.protocol.specs.MeaningRequests.{TakenUp}
use Rattle.protocol.specs.Receive.{ack_count, ack_on}
use Rattle.protocol.specs.State.{State}
use Rattle.protocol.specs.Step.{Step}

-- the entry of a label in a state
abbrev pub label_entry : State → Side → ℕ → ℕ
label_entry s side l = entry_on s.table.words s.table.index side l

-- a word that lists no label before the call, so that its entry is looked at by nobody: a free one, or that of the Request which is answered
pub data Unlisted (s : State) (g : Message) (i : ℕ) : Type 0 where
  was_free : get_or s.table.words i 0 ≡ 0 → Unlisted s g i
  was_request : answered_at (table_after s (ack_count (ack_on s g))) g ≡ Some i → is_request (get_or s.table.words i 0) ≡ true → Unlisted s g i

-- the entry of a label that is listed after a call, which leaves x: the one that it had, or that of the Mapping which took its word
pub data EntryFrom (s : State) (ph : Phase) (side : Side) (l : ℕ) : Call → Step → Type 0 where
  stays : {c : Call} {x : Step} → code_at s.table.words side l ≢ 0 → label_entry x.state side l ≡ label_entry s side l
      → EntryFrom s ph side l c x
  by_ours : {m : List ℕ} {x : Step} (i : ℕ) → side ≡ Side.Given → submission_of m ≡ Ok (Kind.Mapping, l)
      → get_or s.table.words i 0 ≡ 0 → label_entry x.state side l ≡ entry_in m → EntryFrom s ph side l (submits m) x
  by_peers : {m : List ℕ} {x : Step} {g : Message} (i : ℕ) → side ≡ Side.Used → TakenUp ph m g x → g.typename ≡ MessageType.Mapping
      → g.label ≡ Some l → Unlisted s g i → label_entry x.state side l ≡ entry_by g.fec → EntryFrom s ph side l (receives m) x
