-- Requests of ours: one is asked, one is taken back, one is answered; the words and the IDs afterwards.
use Rattle.std.specs.Prelude.{Option, Some, None, ℕ, List, ltb, length, get_or, set}
use Rattle.octets.specs.Pick.{pick, both}
use Rattle.ft_number.specs.declared.MessageId.{MessageId}
use Rattle.label_list.specs.Find.{find_of, is_found}
use Rattle.label_list.specs.Requests.{open_at}
use Rattle.label_list.specs.Word.{is_free, is_request, request_word}
use Rattle.label_events.specs.declared.Change.{Change}
use Rattle.label_events.specs.Change.{take_free}

-- 02: "An open Request takes one of the .. words under code 7", the first free one; "13 also for a Request"
abbrev pub asked_change : List ℕ → Change
asked_change words = take_free (find_of is_free words) request_word

-- "6 also for an ID already open"
unfoldable pub asked_plan : List ℕ → List ℕ → MessageId → Option Change
asked_plan words ids id = pick (is_found (open_at id words ids)) None (Some (asked_change words))

-- "its message ID at the same place"
abbrev pub ids_put : List ℕ → Change → MessageId → List ℕ
ids_put ids Change.Keep id = ids
ids_put ids (Change.Put i w) id = set ids i id.0
ids_put ids (Change.Move i j w) id = ids
ids_put ids Change.NoRoom id = ids

-- 02: "6 also for .. an Abort of none"; "It ends when its Abort is accepted": its word is free then, and the ID "stays when its word is freed"
abbrev pub aborted_at : Option ℕ → Option Change
aborted_at (Some i) = Some (Change.Put i 0)
aborted_at None = None

unfoldable pub aborted_plan : List ℕ → List ℕ → MessageId → Option Change
aborted_plan words ids id = aborted_at (open_at id words ids)

-- "or a Notification (Status) or Mapping (TLV 0x0600, length 4) naming its ID is received": the Request at that place, if one is open there, has ended
unfoldable pub ended_at : Option ℕ → List ℕ → List ℕ
ended_at (Some i) words = pick (is_request (get_or words i 0)) (set words i 0) words
ended_at None words = words

-- a spare place counts only where the word there is free
abbrev pub where_free : Option ℕ → List ℕ → Option ℕ
where_free (Some i) words = pick (both (ltb i (length words)) (is_free (get_or words i 0))) (Some i) None
where_free None words = None

-- 02: "A Mapping takes its Request's word or the first that is free in the old block 0 too": that of the Request which it ends, else the spare one
unfoldable pub room_at : Option ℕ → Option ℕ → List ℕ → Option ℕ
room_at (Some i) spare words = pick (is_request (get_or words i 0)) (Some i) (where_free spare words)
room_at None spare words = where_free spare words
