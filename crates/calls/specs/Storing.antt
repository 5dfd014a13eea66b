-- How a state of the protocol is stored in an image: "A call stores at most one slot, one that isn't live, and then block 0.";
-- 02: between them a further block, 65, 66 or 67.
use Rattle.std.specs.Prelude.{Option, Some, None, ℕ, ◌+◌, List}
use Rattle.octets.specs.Pick.{pick}
use Rattle.ft_number.specs.declared.MessageId.{MessageId}
use Rattle.block0.specs.declared.Header.{Header}
use Rattle.image.specs.Sizes.{block_of, slot_at}
use Rattle.image.specs.State.{decode, store_slot, store_id, store_entry, store0}
use Rattle.protocol.specs.State.{Marks, State, held}
use Rattle.calls.specs.State.{telling_mark, told_mark}

-- byte 23
abbrev pub marks_byte : Marks → ℕ
marks_byte m = pick m.stopped told_mark 0 + pick m.stopping telling_mark 0

-- block 0's numbers, where the oldest message held lies in that slot
abbrev pub header_for : ℕ → State → Header
header_for first s = record {
  released = s.released;
  issued = s.issued;
  secured = s.secured;
  first = first;
  held = held s;
  timeout = s.terms.timeout;
  kept = pick s.kept 1 0;
  marks = marks_byte s.marks;
  keepalive = s.terms.keepalive;
  maxpdu = s.terms.maxpdu;
}

abbrev pub put_state : List ℕ → ℕ → State → List ℕ
put_state im first s = store0 im (header_for first s) s.table.words

-- what becomes of the further blocks: they stay, the ID at a place of block 65 is another, or the entry at a place of block 66 or 67
pub data Further : Type 0 where
  same : Further
  put_id : ℕ → MessageId → Further
  put-entry : ℕ → ℕ → Further

-- 02: "Only a Mapping that takes a word": its entry is put at the place of that word
abbrev pub entry_put : Option ℕ → ℕ → Further
entry_put (Some place) entry = put-entry place entry
entry_put None entry = same

-- what becomes of the ring of slots: nothing; a message is put behind the newest; the oldest so many are free; it is empty, and begins at slot 0
pub data Slots : Type 0 where
  stay empty : Slots
  one_more : List ℕ → Slots
  fewer : ℕ → Slots

abbrev pub first_after : Header → Slots → ℕ
first_after h stay = h.first
first_after h empty = 0
first_after h (one_more m) = h.first
first_after h (fewer k) = slot_at h.first k

-- the slot behind the newest held
abbrev pub next_slot : Header → ℕ
next_slot h = slot_at h.first h.held

-- first the slot ..
abbrev pub slot_stored : List ℕ → Slots → List ℕ
slot_stored im stay = im
slot_stored im empty = im
slot_stored im (one_more m) = store_slot im (next_slot (decode im).header) m
slot_stored im (fewer k) = im

-- .. by its block, 0 where there is none ..
abbrev pub slot_named : List ℕ → Slots → ℕ
slot_named im stay = 0
slot_named im empty = 0
slot_named im (one_more m) = block_of (next_slot (decode im).header)
slot_named im (fewer k) = 0

-- .. then a further block ..
abbrev pub further_stored : List ℕ → Further → List ℕ
further_stored im same = im
further_stored im (put_id place id) = store_id im place id
further_stored im (put-entry place entry) = store_entry im place entry

-- .. then block 0
abbrev pub stored : List ℕ → Slots → Further → State → List ℕ
stored im slots further s = put_state (further_stored (slot_stored im slots) further) (first_after (decode im).header slots) s
