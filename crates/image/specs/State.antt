-- The state that an image stands for, and the three stages in which it is stored.
use Rattle.std.specs.Prelude.{◌<◌, ℕ, ◌+◌, ◌*◌, ◌/◌, ◌%◌, List, [], ◌++◌, ◌≢◌, length, get_or, set}
use Rattle.block.specs.Check.{block_size}
use Rattle.block.specs.Run.{Words}
use Rattle.ft_number.specs.declared.MessageId.{MessageId}
use Rattle.label_list.specs.Counting.{counting}
use Rattle.label_list.specs.Requests.{open_ids}
use Rattle.label_list.specs.Word.{word_count, lists_label}
use Rattle.word_block.specs.Layout.{block_words, word_block}
use Rattle.block0.specs.declared.Header.{Header}
use Rattle.block0.specs.declared.Version.{Version}
use Rattle.block0.specs.declared.Version.TheVariants.{Two}
use Rattle.block0.specs.Fields.{Fits}
use Rattle.block0.specs.Layout.{header_by, labels_by, block_by}
use Rattle.fec_index.specs.Entries.{entry_count, entries_of, pair_put}
use Rattle.slot.specs.Held.{slot_for}
use Rattle.slot.specs.Layout.{message_at, slot_message}
use Rattle.image.specs.Ring.{ring}
use Rattle.image.specs.Sizes.{request_block, index_block, block, with_block, block_of, slot_at}

-- the numbers of block 0, its label words, the IDs of open Requests and the index of prefixes beside them, and the
-- messages held, the oldest first
pub record Contents : Type 0 where
  pub header : Header
  pub labels : List ℕ
  pub ids : List ℕ
  pub index : List ℕ
  pub queue : List (List ℕ)

-- the message of slot k, live or not
unfoldable pub slots_of : List ℕ → ℕ → List ℕ
slots_of image k = slot_message (block image (block_of k))

-- the IDs that block 65 bears; 02: "an ID counts only under code 7"
unfoldable pub stored_ids : List ℕ → List ℕ
stored_ids image = block_words (block image request_block)

-- the entries that blocks 66 and 67 bear; 02: "An entry is looked at only where the word lists a label"
unfoldable pub stored_index : List ℕ → List ℕ
stored_index image = entries_of (block image index_block) ++ entries_of (block image (index_block + 1))

abbrev pub decode_by : Version → List ℕ → Contents
decode_by v image = record {
  header = header_by v (block image 0);
  labels = labels_by v (block image 0);
  ids = open_ids (labels_by v (block image 0)) (stored_ids image);
  index = counting 0 lists_label (labels_by v (block image 0)) (stored_index image);
  queue = ring (slots_of image) (header_by v (block image 0)).first (header_by v (block image 0)).held;
}

-- 02: version 2 is "the only one outside the converter"
unfoldable pub decode : List ℕ → Contents
decode image = decode_by Two image

-- the block of the i-th message held, counted from the oldest, and the place of that block in the image
unfoldable pub held_block : List ℕ → ℕ → List ℕ
held_block image i = block image (block_of (slot_at (decode image).header.first i))

unfoldable pub held_place : List ℕ → ℕ → ℕ
held_place image i = block_of (slot_at (decode image).header.first i) * block_size

-- where that message starts in the image, and where it ends
abbrev pub held_start : List ℕ → ℕ → ℕ
held_start image i = message_at + held_place image i

abbrev pub held_end : List ℕ → ℕ → ℕ
held_end image i = held_start image i + length (get_or (decode image).queue i [])

-- slot k is not live
abbrev pub NotLive : List ℕ → ℕ → Type 0
NotLive image k = (i : ℕ) → i < (decode image).header.held → slot_at (decode image).header.first i ≢ k

-- "A call stores at most one slot, one that isn't live, and then block 0." First the slot ..
unfoldable pub store_slot : List ℕ → ℕ → List ℕ → List ℕ
store_slot image k m = with_block image (block_of k) (slot_for m)

-- .. 02: "stored in block 65 .. before block 0": then the ID of a Request at its place; the others stay ..
unfoldable pub store_id : List ℕ → ℕ → MessageId → List ℕ
store_id image place id = with_block image request_block (word_block (set (stored_ids image) place id.0))

-- .. and the entry of a label at its place of block 66 or 67; the others stay ..
abbrev pub entry_block : ℕ → ℕ
entry_block place = index_block + place / entry_count

unfoldable pub store_entry : List ℕ → ℕ → ℕ → List ℕ
store_entry image place entry =
    with_block image (entry_block place)
    (word_block (pair_put (block_words (block image (entry_block place))) (place % entry_count) entry))

-- .. then block 0
abbrev pub store_by : Version → List ℕ → Header → List ℕ → List ℕ
store_by v image h ls = with_block image 0 (block_by v h ls)

unfoldable pub store0 : List ℕ → Header → List ℕ → List ℕ
store0 image h ls = store_by Two image h ls

abbrev pub store : List ℕ → Contents → List ℕ
store image s = store0 image s.header s.labels

-- each number of the state has its width
pub record InRange (s : Contents) : Type 0 where
  pub header : Fits s.header
  pub labels : Words word_count s.labels
  pub ids : Words word_count s.ids
