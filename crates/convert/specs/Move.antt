-- What is made of a state, and of an image, that one version of the image says in the other. 02: "The stored image gets
-- version 2 .., with milliseconds in bytes 28 to 31 (20 and 21 zero) and 119 labels from 32 .. A converter moves
-- version 1 to 2 and back".
use Rattle.std.specs.Prelude.{ℕ, ◌*◌, ◌/◌, ◌%◌, Bool, List, [], ◌∷◌, ◌++◌, eqb, leb, get_or, take}
use Rattle.octets.specs.Pick.{both}
use Rattle.label_list.specs.Word.{word_count, is_free}
use Rattle.block0.specs.declared.Header.{Header}
use Rattle.block0.specs.declared.Version.{Version}
use Rattle.block0.specs.declared.Version.TheVariants.{One, Two}
use Rattle.block0.specs.Updates.{header_timeout}
use Rattle.image.specs.State.{Contents, decode_by, store_by}

abbrev pub other : Version → Version
other One = Two
other Two = One

-- the agreed timeout: seconds, and milliseconds
abbrev pub timeout_moved : Version → ℕ → ℕ
timeout_moved One seconds = seconds * 1000
timeout_moved Two milliseconds = milliseconds / 1000

-- the label words, and the IDs and entries beside them: without the last of 120, or with a last one that is free
abbrev pub list_moved : Version → List ℕ → List ℕ
list_moved One l = take word_count l
list_moved Two l = l ++ (0 ∷ [])

-- 02: "16, the last of the 120 label words in use going forward, or a timeout that isn't whole seconds up to 65,535
-- going back"
abbrev pub movable : Version → Header → List ℕ → Bool
movable One h labels = is_free (get_or labels word_count 0)
movable Two h labels = both (eqb (h.timeout % 1000) 0) (leb h.timeout 65535000)

-- the same numbers, in the other version's unit
abbrev pub header_moved : Version → Header → Header
header_moved v h = header_timeout h (timeout_moved v h.timeout)

-- the same state, with as many places as the other version has
abbrev pub state_moved : Version → Contents → Contents
state_moved v s = record {
  header = header_moved v s.header;
  labels = list_moved v s.labels;
  ids = list_moved v s.ids;
  index = list_moved v s.index;
  queue = s.queue;
}

-- the image in the other version: block 0 is written anew, every other block stays
unfoldable pub image_moved : Version → List ℕ → List ℕ
image_moved v image =
    store_by (other v) image (header_moved v (decode_by v image).header) (list_moved v (decode_by v image).labels)
