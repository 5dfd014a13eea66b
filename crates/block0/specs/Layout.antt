-- Block 0, in either version of the stored image.
-- 01: "version 1 (0-3), R (4-7), I (8-11), S (12-15), first slot 0 to 63 (16-17), held 0 to 64 (18-19), agreed timeout (20-21),
-- kept 0 or 1 (22), zero (23), peer's KeepAlive time (24-25), peer's maximum PDU length (26-27), 120 label words (28-507)."
-- 02: "in byte 23 of block 0, 2 if told so, 4 from accepting kind 9 until kind 6": the marks.
-- 02: "The stored image gets version 2, the only one outside the converter, with milliseconds in bytes 28 to 31 (20 and 21 zero) and 119 labels from 32."
use Rattle.std.specs.Prelude.{ℕ, List, [], ◌∷◌, ◌++◌, get_or, replicate}
use Rattle.block.specs.Check.{sealed}
use Rattle.block.specs.Run.{get_run, spelled, words_at, word_bytes}
use Rattle.label_list.specs.Word.{word_count}
use Rattle.block0.specs.declared.Header.{Header}
use Rattle.block0.specs.declared.Version.{Version}
use Rattle.block0.specs.declared.Version.TheVariants.{One, Two}

-- "Blocks 1 to 64, slots 0 to 63, used in a ring"
abbrev pub slot_count : ℕ
slot_count = 64

-- ---- in what the two versions differ
abbrev pub version_number : Version → ℕ
version_number One = 1
version_number Two = 2

-- bytes 20 and 21: the agreed timeout in seconds, or zero
abbrev pub early_timeout : Version → ℕ → ℕ
early_timeout One timeout = timeout
early_timeout Two timeout = 0

-- from byte 28 on: nothing, or the agreed timeout in milliseconds
abbrev pub late_timeout : Version → ℕ → List ℕ
late_timeout One timeout = []
late_timeout Two timeout = timeout ∷ []

abbrev pub late_widths : Version → List ℕ
late_widths One = []
late_widths Two = 4 ∷ []

-- which of the fields is the agreed timeout
abbrev pub timeout_field : Version → ℕ
timeout_field One = 6
timeout_field Two = 11

-- where the label words start, and how many there are
abbrev pub labels_at : Version → ℕ
labels_at One = 28
labels_at Two = 32

abbrev pub places : Version → ℕ
places One = 120
places Two = word_count

-- ---- the fields before the label words, in three runs: the widths and what stands there
abbrev pub number_widths : List ℕ
number_widths = 4 ∷ 4 ∷ 4 ∷ 4 ∷ []

abbrev pub number_values : Version → Header → List ℕ
number_values v h = version_number v ∷ h.released.0 ∷ h.issued.0 ∷ h.secured.0 ∷ []

abbrev pub rest_widths : List ℕ
rest_widths = 2 ∷ 2 ∷ 2 ∷ 1 ∷ 1 ∷ 2 ∷ 2 ∷ []

abbrev pub rest_values : Header → ℕ → List ℕ
rest_values h in20 = h.first ∷ h.held ∷ in20 ∷ h.kept ∷ h.marks ∷ h.keepalive ∷ h.maxpdu ∷ []

abbrev pub widths : Version → List ℕ
widths v = number_widths ++ (rest_widths ++ late_widths v)

abbrev pub values : Version → Header → List ℕ
values v h = number_values v h ++ (rest_values h (early_timeout v h.timeout) ++ late_timeout v h.timeout)

abbrev pub from_values : Version → List ℕ → Header
from_values v l = record {
  released = record { 0 = get_or l 1 0 };
  issued = record { 0 = get_or l 2 0 };
  secured = record { 0 = get_or l 3 0 };
  first = get_or l 4 0;
  held = get_or l 5 0;
  timeout = get_or l (timeout_field v) 0;
  kept = get_or l 7 0;
  marks = get_or l 8 0;
  keepalive = get_or l 9 0;
  maxpdu = get_or l 10 0;
}

-- ---- the block
unfoldable pub header_by : Version → List ℕ → Header
header_by v b = from_values v (get_run (widths v) b 0)

unfoldable pub labels_by : Version → List ℕ → List ℕ
labels_by v b = words_at (places v) b (labels_at v)

-- its fields one after the other, the label words, and the check of these 508 bytes
unfoldable pub block_by : Version → Header → List ℕ → List ℕ
block_by v h ls = sealed (spelled (widths v) (values v h) ++ word_bytes (places v) ls)

-- "Released means block 0 with kept 0": every number is zero, and every label word
abbrev pub released_header : Header
released_header = record {
  released = record { 0 = 0 };
  issued = record { 0 = 0 };
  secured = record { 0 = 0 };
  first = 0;
  held = 0;
  timeout = 0;
  kept = 0;
  marks = 0;
  keepalive = 0;
  maxpdu = 0;
}

abbrev pub no_labels_by : Version → List ℕ
no_labels_by v = replicate (places v) 0

-- ---- version 2
abbrev pub header_of : List ℕ → Header
header_of b = header_by Two b

abbrev pub labels_of : List ℕ → List ℕ
labels_of b = labels_by Two b

abbrev pub block0 : Header → List ℕ → List ℕ
block0 h ls = block_by Two h ls

abbrev pub no_labels : List ℕ
no_labels = no_labels_by Two
