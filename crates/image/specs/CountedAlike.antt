-- Two images that differ in entries that do not count. 02: "An entry is looked at only where the word lists a label".
use Rattle.std.specs.Prelude.{ℕ, ◌+◌, ◌<◌, true, List, ◌≢◌, ◌≡◌, length, get_or}
use Rattle.block.specs.Check.{sound}
use Rattle.label_list.specs.Word.{lists_label}
use Rattle.word_block.specs.Layout.{rest_zero}
use Rattle.block0.specs.declared.Version.{Version}
use Rattle.block0.specs.Layout.{labels_by}
use Rattle.image.specs.Sizes.{block, index_block}
use Rattle.image.specs.State.{stored_index}

-- every other block is the same; those of the index pass or fail their check alike, and have zeros after the places
-- alike; an entry is the same where its word lists a label
pub record CountedAlike (v : Version) (image t : List ℕ) : Type 0 where
  pub size : length t ≡ length image
  pub blocks : (b : ℕ) → b ≢ index_block → b ≢ index_block + 1 → block t b ≡ block image b
  pub checks : (k : ℕ) → k < 2 → sound (block t (index_block + k)) ≡ sound (block image (index_block + k))
  pub rests : (k : ℕ) → k < 2 → rest_zero (block t (index_block + k)) ≡ rest_zero (block image (index_block + k))
  pub entries : (i : ℕ) → lists_label (get_or (labels_by v (block image 0)) i 0) ≡ true
      → get_or (stored_index t) i 0 ≡ get_or (stored_index image) i 0
