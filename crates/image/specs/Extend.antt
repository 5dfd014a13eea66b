-- An image that an earlier release stored, 65 blocks or 66, made one of this: empty further blocks behind it. It keeps
-- its version: one of version 1 the converter moves next.
use Rattle.std.specs.Prelude.{Result, Ok, Err, ℕ, ◌+◌, ◌-◌, ◌*◌, ◌<◌, true, false, List, ◌≡◌, eqb, length, replicate}
use Rattle.octets.specs.Pick.{pick}
use Rattle.block.specs.Check.{block_size, sound}
use Rattle.label_list.specs.Find.{any}
use Rattle.label_list.specs.Word.{request_code}
use Rattle.block0.specs.declared.Version.{Version}
use Rattle.block0.specs.Coded.{has_code}
use Rattle.block0.specs.Fields.{fields_by}
use Rattle.block0.specs.Layout.{places, header_by, labels_by}
use Rattle.image.specs.declared.ImageFault.{ImageFault}
use Rattle.image.specs.Sizes.{request_block, index_block, block_count, image_size, block, blocks_from, cleared, block_of, slot_at}
use Rattle.image.specs.State.{Contents}
use Rattle.image.specs.Verdict.{SlotGood, FurtherGood}

-- the size of an image with n further blocks. 01: "65 blocks of 512 bytes, 33,280 in all"; with 02's block 65 behind
-- them 33,792
abbrev pub earlier_size : ℕ → ℕ
earlier_size n = (request_block + n) * block_size

-- an image of which the blocks before one were stored: from it on they are empty
abbrev pub extended_from : List ℕ → ℕ → List ℕ
extended_from image b = cleared image (blocks_from b (block_count - b))

-- ---- in a buffer of the new size, of whose bytes so many were stored
unfoldable pub extend_verdict : List ℕ → ℕ → Result Unit ImageFault
extend_verdict image stored =
    pick (eqb (length image) image_size)
    (pick (eqb stored (earlier_size 0)) (Ok tt) (pick (eqb stored (earlier_size 1)) (Ok tt) (Err ImageFault.WrongSize))) (Err ImageFault.WrongSize)

unfoldable pub extend_of : List ℕ → ℕ → List ℕ
extend_of image stored =
    pick (eqb (length image) image_size)
    (pick (eqb stored (earlier_size 0)) (extended_from image request_block)
    (pick (eqb stored (earlier_size 1)) (extended_from image index_block) image)) image

-- ---- what the earlier release's checks say
-- the first blocks of a buffer, with n further ones, passed them, clause by clause; with none of these no word is an
-- open Request's
pub record SoundBefore (v : Version) (n : ℕ) (image : List ℕ) : Type 0 where
  pub size : length image ≡ image_size
  pub few : n < 2
  pub check : sound (block image 0) ≡ true
  pub fields : fields_by v (block image 0) ≡ true
  pub slots : (i : ℕ) → i < (header_by v (block image 0)).held
      → SlotGood (block image (block_of (slot_at (header_by v (block image 0)).first i)))
  pub further : (k : ℕ) → k < n
      → FurtherGood (labels_by v (block image 0)) (request_block + k) (block image (request_block + k))
  pub requests : n ≡ 0 → any (has_code request_code) (labels_by v (block image 0)) ≡ false

-- what it stands for then: the same numbers, words, IDs and queue. its labels count as of other FECs
abbrev pub extended_contents : Version → Contents → Contents
extended_contents v s = record {
  header = s.header;
  labels = s.labels;
  ids = s.ids;
  index = replicate (places v) 0;
  queue = s.queue;
}
