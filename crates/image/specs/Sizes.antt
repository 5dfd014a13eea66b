-- The sizes of a stored image, its blocks and its ring of slots. "Blocks 1 to 64, slots 0 to 63, used in a ring." 02:
-- the IDs of open Requests "stored in block 65", the index of prefixes in "two further blocks": 68 blocks of 512 bytes,
-- 34,816 in all, "in both versions".
use Rattle.std.specs.Prelude.{ℕ, zero, suc, ◌+◌, ◌*◌, ◌%◌, List, [], ◌∷◌}
use Rattle.octets.specs.Laid.{laid}
use Rattle.octets.specs.Part.{part}
use Rattle.block.specs.Check.{block_size}
use Rattle.word_block.specs.Layout.{word_block, no_words}
use Rattle.block0.specs.Layout.{slot_count}

-- so many blocks from block b on
abbrev pub blocks_from : ℕ → ℕ → List ℕ
blocks_from b zero = []
blocks_from b (suc n) = b ∷ blocks_from (b + 1) n

-- the further blocks, behind the slots; the first has the IDs of open Requests
abbrev pub request_block : ℕ
request_block = 1 + slot_count

-- 02: "60 places in each of two further blocks, stored before block 0 and checked last": the first of them
abbrev pub index_block : ℕ
index_block = request_block + 1

abbrev pub further_count : ℕ
further_count = 3

-- they are checked, stored and told in this order
abbrev pub further : List ℕ
further = blocks_from request_block further_count

-- block 0, a block for each slot, and the further ones
abbrev pub block_count : ℕ
block_count = request_block + further_count

abbrev pub image_size : ℕ
image_size = block_count * block_size

-- block b of an image, and the image with block b written
abbrev pub block : List ℕ → ℕ → List ℕ
block image b = part image (b * block_size) (b * block_size + block_size)

abbrev pub with_block : List ℕ → ℕ → List ℕ → List ℕ
with_block image b p = laid image (b * block_size) p

-- the image with these blocks empty: no words, and their check
abbrev pub cleared : List ℕ → List ℕ → List ℕ
cleared image [] = image
cleared image (b ∷ bs) = cleared (with_block image b (word_block no_words)) bs

-- the block of slot k
abbrev pub block_of : ℕ → ℕ
block_of k = k + 1

-- the slot that lies n past slot f, round the ring
abbrev pub slot_at : ℕ → ℕ → ℕ
slot_at f n = (f + n) % slot_count
