-- A further block: a list of 120 numbers, then zeros. 02: "its message ID at the same place of a further lent list of
-- 120 numbers, stored in block 65 (then zeros)"; of the index "60 places in each of two further blocks", each of two
-- such numbers, and "zeros .. after the places".
use Rattle.std.specs.Prelude.{ℕ, ◌-◌, ◌*◌, Bool, List, ◌++◌, replicate}
use Rattle.octets.specs.Part.{part}
use Rattle.octets.specs.Pick.{both}
use Rattle.block.specs.Check.{check_at, sealed, sound}
use Rattle.block.specs.Run.{words_at, word_bytes}
use Rattle.block.specs.Zeros.{all_zero}

-- the places of words
abbrev pub place_count : ℕ
place_count = 120

-- where the zeros begin
abbrev pub words_end : ℕ
words_end = place_count * 4

unfoldable pub block_words : List ℕ → List ℕ
block_words b = words_at place_count b 0

-- the block: the words, zeros, and the check of these 508 bytes
unfoldable pub word_block : List ℕ → List ℕ
word_block words = sealed (word_bytes place_count words ++ replicate (check_at - words_end) 0)

abbrev pub no_words : List ℕ
no_words = replicate place_count 0

-- zeros behind the words
abbrev pub rest_zero : List ℕ → Bool
rest_zero b = all_zero (part b words_end check_at)

-- a block of no words: zeros, and their check
unfoldable pub is_empty : List ℕ → Bool
is_empty b = both (sound b) (all_zero (part b 0 check_at))
