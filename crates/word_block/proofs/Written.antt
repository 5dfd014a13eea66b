-- A block that was written: it is sound, and its words are read back. Assumes nothing.
use Prim.Native.Nat.{ℕ, ◌+◌, ◌<◌, ◌*◌}
use mathlib.Core.Bool.{true}
use mathlib.Core.List.{List, [], ◌++◌, append_assoc}
use mathlib.Core.Path.{◌≡◌, refl, ap, ap₂, ◌∙◌, sym}
use native.Mathlib.Nat.{zero-add}
use lib.ListN.{length, replicate, length-append, take, get_or}
use lib.Seq.{take_at, drop_at}
use Rattle.octets.specs.Be.{bytes, be_at}
use Rattle.octets.proofs.Fill.{length_zeros}
use Rattle.block.specs.Check.{block_size, check_at, check_of, sound, sealed}
use Rattle.block.specs.Run.{words_at, word_bytes, Words}
use Rattle.block.specs.Zeros.{all_zero}
use Rattle.block.proofs.Sealed.{length-sealed, sealed-sound}
use Rattle.block.proofs.WordRun.{length-word_bytes, words-spelled, get_d_words_at, length-words_at}
use Rattle.block.proofs.ZeroBytes.{zeros_zero}
use Rattle.word_block.specs.Layout.{rest_zero, place_count, block_words, word_block, words_end}

pub length-words : (b : List ℕ) → length (block_words b) ≡ place_count
unfolding block_words
length-words b = length-words_at place_count b 0

-- the word at a place, by its bytes
pub word_read : (b : List ℕ) (i : ℕ) {v : ℕ} → i < place_count → v ≡ be_at 4 b (i * 4) → v ≡ get_or (block_words b) i 0
unfolding block_words
word_read b i l e = e ∙ sym (get_d_words_at place_count b 0 i l ∙ ap (be_at 4 b) (zero-add (i * 4)))

-- whatever is written, it is whole and has its check
module _ (ws : List ℕ) where
  words : List ℕ
  words = word_bytes place_count ws

  check : List ℕ
  check = bytes 4 (check_of (words ++ replicate 28 0))

  in_parts : word_block ws ≡ words ++ (replicate 28 0 ++ check)
  unfolding word_block sealed words check
  in_parts = append_assoc words (replicate 28 0) check

  length_body : length (word_bytes place_count ws ++ replicate 28 0) ≡ check_at
  length_body = length-append (word_bytes place_count ws) (replicate 28 0) ∙ ap₂ (λ (x y : ℕ). x + y) (length-word_bytes place_count ws) (length_zeros 28)

  pub length-word_block : length (word_block ws) ≡ block_size
  unfolding word_block
  length-word_block = length-sealed (word_bytes place_count ws ++ replicate 28 0) length_body

  pub word_block-sound : sound (word_block ws) ≡ true
  unfolding word_block
  word_block-sound = sealed-sound (word_bytes place_count ws ++ replicate 28 0) length_body

  -- zeros stand behind the words
  pub word_block-rest : rest_zero (word_block ws) ≡ true
  unfolding words
  word_block-rest =
      ap rest_zero in_parts
      ∙ ap (λ (l : List ℕ). all_zero (take 28 l)) (drop_at words (replicate 28 0 ++ check) words_end (length-word_bytes place_count ws))
      ∙ ap all_zero (take_at (replicate 28 0) check 28 (length_zeros 28))
      ∙ zeros_zero 28

  module _ (fits : Words place_count ws) where
    -- the words that were written are read back, where each has its width
    pub words-word_block : block_words (word_block ws) ≡ ws
    unfolding block_words words
    words-word_block = ap (λ (b : List ℕ). words_at place_count b 0) in_parts ∙ words-spelled place_count ws [] (replicate 28 0 ++ check) 0 refl fits
