-- A block written without a look at every word: with one of them changed, or with none left; and with its own it is the same. Assumes nothing.
use Prim.Native.Nat.{ℕ, ◌+◌, ◌*◌, ◌<◌}
use mathlib.Core.Bool.{Bool, true, false}
use mathlib.Core.List.{List, [], ◌++◌, append_assoc}
use mathlib.Core.Path.{◌≡◌, refl, sym, ap, ◌∙◌, ap₂}
use native.Mathlib.Omega.{arith}
use lib.Dec.{eqb}
use lib.ListN.{length, set, take, drop, replicate, length-append, length-drop, take-append-drop}
use lib.Seq.{take-add, take_at, ext_get_or}
use borrow.Author.Tests.{eq-eqb, ne_eqb}
use Rattle.octets.specs.Be.{bytes, be_at}
use Rattle.octets.specs.Bytes.{Bytes}
use Rattle.octets.specs.Laid.{laid}
use Rattle.octets.specs.Part.{part}
use Rattle.octets.proofs.Choice.{both_commutes, by_test}
use Rattle.octets.proofs.Fill.{length_zeros, zeros_at}
use Rattle.octets.proofs.Laid.{length-laid, laid_behind, laid-before, laid_front, take-laid}
use Rattle.octets.proofs.Part.{length_part}
use Rattle.block.specs.Check.{block_size, check_at, sound, sealed, check_of, sums}
use Rattle.block.specs.Run.{words_at, word_bytes}
use Rattle.block.specs.Zeros.{all_zero}
use Rattle.block.proofs.Same.{words_same, sealed_same}
use Rattle.block.proofs.WordRun.{length-word_bytes, length-words_at, word_put as run-put, zero-words, words-spelled}
use Rattle.block.proofs.ZeroBytes.{zero-bytes}
use Rattle.word_block.specs.Layout.{place_count, words_end, block_words, word_block, no_words, rest_zero, is_empty}
use Rattle.word_block.proofs.Wide.{words-bytes, set_words}

-- bytes that are all zero
zeros_are : (s : List ℕ) (n : ℕ) → length s ≡ n → all_zero s ≡ true → s ≡ replicate n 0
zeros_are s n long zero = ext_get_or 0 s (replicate n 0) (long ∙ sym (length_zeros n)) (λ i l. zero-bytes s zero i ∙ sym (zeros_at n i))

-- the check of a block of no words
pub none_sound : (b : List ℕ) → length b ≡ block_size → all_zero (part b 0 check_at) ≡ true → {v : ℕ} → v ≡ be_at 4 b check_at → eqb v 65790 ≡ sound b
unfolding sound check_of sums
none_sound b long zero ev = ap₂ eqb ev (sym (ap check_of (zeros_are (part b 0 check_at) check_at (length_part b 0 check_at (omega arith)) zero)))

-- so a block of another check is none, and of that check it is one where its bytes are zero
module _ (b : List ℕ) (long : length b ≡ block_size) {v : ℕ} (ev : v ≡ be_at 4 b check_at) where
  pub not_empty : (v ≡ 65790 → ⊥) → false ≡ is_empty b
  unfolding is_empty
  not_empty other =
      by_test (all_zero (part b 0 check_at))
      (λ t. rw (← none_sound b long t ev, ne_eqb v 65790 other))
      (λ f. rw f (sym (both_commutes (sound b) false)))

  pub are_empty : v ≡ 65790 → {r : Bool} → r ≡ all_zero (part b 0 check_at) → r ≡ is_empty b
  unfolding is_empty
  are_empty e er =
      er ∙ by_test (all_zero (part b 0 check_at))
      (λ t. rw (← none_sound b long t ev, eq-eqb v 65790 e))
      (λ f. rw f (sym (both_commutes (sound b) false)))

-- no word is left
pub none_put : (b : List ℕ) → length b ≡ block_size → {z x : List ℕ} → z ≡ laid b 0 (replicate check_at 0) → x ≡ sealed (take check_at z) → x ≡ word_block no_words
unfolding word_block
none_put b long ez p =
    let all : take check_at (laid b 0 (replicate check_at 0)) ≡ replicate check_at 0 =
    ap (λ (k : ℕ). take k (laid b 0 (replicate check_at 0))) (sym (length_zeros check_at)) ∙ take-laid b (replicate check_at 0) (omega (arith, length_zeros check_at)) in
    p ∙ ap sealed (ap (take check_at) ez ∙ all ∙ ap (λ (l : List ℕ). l ++ replicate 28 0) (sym (zero-words place_count)))

module _ (b : List ℕ) (long : length b ≡ block_size) (byte : Bytes b) where
  words : List ℕ
  words = word_bytes place_count (block_words b)

  long_words : length words ≡ words_end
  unfolding words
  long_words = length-word_bytes place_count (block_words b)

  rest : List ℕ
  rest = drop words_end b

  in_parts : b ≡ words ++ rest
  unfolding words rest block_words
  in_parts = sym (take-append-drop words_end b) ∙ ap (λ (l : List ℕ). l ++ drop words_end b) (sym (words_same place_count b 0 byte (omega arith)))

  -- one word is another
  pub word_put : (i v : ℕ) {n z x : List ℕ} → i < place_count → n ≡ laid b (i * 4) (bytes 4 v) → z ≡ laid n words_end (replicate 28 0) → x ≡ sealed (take check_at z)
      → x ≡ word_block (set (block_words b) i v)
  unfolding word_block words rest block_words
  word_put i v {n} {z} l en ez p =
      let put : List ℕ = laid words (i * 4) (bytes 4 v) in
      let size : length put ≡ words_end = length-laid words (i * 4) (bytes 4 v) ∙ long_words in
      let one : n ≡ put ++ rest = en ∙ ap (λ (s : List ℕ). laid s (i * 4) (bytes 4 v)) in_parts ∙ laid-before words rest (i * 4) (bytes 4 v) (omega (arith, long_words)) in
      let there : words_end ≡ length put + 0 = omega (arith, size) in
      let clear : z ≡ put ++ (replicate 28 0 ++ drop 28 rest) =
      ez
      ∙ ap₂ (λ (s : List ℕ) (k : ℕ). laid s k (replicate 28 0)) one there
      ∙ laid_behind put rest 0 (replicate 28 0)
      ∙ ap (λ (s : List ℕ). put ++ s) (laid_front rest (replicate 28 0) (omega (arith, length-drop words_end b))) in
      let count : length (words_at place_count b 0) ≡ place_count = length-words_at place_count b 0 in
      p
      ∙ ap sealed
      (ap (take check_at) (clear ∙ sym (append_assoc put (replicate 28 0) (drop 28 rest)))
      ∙ take_at (put ++ replicate 28 0) (drop 28 rest) check_at (length-append put (replicate 28 0) ∙ omega (arith, size))
      ∙ ap (λ (s : List ℕ). s ++ replicate 28 0) (sym (run-put place_count (words_at place_count b 0) i v l (omega arith))))

  -- the same word laid into the bytes, with nothing sealed
  pub words-laid : (i v : ℕ) → i < place_count → v < 4294967296 → block_words (laid b (i * 4) (bytes 4 v)) ≡ set (block_words b) i v
  unfolding words rest block_words
  words-laid i v l small =
      let ws : List ℕ = set (words_at place_count b 0) i v in
      let count : length (words_at place_count b 0) ≡ place_count = length-words_at place_count b 0 in
      let put : laid b (i * 4) (bytes 4 v) ≡ word_bytes place_count ws ++ rest =
      ap (λ (s : List ℕ). laid s (i * 4) (bytes 4 v)) in_parts
      ∙ laid-before words rest (i * 4) (bytes 4 v) (omega (arith, long_words))
      ∙ ap (λ (s : List ℕ). s ++ rest) (sym (run-put place_count (words_at place_count b 0) i v l (omega arith))) in
      ap (λ (s : List ℕ). words_at place_count s 0) put
      ∙ words-spelled place_count ws [] rest 0 refl (set_words place_count (words_at place_count b 0) i v (words-bytes place_count b 0 byte) small)

  -- a store of what the block says already changes nothing
  pub word_block_same : sound b ≡ true → rest_zero b ≡ true → word_block (block_words b) ≡ b
  unfolding word_block words rest block_words
  word_block_same s zero =
      ap (λ (l : List ℕ). sealed (words ++ l)) (sym (zeros_are (part b words_end check_at) 28 (length_part b words_end check_at (omega arith)) zero))
      ∙ ap sealed (ap (λ (l : List ℕ). l ++ part b words_end check_at) (words_same place_count b 0 byte (omega arith)) ∙ sym (take-add words_end 28 b))
      ∙ sealed_same b long byte s
