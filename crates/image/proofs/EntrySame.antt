-- An entry that stands at its place already changes nothing, and any other changes the bytes of its block. Assumes nothing.
use Prim.Native.Nat.{ℕ, ◌+◌, ◌*◌, ◌/◌, ◌%◌, ◌<◌}
use mathlib.Core.Bool.{true}
use mathlib.Core.List.{List}
use mathlib.Core.Logic.{◌≢◌}
use mathlib.Core.Path.{◌≡◌, sym, ap, ◌∙◌}
use native.Mathlib.Omega.{arith}
use lib.ListN.{length, get_or, set}
use lib.Seq.{get_or-set_same, set-get_or}
use Rattle.octets.specs.Bytes.{Bytes}
use Rattle.octets.specs.Differ.{differ}
use Rattle.octets.proofs.Choice.{both_true, by_test}
use Rattle.octets.proofs.Differ.{differ_false}
use Rattle.block.specs.Check.{block_size, sound}
use Rattle.word_block.specs.Layout.{block_words, place_count, rest_zero}
use Rattle.word_block.proofs.Same.{word_block_same}
use Rattle.word_block.proofs.Wide.{words-bytes}
use Rattle.fec_index.specs.Entries.{entries_of, entries_ok, entry_count, word_span, pair_put}
use Rattle.fec_index.proofs.Paired.{entry-at}
use Rattle.image.specs.Sizes.{block, image_size, with_block}
use Rattle.image.specs.State.{entry_block, store_entry, stored_index}
use Rattle.image.specs.Verdict.{IsSound}
use Rattle.image.proofs.Blocks.{length-block, put_same}
use Rattle.image.proofs.Entries.{index_at, index-count, stored_at}
use Rattle.image.proofs.Ranges.{bytes-block}
use Rattle.image.proofs.Sound.{sound_entries}

-- the two words of an entry, put where they stand
pair_same : (b : List ℕ) (i : ℕ) → Bytes b → i < entry_count → pair_put (block_words b) i (get_or (entries_of b) i 0) ≡ block_words b
unfolding block_words
pair_same b i byte l =
    let ws : List ℕ = block_words b in
    let x : ℕ = get_or ws (i * 2) 0 in
    let y : ℕ = get_or ws (i * 2 + 1) 0 in
    let small : y < word_span = (words-bytes place_count b 0 byte).each (i * 2 + 1) in
    let upper : (x * word_span + y % word_span) / word_span ≡ x = omega arith in
    let lower : (x * word_span + y % word_span) % word_span ≡ y = omega arith in
    rw (entry-at b i l, upper, lower) (ap (λ (s : List ℕ). set s (i * 2 + 1) y) (set-get_or ws (i * 2) 0) ∙ set-get_or ws (i * 2 + 1) 0)

module _ (image : List ℕ) (place entry : ℕ) (room : place < place_count) where
  -- the block of a place passes its check, and has zeros after the places
  block-whole : IsSound image → (sound (block image (entry_block place)) ≡ true) × (rest_zero (block image (entry_block place)) ≡ true)
  unfolding entries_ok
  block-whole s =
      let two : place / entry_count < 2 = omega arith in
      let good = sound_entries s (place / entry_count) two in
      (good.check, (both_true (rest_zero (block image (entry_block place))) _ good.fields).0)

  pub entry_same : IsSound image → Bytes image → get_or (stored_index image) place 0 ≡ entry → store_entry image place entry ≡ image
  unfolding store_entry
  entry_same s byte same =
      let b : List ℕ = block image (entry_block place) in
      let long : length b ≡ block_size = length-block image (entry_block place) (omega (arith, s.size)) in
      let there : get_or (entries_of b) (place % entry_count) 0 ≡ entry = sym (index_at image place room) ∙ same in
      rw (← there, pair_same b (place % entry_count) (bytes-block image (entry_block place) byte) (omega arith))
      (ap (with_block image (entry_block place)) (word_block_same b long (bytes-block image (entry_block place) byte) (block-whole s).0 (block-whole s).1)
      ∙ put_same image (entry_block place) (omega (arith, s.size)))

  -- any other changes the bytes of its block
  pub entry-changed : length image ≡ image_size → entry < word_span * word_span → get_or (stored_index image) place 0 ≢ entry
      → true ≡ differ (block image (entry_block place)) (block (store_entry image place entry) (entry_block place))
  entry-changed size small other =
      let put : get_or (set (stored_index image) place entry) place 0 ≡ entry = get_or-set_same (stored_index image) place entry 0 (omega (arith, index-count image)) in
      by_test (differ (block image (entry_block place)) (block (store_entry image place entry) (entry_block place))) sym (λ same.
      let e : block image (entry_block place) ≡ block (store_entry image place entry) (entry_block place) =
      differ_false (block image (entry_block place)) (block (store_entry image place entry) (entry_block place)) same in
      absurd (other
      (index_at image place room
      ∙ ap (λ (b : List ℕ). get_or (entries_of b) (place % entry_count) 0) e
      ∙ sym (index_at (store_entry image place entry) place room)
      ∙ stored_at image size place room entry place room (rw put small)
      ∙ put)))
