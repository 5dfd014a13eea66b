-- A block of entries that was written: those that have their width are read back. Assumes nothing.
use Prim.Native.Nat.{ℕ, ◌+◌, ◌*◌, ◌/◌, ◌%◌, ◌<◌}
use mathlib.Core.List.{List}
use mathlib.Core.Path.{◌≡◌, sym, ap, ◌∙◌}
use native.Mathlib.Omega.{arith}
use lib.ListN.{length, get_or, set, length-set}
use Rattle.octets.specs.Be.{bytes}
use Rattle.octets.specs.Bytes.{Bytes}
use Rattle.octets.specs.Laid.{laid}
use Rattle.block.specs.Check.{block_size}
use Rattle.word_block.specs.Layout.{block_words, place_count, word_block}
use Rattle.word_block.proofs.Lent.{word_low}
use Rattle.word_block.proofs.Same.{words-laid}
use Rattle.word_block.proofs.Written.{length-words}
use Rattle.fec_index.specs.Entries.{entry_count, entries_of, word_span, pair_joined, pair_put}
use Rattle.fec_index.proofs.Paired.{entry-at, joined_at, joined_put}

module _ (ws : List ℕ) (count : length ws ≡ place_count) where
  -- an entry that has its width is read back
  pub entry-word_block : (i : ℕ) → i < entry_count → get_or (pair_joined ws) i 0 < word_span * word_span → get_or (entries_of (word_block ws)) i 0 ≡ get_or (pair_joined ws) i 0
  entry-word_block i l small =
      let x : ℕ = get_or ws (i * 2) 0 in
      let y : ℕ = get_or ws (i * 2 + 1) 0 in
      let there : get_or (pair_joined ws) i 0 ≡ x * word_span + y % word_span = joined_at ws i (omega (arith, count)) in
      let upper : x % word_span ≡ x = omega (arith, there) in
      let lower : y % word_span % word_span ≡ y % word_span = omega arith in
      entry-at (word_block ws) i l
      ∙ rw (word_low ws count (i * 2), word_low ws count (i * 2 + 1), upper, lower) (sym there)

module _ (b : List ℕ) (i e : ℕ) (l : i < entry_count) where
  pub put_count : length (pair_put (block_words b) i e) ≡ place_count
  put_count = length-set (set (block_words b) (i * 2) (e / word_span)) (i * 2 + 1) (e % word_span) ∙ length-set (block_words b) (i * 2) (e / word_span) ∙ length-words b

  pub entries_put : pair_joined (pair_put (block_words b) i e) ≡ set (entries_of b) i e
  unfolding entries_of
  entries_put = joined_put (block_words b) i e (omega (arith, length-words b))

-- the upper word laid, then the lower one written
pub pair_written : (b : List ℕ) → length b ≡ block_size → Bytes b → (i e : ℕ) → i < entry_count → e / word_span < word_span → {n x : List ℕ}
    → n ≡ laid b (i * 8) (bytes 4 (e / word_span)) → x ≡ word_block (set (block_words n) (i * 2 + 1) (e % word_span)) → x ≡ word_block (pair_put (block_words b) i e)
pair_written b long byte i e l small en ex =
    let at : i * 2 * 4 ≡ i * 8 = omega arith in
    let laid_in : block_words (laid b (i * 8) (bytes 4 (e / word_span))) ≡ set (block_words b) (i * 2) (e / word_span) =
    ap (λ (k : ℕ). block_words (laid b k (bytes 4 (e / word_span)))) (sym at) ∙ words-laid b long byte (i * 2) (e / word_span) (omega arith) small in
    ex ∙ ap (λ (s : List ℕ). word_block (set s (i * 2 + 1) (e % word_span))) (ap block_words en ∙ laid_in)
