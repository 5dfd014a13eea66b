-- A block that was written, where only some words have their width: those are read back. Assumes nothing.
use Prim.Native.Nat.{ℕ, zero, suc, ◌%◌, ◌<◌, ◌/◌}
use mathlib.Core.List.{List, [], ◌∷◌, ◌++◌, map}
use mathlib.Core.Path.{◌≡◌, refl, sym, ap, ap₂, ◌∙◌}
use native.Mathlib.Nat.{mod-eq_of_lt}
use native.Mathlib.Omega.{arith}
use lib.ListN.{length, get_or, replicate, length-map, get_or-map}
use Rattle.octets.specs.Be.{bytes}
use Rattle.block.specs.Check.{sealed}
use Rattle.block.specs.Run.{spelled, word_bytes, Words}
use Rattle.word_block.specs.Layout.{place_count, block_words, word_block}
use Rattle.word_block.proofs.Written.{words-word_block}

-- the low 32 bits
low : ℕ → ℕ
low v = v % 4294967296

-- they are what a word of four bytes bears
bytes_low : (v : ℕ) → bytes 4 (low v) ≡ bytes 4 v
unfolding low
bytes_low v =
    let a : low v / 256 / 256 / 256 % 256 ≡ v / 256 / 256 / 256 % 256 = omega arith in
    let b : low v / 256 / 256 % 256 ≡ v / 256 / 256 % 256 = omega arith in
    let c : low v / 256 % 256 ≡ v / 256 % 256 = omega arith in
    let d : low v % 256 ≡ v % 256 = omega arith in
    rw (a, b, c, d)

spelled_low : (n : ℕ) (ws : List ℕ) → spelled (replicate n 4) (map low ws) ≡ spelled (replicate n 4) ws
unfolding spelled low
spelled_low zero ws = refl
spelled_low (suc n) [] = refl
spelled_low (suc n) (x ∷ ws) = ap₂ (λ (p q : List ℕ). p ++ q) (bytes_low x) (spelled_low n ws)

module _ (ws : List ℕ) (count : length ws ≡ place_count) where
  word_block_low : word_block (map low ws) ≡ word_block ws
  unfolding word_block word_bytes
  word_block_low = ap (λ (p : List ℕ). sealed (p ++ replicate 28 0)) (spelled_low place_count ws)

  low_words_lem : Words place_count (map low ws)
  unfolding low
  low_words_lem = record { count = length-map ws low ∙ count; each = λ i. rw (get_or-map low ws i 0) (omega arith) }

  -- of each word its low 32 bits are read back
  pub word_low : (i : ℕ) → get_or (block_words (word_block ws)) i 0 ≡ get_or ws i 0 % 4294967296
  unfolding low
  word_low i =
      ap (λ (b : List ℕ). get_or (block_words b) i 0) (sym word_block_low)
      ∙ ap (λ (l : List ℕ). get_or l i 0) (words-word_block (map low ws) low_words_lem)
      ∙ get_or-map low ws i 0

  -- so a word that has its width is read back
  pub word_word_block : (i : ℕ) → get_or ws i 0 < 4294967296 → get_or (block_words (word_block ws)) i 0 ≡ get_or ws i 0
  word_word_block i small = word_low i ∙ mod-eq_of_lt small
