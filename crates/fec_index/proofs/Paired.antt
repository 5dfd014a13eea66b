-- Pairs of words: an entry by its words; one that is put is the one at its place, and no other is another. Assumes nothing.
use Prim.Native.Nat.{ℕ, zero, suc, ◌+◌, ◌*◌, ◌/◌, ◌%◌, ◌≤◌, ◌<◌}
use mathlib.Core.List.{List, [], ◌∷◌}
use mathlib.Core.Logic.{⊎_elim}
use mathlib.Core.Path.{◌≡◌, refl, sym, ap, ◌∙◌}
use native.Mathlib.Omega.{arith}
use lib.ListN.{length, get_or, set, get_or-eq_default}
use Rattle.octets.proofs.Choice.{below_or_not}
use Rattle.octets.proofs.Fill.{zeros_at}
use Rattle.word_block.specs.Layout.{block_words, no_words, place_count}
use Rattle.word_block.proofs.Written.{length-words}
use Rattle.fec_index.specs.Entries.{entry_count, word_span, pair_joined, pair_put, entries_of}

pub joined_length : (n : ℕ) (ws : List ℕ) → length ws ≡ n * 2 → length (pair_joined ws) ≡ n
unfolding pair_joined
joined_length zero [] h = refl
joined_length zero (x ∷ ws) h = absurd (omega arith)
joined_length (suc n) [] h = absurd (omega arith)
joined_length (suc n) (x ∷ []) h = absurd (omega arith)
joined_length (suc n) (x ∷ y ∷ ws) h = ap suc (joined_length n ws (omega arith))

-- the entry at a place, by its words
pub joined_at : (ws : List ℕ) (i : ℕ) → i * 2 + 1 < length ws → get_or (pair_joined ws) i 0 ≡ get_or ws (i * 2) 0 * word_span + get_or ws (i * 2 + 1) 0 % word_span
unfolding pair_joined
joined_at [] i h = absurd (omega arith)
joined_at (x ∷ []) i h = absurd (omega arith)
joined_at (x ∷ y ∷ ws) zero h = refl
joined_at (x ∷ y ∷ ws) (suc i) h =
    let a : suc i * 2 ≡ suc (suc (i * 2)) = omega arith in
    let b : suc i * 2 + 1 ≡ suc (suc (i * 2 + 1)) = omega arith in
    rw (b, a) (joined_at ws i (omega arith))

put-later : (x y : ℕ) (ws : List ℕ) (i e : ℕ) → pair_put (x ∷ y ∷ ws) (suc i) e ≡ x ∷ y ∷ pair_put ws i e
put-later x y ws i e =
    let a : suc i * 2 ≡ suc (suc (i * 2)) = omega arith in
    let b : suc i * 2 + 1 ≡ suc (suc (i * 2 + 1)) = omega arith in
    rw (b, a)

pub joined_put : (ws : List ℕ) (i e : ℕ) → i * 2 + 1 < length ws → pair_joined (pair_put ws i e) ≡ set (pair_joined ws) i e
unfolding pair_joined
joined_put [] i e h = absurd (omega arith)
joined_put (x ∷ []) i e h = absurd (omega arith)
joined_put (x ∷ y ∷ ws) zero e h = let whole : e / word_span * word_span + e % word_span % word_span ≡ e = omega arith in rw whole
joined_put (x ∷ y ∷ ws) (suc i) e h = rw (put-later x y ws i e) (ap (λ (l : List ℕ). (x * word_span + y % word_span) ∷ l) (joined_put ws i e (omega arith)))

-- ---- of a block
pub length_entries : (b : List ℕ) → length (entries_of b) ≡ entry_count
unfolding entries_of
length_entries b = joined_length entry_count (block_words b) (length-words b)

pub entry-at : (b : List ℕ) (i : ℕ) → i < entry_count → get_or (entries_of b) i 0 ≡ get_or (block_words b) (i * 2) 0 * word_span + get_or (block_words b) (i * 2 + 1) 0 % word_span
unfolding entries_of
entry-at b i l = joined_at (block_words b) i (omega (arith, length-words b))

-- by the two words that were read
pub entry_read : (b : List ℕ) (i : ℕ) {x y : ℕ} → i < entry_count → y < word_span → x ≡ get_or (block_words b) (i * 2) 0 → y ≡ get_or (block_words b) (i * 2 + 1) 0
    → x * word_span + y ≡ get_or (entries_of b) i 0
entry_read b i {x} {y} l small ex ey =
    let low : y % word_span ≡ y = omega arith in
    sym (entry-at b i l ∙ (rw (← ex, ← ey, low)))

-- of a block of no words there is none
pub entry_none : (b : List ℕ) → block_words b ≡ no_words → (i : ℕ) → get_or (entries_of b) i 0 ≡ 0
entry_none b none i =
    ⊎_elim
    (λ (l : i < entry_count). entry-at b i l ∙ rw (none, zeros_at place_count (i * 2), zeros_at place_count (i * 2 + 1)))
    (λ (past : entry_count ≤ i). get_or-eq_default (entries_of b) 0 {n = i} (omega (arith, length_entries b)))
    (below_or_not i entry_count)
