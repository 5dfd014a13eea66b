-- The entries that count are right in the whole index exactly if they are in each of its blocks. Assumes nothing.
use Prim.Native.Nat.{ℕ, ◌+◌, ◌-◌, ◌*◌, ◌/◌, ◌%◌, ◌≤◌, ◌<◌}
use mathlib.Core.Bool.{true}
use mathlib.Core.List.{List}
use mathlib.Core.Logic.{◌≢◌, ⊎_elim}
use mathlib.Core.Path.{◌≡◌, sym, ap, ◌∙◌}
use native.Mathlib.Omega.{arith}
use lib.Dec.{eqb}
use lib.ListN.{drop, length, get_or, length-drop, get_or-eq_default}
use lib.Seq.{ext_get_or, take_all}
use borrow.Author.Tests.{eqb-true, eqb-false}
use Rattle.octets.specs.Be.{be_at}
use Rattle.octets.specs.Part.{part}
use Rattle.octets.specs.Pick.{pick}
use Rattle.octets.proofs.Choice.{below_or_not, both_true, by_test, pick_all}
use Rattle.octets.proofs.Part.{length_part, part-at}
use Rattle.block.specs.Check.{block_size}
use Rattle.block.specs.Run.{words_at}
use Rattle.block.proofs.WordRun.{get_d_words_at, length-words_at, none_fit}
use Rattle.label_list.specs.Counting.{counting}
use Rattle.label_list.specs.Word.{lists_label}
use Rattle.label_list.proofs.Counting.{counting-length}
use Rattle.word_block.specs.Layout.{no_words, place_count, rest_zero, word_block}
use Rattle.word_block.proofs.Written.{word_block-rest, word_block-sound, words-word_block}
use Rattle.block0.specs.declared.Version.{Version}
use Rattle.block0.specs.declared.Version.TheVariants.{One, Two}
use Rattle.block0.specs.Layout.{labels_at, labels_by, places}
use Rattle.fec_index.specs.Entries.{EntriesGood, all_entries, entries_of, entries_ok, entry_count, entry_ok, words_beside}
use Rattle.fec_index.proofs.Counted.{all_each, each_all, listed_at, listed_beside, none_all, none_right}
use Rattle.fec_index.proofs.Paired.{length_entries}
use Rattle.image.specs.Sizes.{block, index_block}
use Rattle.image.specs.State.{entry_block, stored_index}
use Rattle.image.proofs.Entries.{index_at}
use Rattle.image.proofs.Ranges.{words_count}

-- every entry that counts under these words is right
abbrev pub Right : List ℕ → List ℕ → Type 0
Right ls image = (i : ℕ) → entry_ok (get_or (counting 0 lists_label ls (stored_index image)) i 0) ≡ true

module _ (ls image : List ℕ) where
  pub same_at : (k i : ℕ) → k < 2 → i < entry_count
      → get_or (counting 0 lists_label (words_beside k ls) (entries_of (block image (index_block + k)))) i 0 ≡ get_or (counting 0 lists_label ls (stored_index image)) (k * entry_count + i) 0
  same_at k i two l =
      let b : entry_block (k * entry_count + i) ≡ index_block + k = omega arith in
      let r : (k * entry_count + i) % entry_count ≡ i = omega arith in
      let there : get_or (stored_index image) (k * entry_count + i) 0 ≡ get_or (entries_of (block image (index_block + k))) i 0 = index_at image (k * entry_count + i) (omega arith) ∙ rw (b, r) in
      listed_beside k ls (entries_of (block image (index_block + k))) i l
      ∙ ap (λ (x : ℕ). pick (lists_label (get_or ls (k * entry_count + i) 0)) x 0) (sym there)
      ∙ sym (listed_at ls (stored_index image) (k * entry_count + i))

  pub right_block : (k : ℕ) → k < 2 → rest_zero (block image (index_block + k)) ≡ true → Right ls image → entries_ok (words_beside k ls) (block image (index_block + k)) ≡ true
  unfolding entries_ok
  right_block k two rest right =
      let xs : List ℕ = entries_of (block image (index_block + k)) in
      rw rest (each_all (counting 0 lists_label (words_beside k ls) xs) (λ i.
      ⊎_elim
      (λ (l : i < entry_count). rw (same_at k i two l) (right (k * entry_count + i)))
      (λ (past : entry_count ≤ i).
      rw (listed_at (words_beside k ls) xs i, get_or-eq_default xs 0 {n = i} (omega (arith, length_entries (block image (index_block + k)))))
      (pick_all (λ (e : ℕ). entry_ok e ≡ true) (lists_label (get_or (words_beside k ls) i 0)) none_right none_right))
      (below_or_not i entry_count)))

  pub block_right : length ls ≤ place_count → ((k : ℕ) → k < 2 → entries_ok (words_beside k ls) (block image (index_block + k)) ≡ true) → Right ls image
  unfolding entries_ok
  block_right n each i =
      ⊎_elim
      (λ (l : i < place_count).
      let there : i / entry_count * entry_count + i % entry_count ≡ i = omega arith in
      let two : i / entry_count < 2 = omega arith in
      let b : List ℕ = block image (index_block + i / entry_count) in
      let all : all_entries (counting 0 lists_label (words_beside (i / entry_count) ls) (entries_of b)) ≡ true = (both_true (rest_zero b) _ (each (i / entry_count) two)).1 in
      rw there at (rw (same_at (i / entry_count) (i % entry_count) two (omega arith)) at (all_each _ all (i % entry_count))))
      (λ (past : place_count ≤ i).
      rw (get_or-eq_default (counting 0 lists_label ls (stored_index image)) 0 {n = i} (omega (arith, counting-length 0 lists_label ls (stored_index image)))) none_right)
      (below_or_not i place_count)

-- ---- an empty block is good beside any words
pub empty_good : (ws : List ℕ) → EntriesGood ws (word_block no_words)
unfolding entries_ok
empty_good ws = record {
  check = word_block-sound no_words;
  fields = rw (word_block-rest no_words) (none_all ws (word_block no_words) (words-word_block no_words (none_fit place_count)));
}

-- ---- labels only fewer: each word that lists one listed one
pub right_fewer : (ls ws image : List ℕ) → ((i : ℕ) → lists_label (get_or ls i 0) ≡ true → lists_label (get_or ws i 0) ≡ true) → Right ws image → Right ls image
right_fewer ls ws image f right i =
    rw (listed_at ls (stored_index image) i)
    (by_test (lists_label (get_or ls i 0))
    (λ t. rw t (rw (listed_at ws (stored_index image) i, f i t) at (right i)))
    (λ n. rw n none_right))

-- ---- the words beside a block, by the bytes of block 0
words-part : (n : ℕ) (s : List ℕ) (at i m : ℕ) → i + m ≤ n → part (words_at n s at) i (i + m) ≡ words_at m s (at + i * 4)
words-part n s at i m room =
    let long : length (part (words_at n s at) i (i + m)) ≡ m = length_part (words_at n s at) i (i + m) (omega (arith, length-words_at n s at)) ∙ omega arith in
    ext_get_or 0 (part (words_at n s at) i (i + m)) (words_at m s (at + i * 4)) (long ∙ sym (length-words_at m s (at + i * 4))) (λ j l.
    part-at (words_at n s at) i (i + m) j (omega arith)
    ∙ get_d_words_at n s at (i + j) (omega arith)
    ∙ ap (be_at 4 s) (omega arith)
    ∙ sym (get_d_words_at m s (at + i * 4) j (omega arith)))

pub places-room : (v : Version) → (entry_count ≤ places v) × (places v ≤ place_count)
places-room One = (omega arith, omega arith)
places-room Two = (omega arith, omega arith)

-- beside the second: all that are left
last_beside : (ws : List ℕ) → length ws ≤ place_count → words_beside 1 ws ≡ part ws entry_count (length ws)
last_beside ws n =
    let long : length (drop entry_count ws) ≤ entry_count = omega (arith, length-drop entry_count ws) in
    take_all entry_count (drop entry_count ws) long ∙ sym (take_all (length ws - entry_count) (drop entry_count ws) (omega (arith, length-drop entry_count ws)))

beside_at : (v : Version) (z : List ℕ) (k : ℕ) → k < 2 → {n : ℕ} → n ≡ pick (eqb k 0) entry_count (places v - entry_count)
    → words_beside k (labels_by v z) ≡ words_at n z (labels_at v + k * 240)
unfolding labels_by
beside_at v z k two en =
    let room = places-room v in
    by_test (eqb k 0)
    (λ t.
    let none : k ≡ 0 = eqb-true k 0 t in
    rw (en, t, none) (words-part (places v) z (labels_at v) 0 entry_count (omega (arith, room.0))))
    (λ f.
    let one : k ≡ 1 = (let d : k ≢ 0 = eqb-false k 0 f in omega arith) in
    let count : length (labels_by v z) ≡ places v = words_count v z in
    let all : places v ≡ entry_count + (places v - entry_count) = omega (arith, room.0) in
    rw (en, f, one)
    (last_beside (labels_by v z) (omega (arith, count, room.1))
    ∙ ap (λ (e : ℕ). part (labels_by v z) entry_count e) (count ∙ all)
    ∙ words-part (places v) z (labels_at v) entry_count (places v - entry_count) (omega (arith, room.0))))

pub beside_read : (v : Version) (z : List ℕ) (k : ℕ) → k < 2 → {n at : ℕ} → n ≡ pick (eqb k 0) entry_count (places v - entry_count) → at ≡ labels_at v
    → words_at n z (at + k * 240) ≡ words_beside k (labels_by v z)
beside_read v z k two {n} en ea = ap (λ (a : ℕ). words_at n z (a + k * 240)) ea ∙ sym (beside_at v z k two en)

-- they stand before the check
pub beside_room : (v : Version) (k n : ℕ) → k < 2 → n ≡ pick (eqb k 0) entry_count (places v - entry_count) → labels_at v + k * 240 + n * 4 ≤ block_size
beside_room v k n two en =
    by_test (eqb k 0)
    (λ t. let none : k ≡ 0 = eqb-true k 0 t in first_room v (rw t at en) none)
    (λ f. let one : k ≡ 1 = (let d : k ≢ 0 = eqb-false k 0 f in omega arith) in last_room v (rw f at en) one)
  where
    first_room : (w : Version) → n ≡ entry_count → k ≡ 0 → labels_at w + k * 240 + n * 4 ≤ block_size
    first_room One count none = omega arith
    first_room Two count none = omega arith

    last_room : (w : Version) → n ≡ places w - entry_count → k ≡ 1 → labels_at w + k * 240 + n * 4 ≤ block_size
    last_room One count one = omega arith
    last_room Two count one = omega arith
