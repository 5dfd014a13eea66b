-- The index of prefixes as an image stores it: an entry by its place, one that is put, and what a cut after it leaves. Assumes nothing.
use Prim.Native.Nat.{ℕ, ◌+◌, ◌-◌, ◌*◌, ◌%◌, ◌≤◌, ◌<◌}
use mathlib.Core.Bool.{false}
use mathlib.Core.List.{List, [], ◌++◌, append-nil}
use mathlib.Core.Logic.{◌≢◌, ⊎_elim}
use mathlib.Core.Path.{◌≡◌, sym, ap, ap₂, ◌∙◌}
use native.Mathlib.Omega.{arith}
use lib.Dec.{eqb}
use lib.ListN.{drop, length, get_or, set, take, drop_of_length-le, length-append, length-drop, get_or-append}
use lib.Seq.{drop-append_seam, ext_get_or, get_or-set_same, get_or-set_other, take-append_seam}
use borrow.Author.Tests.{eqb-true, eqb-false}
use Rattle.octets.specs.Pick.{pick}
use Rattle.octets.proofs.Choice.{below_or_not, by_test}
use Rattle.block.specs.Check.{block_size}
use Rattle.label_list.specs.Counting.{counting}
use Rattle.label_list.specs.Requests.{open_ids}
use Rattle.label_list.specs.Word.{lists_label}
use Rattle.label_list.proofs.Counting.{counting_dead, counting-length}
use Rattle.word_block.specs.Layout.{block_words, place_count, word_block}
use Rattle.word_block.proofs.Written.{length-word_block}
use Rattle.block0.specs.Layout.{slot_count}
use Rattle.fec_index.specs.Entries.{entries_of, entry_count, word_span, pair_joined, pair_put}
use Rattle.fec_index.proofs.Counted.{listed_at}
use Rattle.fec_index.proofs.Paired.{length_entries}
use Rattle.fec_index.proofs.Written.{entries_put, entry-word_block, put_count}
use Rattle.slot.specs.Layout.{slot_message}
use Rattle.image.specs.Sizes.{block, block_of, image_size, index_block, request_block, slot_at}
use Rattle.image.specs.State.{decode, entry_block, slots_of, store_entry, stored_ids, stored_index}
use Rattle.image.proofs.Blocks.{block-other, block-put, length-put}
use Rattle.image.proofs.Ranges.{labels-count}
use Rattle.image.proofs.Scans.{behind}
use Rattle.image.proofs.Stored.{decode_same}

-- ---- an entry by its place
pub index-count : (image : List ℕ) → length (stored_index image) ≡ place_count
unfolding stored_index
index-count image =
    length-append (entries_of (block image index_block)) (entries_of (block image (index_block + 1)))
    ∙ ap₂ (λ (x y : ℕ). x + y) (length_entries (block image index_block)) (length_entries (block image (index_block + 1)))

pub index_at : (image : List ℕ) (i : ℕ) → i < place_count → get_or (stored_index image) i 0 ≡ get_or (entries_of (block image (entry_block i))) (i % entry_count) 0
unfolding stored_index
index_at image i l =
    let n : length (entries_of (block image index_block)) ≡ entry_count = length_entries (block image index_block) in
    ⊎_elim
    (λ (low : i < entry_count).
    let b : entry_block i ≡ index_block = omega arith in
    let r : i % entry_count ≡ i = omega arith in
    rw (b, r) (get_or-append (entries_of (block image index_block)) (entries_of (block image (index_block + 1))) 0 i (omega (arith, n))))
    (λ (high : entry_count ≤ i).
    let b : entry_block i ≡ index_block + 1 = omega arith in
    let r : i % entry_count ≡ i - entry_count = omega arith in
    let there : i ≡ length (entries_of (block image index_block)) + (i - entry_count) = omega (arith, n) in
    ap (λ (k : ℕ). get_or (entries_of (block image index_block) ++ entries_of (block image (index_block + 1))) k 0) there
    ∙ behind (entries_of (block image index_block)) (entries_of (block image (index_block + 1))) (i - entry_count)
    ∙ rw (b, r))
    (below_or_not i entry_count)

-- the entries of the one block read into the first half of a slice, those of the other into the second
pub halves_read : (image es : List ℕ) {x y : List ℕ} → length es ≡ place_count → x ≡ entries_of (block image index_block) → y ≡ entries_of (block image (index_block + 1))
    → take entry_count (x ++ drop entry_count es) ++ (y ++ drop entry_count (drop entry_count (x ++ drop entry_count es))) ≡ stored_index image
unfolding stored_index
halves_read image es {x} {y} long ex ey =
    let n : length x ≡ entry_count = ap length ex ∙ length_entries (block image index_block) in
    let t : List ℕ = drop entry_count es in
    let front : take entry_count (x ++ t) ≡ x = ap (λ (k : ℕ). take k (x ++ t)) (sym n) ∙ take-append_seam x t in
    let back : drop entry_count (x ++ t) ≡ t = ap (λ (k : ℕ). drop k (x ++ t)) (sym n) ∙ drop-append_seam x t in
    let none : drop entry_count t ≡ [] = drop_of_length-le t {i = entry_count} (omega (arith, length-drop entry_count es)) in
    rw (front, back, none, append-nil y, ex, ey)

-- each entry that counts has its width
abbrev pub Wide : List ℕ → Type 0
Wide xs = (i : ℕ) → get_or xs i 0 < word_span * word_span

-- ---- block 66 or 67 alone
module _ (image : List ℕ) (size : length image ≡ image_size) (place : ℕ) (room : place < place_count) (entry : ℕ) where
  inside : entry_block place * block_size + block_size ≤ length image
  inside = omega arith

  put : List ℕ
  put = pair_put (block_words (block image (entry_block place))) (place % entry_count) entry

  pub length-store_entry : length (store_entry image place entry) ≡ image_size
  unfolding store_entry
  length-store_entry = length-put image (entry_block place) _ ∙ size

  pub entry-put : block (store_entry image place entry) (entry_block place) ≡ word_block (pair_put (block_words (block image (entry_block place))) (place % entry_count) entry)
  unfolding store_entry
  entry-put = block-put image (entry_block place) (word_block (pair_put (block_words (block image (entry_block place))) (place % entry_count) entry)) inside (length-word_block _)

  -- every other block keeps its bytes
  pub entry_other : (c : ℕ) → c ≢ entry_block place → block (store_entry image place entry) c ≡ block image c
  unfolding store_entry
  entry_other c apart = block-other image (entry_block place) (word_block (pair_put (block_words (block image (entry_block place))) (place % entry_count) entry)) inside (length-word_block _) c apart

  pub slots-store_entry : (j : ℕ) → j < slot_count → slots_of (store_entry image place entry) j ≡ slots_of image j
  unfolding slots_of
  slots-store_entry j l = ap slot_message (entry_other (block_of j) (omega arith))

  pub ids-store_entry : stored_ids (store_entry image place entry) ≡ stored_ids image
  unfolding stored_ids
  ids-store_entry = ap block_words (entry_other request_block (omega arith))

  low : place % entry_count < entry_count
  low = omega arith

  -- an entry of the block written, that has its width
  own_at : (i : ℕ) → i < place_count → entry_block i ≡ entry_block place → get_or (set (entries_of (block image (entry_block place))) (place % entry_count) entry) (i % entry_count) 0 < word_span * word_span
      → get_or (stored_index (store_entry image place entry)) i 0 ≡ get_or (set (entries_of (block image (entry_block place))) (place % entry_count) entry) (i % entry_count) 0
  own_at i l same small =
      let b : List ℕ = block image (entry_block place) in
      let e : pair_joined (pair_put (block_words b) (place % entry_count) entry) ≡ set (entries_of b) (place % entry_count) entry = entries_put b (place % entry_count) entry low in
      index_at (store_entry image place entry) i l
      ∙ ap (λ (k : ℕ). get_or (entries_of (block (store_entry image place entry) k)) (i % entry_count) 0) same
      ∙ ap (λ (x : List ℕ). get_or (entries_of x) (i % entry_count) 0) entry-put
      ∙ entry-word_block (pair_put (block_words b) (place % entry_count) entry) (put_count b (place % entry_count) entry low) (i % entry_count) (omega arith) (rw e small)
      ∙ ap (λ (xs : List ℕ). get_or xs (i % entry_count) 0) e

  pub stored_at : (i : ℕ) → i < place_count → get_or (set (stored_index image) place entry) i 0 < word_span * word_span
      → get_or (stored_index (store_entry image place entry)) i 0 ≡ get_or (set (stored_index image) place entry) i 0
  stored_at i l small =
      let b : List ℕ = block image (entry_block place) in
      by_test (eqb i place)
      (λ t.
      let e : i ≡ place = eqb-true i place t in
      let r : i % entry_count ≡ place % entry_count = ap (λ (k : ℕ). k % entry_count) e in
      let s : entry_block i ≡ entry_block place = ap entry_block e in
      let left : get_or (set (entries_of b) (place % entry_count) entry) (i % entry_count) 0 ≡ entry =
      rw r (get_or-set_same (entries_of b) (place % entry_count) entry 0 (omega (arith, length_entries b))) in
      let right : get_or (set (stored_index image) place entry) i 0 ≡ entry = rw e (get_or-set_same (stored_index image) place entry 0 (omega (arith, index-count image))) in
      own_at i l s (rw left (rw right at small)) ∙ left ∙ sym right)
      (λ f.
      let apart : i ≢ place = eqb-false i place f in
      let right : get_or (set (stored_index image) place entry) i 0 ≡ get_or (entries_of (block image (entry_block i))) (i % entry_count) 0 =
      get_or-set_other (stored_index image) place i entry 0 apart ∙ index_at image i l in
      by_test (eqb (entry_block i) (entry_block place))
      (λ t.
      let s : entry_block i ≡ entry_block place = eqb-true (entry_block i) (entry_block place) t in
      let d : i % entry_count ≢ place % entry_count = omega arith in
      let left : get_or (set (entries_of b) (place % entry_count) entry) (i % entry_count) 0 ≡ get_or (entries_of (block image (entry_block i))) (i % entry_count) 0 =
      get_or-set_other (entries_of b) (place % entry_count) (i % entry_count) entry 0 d ∙ ap (λ (k : ℕ). get_or (entries_of (block image k)) (i % entry_count) 0) (sym s) in
      own_at i l s (rw left (rw right at small)) ∙ left ∙ sym right)
      (λ n. index_at (store_entry image place entry) i l
      ∙ ap (λ (x : List ℕ). get_or (entries_of x) (i % entry_count) 0) (entry_other (entry_block i) (eqb-false (entry_block i) (entry_block place) n)) ∙ sym right))

  -- the entries that count under some words: those that the blocks bear and the new one
  pub listed-store_entry : (ls : List ℕ) → length ls ≤ place_count → Wide (counting 0 lists_label ls (set (stored_index image) place entry))
      → counting 0 lists_label ls (stored_index (store_entry image place entry)) ≡ counting 0 lists_label ls (set (stored_index image) place entry)
  listed-store_entry ls n wide =
      ext_get_or 0 (counting 0 lists_label ls (stored_index (store_entry image place entry))) (counting 0 lists_label ls (set (stored_index image) place entry))
      (counting-length 0 lists_label ls (stored_index (store_entry image place entry)) ∙ sym (counting-length 0 lists_label ls (set (stored_index image) place entry)))
      (λ i l.
      let here : i < place_count = omega (arith, counting-length 0 lists_label ls (stored_index (store_entry image place entry))) in
      let there : get_or (counting 0 lists_label ls (set (stored_index image) place entry)) i 0 ≡ pick (lists_label (get_or ls i 0)) (get_or (set (stored_index image) place entry) i 0) 0 =
      listed_at ls (set (stored_index image) place entry) i in
      listed_at ls (stored_index (store_entry image place entry)) i
      ∙ by_test (lists_label (get_or ls i 0))
      (λ t. rw t (stored_at i here (rw (there, t) at (wide i))))
      (λ f. rw f)
      ∙ sym there)

  -- 02: "so a cut leaves the old state": the entry does not count yet
  pub listed_dead : lists_label (get_or (decode image).labels place 0) ≡ false → counting 0 lists_label (decode image).labels (set (stored_index image) place entry) ≡ (decode image).index
  unfolding decode
  listed_dead dead = counting_dead 0 lists_label (decode image).labels (stored_index image) place entry dead

  ids_kept : open_ids (decode image).labels (stored_ids (store_entry image place entry)) ≡ (decode image).ids
  unfolding decode
  ids_kept = ap (open_ids (decode image).labels) ids-store_entry

  pub decode-entry : Wide (decode image).index → lists_label (get_or (decode image).labels place 0) ≡ false → decode (store_entry image place entry) ≡ decode image
  decode-entry wide dead =
      decode_same (store_entry image place entry) image (entry_other 0 (omega arith)) ids_kept
      (listed-store_entry (decode image).labels (omega (arith, labels-count image)) (rw (listed_dead dead) wide) ∙ listed_dead dead)
      (λ i l. slots-store_entry (slot_at (decode image).header.first i) (omega arith))
