-- The entries that count, one by one: all of them are right exactly if each is, and each that is right has its width. Assumes nothing.
use Prim.Native.Nat.{ℕ, zero, suc, ◌+◌, ◌-◌, ◌*◌, ◌/◌, ◌≤◌, ◌<◌}
use mathlib.Core.Bool.{Bool, true, false, false≢true, not}
use mathlib.Core.List.{List, [], ◌∷◌}
use mathlib.Core.Logic.{⊎_elim}
use mathlib.Core.Path.{◌≡◌, refl, sym, ap, ◌∙◌}
use native.Mathlib.Nat.{zero-add}
use native.Mathlib.Omega.{arith}
use lib.Dec.{eqb}
use lib.ListN.{length, get_or, drop, replicate, drop_of_length-le, get_or-eq_default}
use lib.Seq.{drop-cons}
use borrow.Author.Tests.{eqb-true, not-true, not-false}
use Rattle.octets.specs.Be.{be_at}
use Rattle.octets.specs.Part.{part}
use Rattle.octets.specs.Pick.{pick, both}
use Rattle.octets.proofs.Choice.{below_or_not, both_true, by_test, pick_all}
use Rattle.octets.proofs.Fill.{zeros_at}
use Rattle.octets.proofs.Part.{part-at, part_inside}
use Rattle.block.specs.Check.{check_at, sound}
use Rattle.block.specs.Run.{words_at}
use Rattle.block.specs.Zeros.{all_zero}
use Rattle.block.proofs.WordRun.{get_d_words_at, length-words_at, zeros_words}
use Rattle.block.proofs.ZeroBytes.{bytes-zero, zero-bytes}
use Rattle.label_list.specs.declared.Side.TheVariants.{Given, Used}
use Rattle.label_list.specs.Counting.{counting}
use Rattle.label_list.specs.Word.{code_of, lists_label, on_side}
use Rattle.label_list.proofs.Counting.{counting-at, counting-length, counting_none}
use Rattle.word_block.specs.Layout.{block_words, is_empty, no_words, place_count, rest_zero, words_end}
use Rattle.fec_index.specs.Entries.{all_entries, entries_of, entries_ok, entry_count, entry_ok, word_span, is_entry, words_beside}
use Rattle.fec_index.proofs.Paired.{entry_none}

-- ---- what counts, by its place
pub free_lists : lists_label 0 ≡ false
unfolding lists_label on_side
free_lists = refl

lists_inside : (ws : List ℕ) (i : ℕ) → lists_label (get_or ws i 0) ≡ true → i < length ws
lists_inside ws i t =
    ⊎_elim
    (λ (l : i < length ws). l)
    (λ (past : length ws ≤ i). absurd (false≢true (sym free_lists ∙ ap lists_label (sym (get_or-eq_default ws 0 {n = i} past)) ∙ t)))
    (below_or_not i (length ws))

pub listed_at : (ws xs : List ℕ) (i : ℕ) → get_or (counting 0 lists_label ws xs) i 0 ≡ pick (lists_label (get_or ws i 0)) (get_or xs i 0) 0
listed_at ws xs i =
    by_test (lists_label (get_or ws i 0))
    (λ t. rw t (counting-at 0 lists_label ws xs i t (lists_inside ws i t)))
    (λ f. rw f (counting_none 0 lists_label ws xs i f))

-- beside the places of the k-th block
pub listed_beside : (k : ℕ) (ws xs : List ℕ) (i : ℕ) → i < entry_count
    → get_or (counting 0 lists_label (words_beside k ws) xs) i 0 ≡ pick (lists_label (get_or ws (k * entry_count + i) 0)) (get_or xs i 0) 0
listed_beside k ws xs i l =
    listed_at (words_beside k ws) xs i
    ∙ ap (λ (w : ℕ). pick (lists_label w) (get_or xs i 0) 0) (part-at ws (k * entry_count) (k * entry_count + entry_count) i (omega arith))

-- ---- right entries
pub none_right : entry_ok 0 ≡ true
unfolding entry_ok
none_right = refl

pub all_each : (es : List ℕ) → all_entries es ≡ true → (i : ℕ) → entry_ok (get_or es i 0) ≡ true
unfolding all_entries
all_each [] t i = none_right
all_each (e ∷ es) t zero = (both_true (entry_ok e) (all_entries es) t).0
all_each (e ∷ es) t (suc i) = all_each es (both_true (entry_ok e) (all_entries es) t).1 i

pub each_all : (es : List ℕ) → ((i : ℕ) → entry_ok (get_or es i 0) ≡ true) → all_entries es ≡ true
unfolding all_entries
each_all [] each = refl
each_all (e ∷ es) each = rw (each 0) (each_all es (λ i. each (suc i)))

-- a right entry has its width
pub right_width : (e : ℕ) → entry_ok e ≡ true → e < word_span * word_span
unfolding entry_ok is_entry
right_width e t =
    by_test (eqb e 0)
    (λ z. let none : e ≡ 0 = eqb-true e 0 z in omega arith)
    (λ n. let one : e / word_span / 16777216 ≡ 1 = eqb-true (e / word_span / 16777216) 1 (both_true (eqb (e / word_span / 16777216) 1) _ (rw n at t)).0 in omega arith)

-- ---- a loop that has come to place i
pub all_here : (es : List ℕ) (i : ℕ) {all : Bool} → i < length es → all_entries (drop i es) ≡ all → both (entry_ok (get_or es i 0)) (all_entries (drop (i + 1) es)) ≡ all
unfolding all_entries
all_here es i inside inv =
    let e : drop i es ≡ get_or es i 0 ∷ drop (suc i) es = drop-cons es i 0 inside in
    let n : i + 1 ≡ suc i = omega arith in
    rw n (rw e at inv)

-- ---- a free word lists no label
lists_coded : (w : ℕ) {b : Bool} → (b ≡ pick (on_side Given (code_of w)) true (on_side Used (code_of w))) → b ≡ lists_label w
unfolding lists_label
lists_coded w e = e

pub lists_none : (w : ℕ) → code_of w ≡ 0 → false ≡ lists_label w
unfolding on_side
lists_none w e = lists_coded w (rw e)

-- ---- beside words that stand in some bytes
module _ (n : ℕ) (s : List ℕ) (at : ℕ) (b : List ℕ) where
  listed : List ℕ
  listed = counting 0 lists_label (words_at n s at) (entries_of b)

  listed-length : length listed ≡ n
  unfolding listed
  listed-length = counting-length 0 lists_label (words_at n s at) (entries_of b) ∙ length-words_at n s at

  -- where all of them are free none counts
  pub free_right : all_zero (part s at (at + n * 4)) ≡ true → all_entries (counting 0 lists_label (words_at n s at) (entries_of b)) ≡ true
  free_right z =
      let free : words_at n s at ≡ replicate n 0 = zeros_words n s at (λ k l. sym (part-at s at (at + n * 4) k (omega arith)) ∙ zero-bytes (part s at (at + n * 4)) z k) in
      each_all _ (λ i. rw (listed_at (words_at n s at) (entries_of b) i, free, zeros_at n i, free_lists) none_right)

  -- what the loop says of the place that it has come to
  module _ (i : ℕ) {all : Bool} (inv : all_entries (drop i (counting 0 lists_label (words_at n s at) (entries_of b))) ≡ all) where
    pub places_end : n ≤ i → true ≡ all
    unfolding all_entries listed
    places_end past = rw (drop_of_length-le listed {i = i} (omega (arith, listed-length))) at inv

    module _ (inside : i < n) {w e : ℕ} (ew : w ≡ be_at 4 s (at + i * 4)) (ee : e ≡ get_or (entries_of b) i 0) {r : Bool} (er : r ≡ entry_ok (pick (lists_label w) e 0)) where
      here : both r (all_entries (drop (i + 1) (counting 0 lists_label (words_at n s at) (entries_of b)))) ≡ all
      unfolding listed
      here =
          rw (er, ee, ew, ← get_d_words_at n s at i inside, ← listed_at (words_at n s at) (entries_of b) i)
          (all_here listed i (omega (arith, listed-length)) inv)

      pub places_bad : not r ≡ true → false ≡ all
      places_bad h = rw (not-true r h) at here

      pub places-next : not r ≡ false → all_entries (drop (i + 1) (counting 0 lists_label (words_at n s at) (entries_of b))) ≡ all
      places-next h = rw (not-false r h) at here

-- ---- an empty block is right beside any words
pub none_all : (ws b : List ℕ) → block_words b ≡ no_words → all_entries (counting 0 lists_label ws (entries_of b)) ≡ true
none_all ws b none =
    each_all _ (λ i. rw (listed_at ws (entries_of b) i, entry_none b none i) (pick_all (λ (e : ℕ). entry_ok e ≡ true) (lists_label (get_or ws i 0)) none_right none_right))

module _ (b : List ℕ) (empty : is_empty b ≡ true) where
  empty_bytes : (i : ℕ) → i < check_at → get_or b i 0 ≡ 0
  unfolding is_empty
  empty_bytes i l = sym (part-at b 0 check_at i l ∙ ap (λ (k : ℕ). get_or b k 0) (zero-add i)) ∙ zero-bytes (part b 0 check_at) (both_true (sound b) _ empty).1 i

  empty_words : block_words b ≡ no_words
  unfolding block_words
  empty_words = zeros_words place_count b 0 (λ k l. ap (λ (j : ℕ). get_or b j 0) (zero-add k) ∙ empty_bytes k (omega arith))

  empty_rest : rest_zero b ≡ true
  empty_rest = bytes-zero (part b words_end check_at) (λ i l.
      let inside : i < check_at - words_end = part_inside b words_end check_at i l in
      part-at b words_end check_at i inside ∙ empty_bytes (words_end + i) (omega arith))

  pub empty_right : (ws : List ℕ) → entries_ok ws b ≡ true
  unfolding entries_ok
  empty_right ws = rw empty_rest (none_all ws b empty_words)
