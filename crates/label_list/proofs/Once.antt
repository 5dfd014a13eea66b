-- Laws of the IDs that stand once: the table of their marks, and a check that has come down to word i. Assumes nothing.
use Rattle.std.specs.Prelude.{Option}
use Prim.Native.Nat.{ℕ, zero, suc, ◌+◌, ◌-◌, ◌%◌, ◌≤◌, ◌<◌, min}
use mathlib.Core.Bool.{true, false, not, false≢true}
use mathlib.Core.List.{List, [], ◌∷◌}
use mathlib.Core.Logic.{◌≢◌, ⊎_elim}
use mathlib.Core.Path.{◌≡◌, refl, sym, ap, ◌∙◌}
use native.Mathlib.Omega.{arith}
use lib.Dec.{eqb}
use lib.ListN.{length, get_or, set, drop, drop_of_length-le}
use lib.Seq.{drop-cons}
use borrow.Author.Tests.{eq-eqb, ne_eqb}
use Rattle.octets.specs.Pick.{both}
use Rattle.octets.proofs.Choice.{both_true, by_test, below_or_not}
use Rattle.ft_number.specs.declared.MessageId.{MessageId}
use Rattle.label_list.specs.Find.{is_found}
use Rattle.label_list.specs.Marks.{IdsTell}
use Rattle.label_list.specs.Requests.{open_from, open_at, once_word, once_of}
use Rattle.label_list.specs.Word.{is_request, request_word}
use Rattle.label_list.proofs.Marks.{tells_more, tells_again, tells_set}
use Rattle.label_list.proofs.Sought.{later, later_is}

-- Whether an ID is open, whatever the index from which the search counts.
open_from_lem : (id j k : ℕ) (ws xs : List ℕ) → is_found (open_from id j ws xs) ≡ is_found (open_from id k ws xs)
open_from_lem id j k [] xs = refl
open_from_lem id j k (w ∷ ws) [] = refl
open_from_lem id j k (w ∷ ws) (x ∷ xs) = by_test (both (is_request w) (eqb x id)) (λ t. rw t) (λ f. rw f (open_from_lem id (suc j) (suc k) ws xs))

open_cons : (id w x : ℕ) (ws xs : List ℕ) → both (is_request w) (eqb x id) ≡ false → is_found (open_from id 0 (w ∷ ws) (x ∷ xs)) ≡ is_found (open_from id 0 ws xs)
open_cons id w x ws xs e = rw e (open_from_lem id 1 0 ws xs)

-- The ways through the check of one word, and the marks after it.
module _ (w x : ℕ) (ws xs : List ℕ) {marks : List ℕ} (m : IdsTell ws xs marks) where
  pub id_unasked : w ≢ request_word → (true ≡ once_word w x ws xs) × IdsTell (w ∷ ws) (x ∷ xs) marks
  unfolding is_request
  id_unasked e =
      let other : is_request w ≡ false = ne_eqb w request_word e in
      (rw other, tells_more m (λ id none. open_cons id w x ws xs (rw other) ∙ none))

  module _ (asked : w ≡ request_word) where
    others : (id : ℕ) → id % 256 ≢ x % 256 → is_found (open_from id 0 ws xs) ≡ false → is_found (open_from id 0 (w ∷ ws) (x ∷ xs)) ≡ false
    unfolding is_request
    others id apart none =
        let other : x ≢ id = λ same. apart (ap (λ (n : ℕ). n % 256) (sym same)) in
        open_cons id w x ws xs (rw (eq-eqb w request_word asked, ne_eqb x id other)) ∙ none

    once_is : not (is_found (open_from x 0 ws xs)) ≡ once_word w x ws xs
    unfolding is_request
    once_is = rw (eq-eqb w request_word asked)

    -- an ID whose place bears no mark is no later one
    pub id-marked : get_or marks (x % 256) 0 ≡ 0 → (true ≡ once_word w x ws xs) × IdsTell (w ∷ ws) (x ∷ xs) (set marks (x % 256) 1)
    id-marked e = (ap not (sym (m.unmarked x e)) ∙ once_is, tells_set m others (omega arith))

    -- its place was marked before: the search tells
    pub id_sought : get_or marks (x % 256) 0 ≢ 0 → {id : MessageId} {f : Option ℕ} → id.0 ≡ x → f ≡ open_at id ws xs → (not (is_found f) ≡ once_word w x ws xs) × IdsTell (w ∷ ws) (x ∷ xs) marks
    unfolding open_at
    id_sought marked same is = (rw (is, same) once_is, tells_again m others marked)

-- The words from index i on, as far as the list of IDs goes, have no ID twice and are marked.
pub record Passed (words ids marks : List ℕ) (i : ℕ) : Type 0 where
  pub in_words : i ≤ length words
  pub in_ids : i ≤ length ids
  pub right : once_of (drop i words) (drop i ids) ≡ true
  pub known : IdsTell (drop i words) (drop i ids) marks

-- Without IDs no Request is open.
no_ids : (ws : List ℕ) → (once_of ws [] ≡ true) × ((id : ℕ) → is_found (open_from id 0 ws []) ≡ false)
unfolding once_of
no_ids [] = (refl, λ id. refl)
no_ids (w ∷ ws) = (refl, λ id. refl)

once_drop : (words ids : List ℕ) (i : ℕ) → once_of words ids ≡ true → once_of (drop i words) (drop i ids) ≡ true
unfolding once_of
once_drop words ids zero e = e
once_drop [] ids (suc i) e = refl
once_drop (w ∷ ws) [] (suc i) e = (no_ids (drop i ws)).0
once_drop (w ∷ ws) (x ∷ xs) (suc i) e = once_drop ws xs i (both_true (once_word w x ws xs) (once_of ws xs) e).1

-- The check of the lists, from the end of the shorter down.
module _ (words ids : List ℕ) where
  passed_words : {marks : List ℕ} (i : ℕ) → length marks ≡ 256 → i ≡ length words → i ≤ length ids → Passed words ids marks i
  unfolding once_of
  passed_words i long is h =
      let past : length words ≤ i = omega arith in
      let end : drop i words ≡ [] = drop_of_length-le words past in
      record { in_words = omega arith; in_ids = h; right = rw end; known = rw end (record { size = long; unmarked = λ id e. refl }) }

  passed-ids : {marks : List ℕ} (i : ℕ) → length marks ≡ 256 → i ≡ length ids → i ≤ length words → Passed words ids marks i
  passed-ids i long is h =
      let past : length ids ≤ i = omega arith in
      let end : drop i ids ≡ [] = drop_of_length-le ids past in
      let none = no_ids (drop i words) in
      record { in_words = h; in_ids = omega arith; right = rw end none.0; known = rw end (record { size = long; unmarked = λ id e. none.1 id }) }

  pub passed_end : {marks : List ℕ} (i : ℕ) → length marks ≡ 256 → i ≡ min (length words) (length ids) → Passed words ids marks i
  passed_end i long is =
      ⊎_elim
      (λ (more : length words < length ids). passed_words i long (omega arith) (omega arith))
      (λ (few : length ids ≤ length words). passed-ids i long (omega arith) (omega arith))
      (below_or_not (length words) (length ids))

  pub passed_all : {marks : List ℕ} (i : ℕ) → Passed words ids marks i → i ≤ 0 → true ≡ once_of words ids
  passed_all zero p h = sym p.right
  passed_all (suc i) p h = absurd (omega arith)

  module _ {before : List ℕ} (i : ℕ) (p : Passed words ids before i) where
    -- what stands behind the place that is looked at
    abbrev behind : List ℕ → List ℕ
    behind list = later list (i - 1 + 1)

    module _ (more : 0 < i) where
      behind_is : (list : List ℕ) → behind list ≡ drop i list
      behind_is list = let next : i - 1 + 1 ≡ i = omega arith in rw next (later_is list i)

      pub passed_known : IdsTell (behind words) (behind ids) before
      passed_known = rw (behind_is words, behind_is ids) p.known

      step : (list : List ℕ) → i ≤ length list → drop (i - 1) list ≡ get_or list (i - 1) 0 ∷ behind list
      step list h =
          let next : suc (i - 1) ≡ i = omega arith in
          let inside : i - 1 < length list = omega arith in
          rw (behind_is list, drop-cons list (i - 1) 0, next)

      once_step : both (once_word (get_or words (i - 1) 0) (get_or ids (i - 1) 0) (behind words) (behind ids)) (once_of (behind words) (behind ids))
          ≡ once_of (drop (i - 1) words) (drop (i - 1) ids)
      unfolding once_of
      once_step = rw (step words p.in_words, step ids p.in_ids)

      pub passed_twice : false ≡ once_word (get_or words (i - 1) 0) (get_or ids (i - 1) 0) (behind words) (behind ids) → false ≡ once_of words ids
      passed_twice bad =
          by_test
          (once_of words ids)
          (λ all. absurd (false≢true (bad ∙ (both_true _ _ (once_step ∙ once_drop words ids (i - 1) all)).0)))
          sym

      pub passed-more : {marks : List ℕ} → true ≡ once_word (get_or words (i - 1) 0) (get_or ids (i - 1) 0) (behind words) (behind ids)
          → IdsTell (get_or words (i - 1) 0 ∷ behind words) (get_or ids (i - 1) 0 ∷ behind ids) marks → Passed words ids marks (i - 1)
      passed-more good known =
          record {
            in_words = omega (arith, p.in_words);
            in_ids = omega (arith, p.in_ids);
            right = sym once_step ∙ rw (← good, behind_is words, behind_is ids) p.right;
            known = rw (step words p.in_words, step ids p.in_ids) known;
          }
