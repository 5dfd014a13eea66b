-- Laws of validity: a check that has come down to word i. Assumes nothing.
use Prim.Native.Nat.{ℕ, zero, suc, ◌+◌, ◌-◌, ◌≤◌, ◌<◌}
use mathlib.Core.Bool.{true, false, false≢true}
use mathlib.Core.List.{List, [], ◌∷◌}
use mathlib.Core.Logic.{◌≢◌}
use mathlib.Core.Path.{◌≡◌, sym, ◌∙◌}
use native.Mathlib.Omega.{arith}
use lib.ListN.{length, get_or, drop}
use lib.Seq.{drop-cons, drop-length}
use borrow.Author.Tests.{le-leb, lt-leb, eq-eqb, ne_eqb}
use Rattle.octets.specs.Pick.{both}
use Rattle.octets.proofs.Choice.{both_true, by_test}
use Rattle.label_list.specs.declared.Side.TheVariants.{Given, Used}
use Rattle.label_list.specs.Marks.{MarksTell}
use Rattle.label_list.specs.Valid.{absent, valid_word, valid_of}
use Rattle.label_list.specs.Word.{label_of, code_of, is_free, on_side, request_word, is_request}
use Rattle.label_list.proofs.Marks.{marked_none}
use Rattle.label_list.proofs.Sought.{later, later_is}

-- The words from index i on are valid and marked.
pub record Checked (words marks : List ℕ) (i : ℕ) : Type 0 where
  pub inside : i ≤ length words
  pub right : valid_of (drop i words) ≡ true
  pub known : MarksTell (drop i words) marks

-- Where the words from some index on are not valid, the list is not.
pub valid_drop : (words : List ℕ) (i : ℕ) → valid_of words ≡ true → valid_of (drop i words) ≡ true
unfolding valid_of
valid_drop words zero e = e
valid_drop [] (suc i) e = e
valid_drop (w ∷ ws) (suc i) e = valid_drop ws i (both_true (valid_word w ws) (valid_of ws) e).1

-- The ways through the check of one word.
module _ (w : ℕ) (later : List ℕ) where
  pub word_free : w ≡ 0 → true ≡ valid_word w later
  unfolding valid_word is_free
  word_free e = rw (eq-eqb w 0 e)

  module _ (listed : w ≢ 0) where
    pub word_request : w ≡ request_word → true ≡ valid_word w later
    unfolding valid_word is_free is_request
    word_request e = simp (ne_eqb w 0 listed, eq-eqb w request_word e)

    module _ (label : w ≢ request_word) where
      pub word_low : label_of w < 16 → false ≡ valid_word w later
      unfolding valid_word is_free is_request
      word_low h = simp (ne_eqb w 0 listed, ne_eqb w request_word label, lt-leb 16 (label_of w) h)

      module _ (high : 16 ≤ label_of w) where
        pub word_given : on_side Given (code_of w) ≡ true → absent Given (label_of w) later ≡ valid_word w later
        unfolding valid_word is_free is_request
        word_given e = simp (ne_eqb w 0 listed, ne_eqb w request_word label, le-leb 16 (label_of w) high, e)

        module _ (e : on_side Given (code_of w) ≡ false) where
          pub word_used : on_side Used (code_of w) ≡ true → absent Used (label_of w) later ≡ valid_word w later
          unfolding valid_word is_free is_request
          word_used f = simp (ne_eqb w 0 listed, ne_eqb w request_word label, le-leb 16 (label_of w) high, e, f)

          pub word_other : on_side Used (code_of w) ≡ false → false ≡ valid_word w later
          unfolding valid_word is_free is_request
          word_other f = simp (ne_eqb w 0 listed, ne_eqb w request_word label, le-leb 16 (label_of w) high, e, f)

-- The check of the list, from its end down.
module _ (words : List ℕ) where
  pub checked_end : {marks : List ℕ} → length marks ≡ 512 → Checked words marks (length words)
  unfolding valid_of
  checked_end long = record { inside = omega arith; right = rw drop-length; known = rw drop-length (marked_none long) }

  pub checked_all : {marks : List ℕ} (i : ℕ) → Checked words marks i → i ≤ 0 → true ≡ valid_of words
  checked_all zero c h = sym c.right
  checked_all (suc i) c h = absurd (omega arith)

  module _ {before : List ℕ} (i : ℕ) (c : Checked words before i) where
    -- the words behind the one that is looked at
    abbrev behind : List ℕ
    behind = later words (i - 1 + 1)

    module _ (more : 0 < i) where
      behind_is : behind ≡ drop i words
      behind_is = let next : i - 1 + 1 ≡ i = omega arith in rw next (later_is words i)

      pub checked_known : MarksTell behind before
      checked_known = rw behind_is c.known

      step : drop (i - 1) words ≡ get_or words (i - 1) 0 ∷ behind
      step =
          let next : suc (i - 1) ≡ i = omega arith in
          let inside : i - 1 < length words = omega (arith, c.inside) in
          rw (behind_is, drop-cons words (i - 1) 0, next)

      valid_step : both (valid_word (get_or words (i - 1) 0) (behind)) (valid_of (behind)) ≡ valid_of (drop (i - 1) words)
      unfolding valid_of
      valid_step = rw step

      pub checked_bad : false ≡ valid_word (get_or words (i - 1) 0) (behind) → false ≡ valid_of words
      checked_bad bad =
          by_test
          (valid_of words)
          (λ all. absurd (false≢true (bad ∙ (both_true _ _ (valid_step ∙ valid_drop words (i - 1) all)).0)))
          sym

      pub checked-more : {marks : List ℕ} → true ≡ valid_word (get_or words (i - 1) 0) (behind) → MarksTell (get_or words (i - 1) 0 ∷ behind) marks → Checked words marks (i - 1)
      checked-more good known =
          record {
            inside = omega (arith, c.inside);
            right = sym valid_step ∙ rw (← good, behind_is) c.right;
            known = rw step known;
          }
