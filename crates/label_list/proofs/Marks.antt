-- Laws of the tables of marks: one more word is passed. Assumes nothing.
use Prim.Native.Nat.{ℕ, ◌<◌}
use mathlib.Core.Bool.{Bool, true, not, false}
use mathlib.Core.List.{List, [], ◌∷◌}
use mathlib.Core.Logic.{◌≢◌}
use mathlib.Core.Path.{◌≡◌, refl, sym, ap, ◌∙◌}
use native.Mathlib.Omega.{arith}
use lib.ListN.{length, get_or, set, length-set}
use lib.Seq.{get_or-set_same, get_or-set_other}
use Rattle.octets.proofs.Choice.{by_test}
use Rattle.label_list.specs.declared.Side.{Side}
use Rattle.label_list.specs.Find.{any}
use Rattle.label_list.specs.Marks.{Tells, mark_at, MarksTell}
use Rattle.label_list.specs.Valid.{absent}
use Rattle.label_list.specs.Word.{label_of, code_of, on_side, stands_for}
use Rattle.label_list.proofs.Sought.{any_cons}
use Rattle.label_list.proofs.Standing.{one_side, stands_parts}

-- ---- any table: one more key is passed
module _ {Key : Type 0} {count : ℕ} {place : Key → ℕ} {was now : Key → Bool} {marks : List ℕ} (m : Tells count place was marks) where
  -- it needs no mark
  pub tells_more : ((key : Key) → was key ≡ false → now key ≡ false) → Tells count place now marks
  tells_more others = record { size = m.size; unmarked = λ key e. others key (m.unmarked key e) }

  module _ {here : ℕ} (others : (key : Key) → place key ≢ here → was key ≡ false → now key ≡ false) where
    -- its place was marked before
    pub tells_again : get_or marks here 0 ≢ 0 → Tells count place now marks
    tells_again marked = record { size = m.size; unmarked = λ key e. others key (λ same. marked (rw same at e)) (m.unmarked key e) }

    -- its place is marked now
    pub tells_set : here < count → Tells count place now (set marks here 1)
    tells_set inside =
        record {
          size = length-set marks here 1 ∙ m.size;
          unmarked = λ key e.
              let one : get_or (set marks here 1) here 0 ≡ 1 = get_or-set_same marks here 1 0 (omega (arith, m.size)) in
              let apart : place key ≢ here = λ same. omega (arith, one, rw same at e) in
              others key apart (m.unmarked key (sym (get_or-set_other marks here (place key) 1 0 apart) ∙ e));
        }

-- ---- the table of labels
-- Before the first word no place is marked.
pub marked_none : {marks : List ℕ} → length marks ≡ 512 → MarksTell [] marks
unfolding any
marked_none long = record { size = long; unmarked = λ key e. refl }

-- A word that lists no label needs no mark.
pub marked_unlisted : (words : List ℕ) {marks : List ℕ} (w : ℕ) → ((side : Side) (label : ℕ) → stands_for side label w ≡ false) → MarksTell words marks → MarksTell (w ∷ words) marks
marked_unlisted words w none m = tells_more m (λ key absent. any_cons (stands_for key.0 key.1) w words (none key.0 key.1) ∙ absent)

-- Sides and labels that one word stands for have one place.
one_place : (s t : Side) (k l w : ℕ) → stands_for s k w ≡ true → stands_for t l w ≡ true → mark_at s k ≡ mark_at t l
one_place s t k l w p q =
    let first : (on_side s (code_of w) ≡ true) × (label_of w ≡ k) = stands_parts s k w p in
    let second : (on_side t (code_of w) ≡ true) × (label_of w ≡ l) = stands_parts t l w q in
    rw (one_side s t (code_of w) first.0 second.0, ← first.1, ← second.1)

-- A word whose place is marked is passed.
module _ (words : List ℕ) {marks : List ℕ} (m : MarksTell words marks) (side : Side) (label : ℕ) {place : ℕ} (is : place ≡ mark_at side label) where
  others : (w : ℕ) → stands_for side label w ≡ true → (key : Side × ℕ) → mark_at key.0 key.1 ≢ place
      → any (stands_for key.0 key.1) words ≡ false → any (stands_for key.0 key.1) (w ∷ words) ≡ false
  others w stands key apart none =
      by_test
      (stands_for key.0 key.1 w)
      (λ p. absurd (apart (one_place key.0 side key.1 label w p stands ∙ sym is)))
      (λ p. any_cons (stands_for key.0 key.1) w words p ∙ none)

  -- a place without a mark says that the label is absent
  pub unmarked_absent : get_or marks place 0 ≡ 0 → true ≡ absent side label words
  unmarked_absent e = sym (ap not (m.unmarked (side, label) (rw is at e)))

  -- it was marked before
  pub marked-again : (get_or marks place 0 ≡ 0 → ⊥) → (w : ℕ) → stands_for side label w ≡ true → MarksTell (w ∷ words) marks
  marked-again was w stands = tells_again m (others w stands) was

  -- it is marked now
  pub marked-now : place < 512 → (w : ℕ) → stands_for side label w ≡ true → MarksTell (w ∷ words) (set marks place 1)
  marked-now inside w stands = tells_set m (others w stands) inside
