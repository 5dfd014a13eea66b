-- The list seen as a map from side and label to code, and what an event changes in it.
use Rattle.std.specs.Prelude.{ℕ, true, false, List, ◌≡◌, get_or}
use Rattle.label_list.specs.declared.Side.{Side}
use Rattle.label_list.specs.Word.{code_of, stands_for}
use Rattle.label_meaning.specs.Valid.{IsValid}

-- the label's code on that side: that of a word which lists it, or 0 where no word does
pub data CodeIs (words : List ℕ) (side : Side) (label : ℕ) : ℕ → Type 0 where
  listed : (i : ℕ) → stands_for side label (get_or words i 0) ≡ true → CodeIs words side label (code_of (get_or words i 0))
  absent : ((i : ℕ) → stands_for side label (get_or words i 0) ≡ false) → CodeIs words side label 0

-- one label's code on one side becomes `code`, and no other does change
pub record Effect (before after : List ℕ) (side : Side) (label code : ℕ) : Type 0 where
  pub valid : IsValid after
  pub there : CodeIs after side label code
  pub elsewhere : (t : Side) (k c : ℕ) → ((t ≡ side) × (k ≡ label) → ⊥) → CodeIs before t k c → CodeIs after t k c
