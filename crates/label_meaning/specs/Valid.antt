-- What it means that the label words are valid, over indices; past the end of the list a word counts as free.
use Rattle.std.specs.Prelude.{ℕ, ◌≤◌, true, List, ◌≢◌, ◌⊎◌, ◌≡◌, get_or}
use Rattle.label_list.specs.declared.Side.{Side}
use Rattle.label_list.specs.Word.{label_of, code_of, on_side, request_word, stands_for}

-- "Labels 0 to 15 are never listed"; the code is one of a side
pub record WordInRange (w : ℕ) : Type 0 where
  pub label : 16 ≤ label_of w
  pub side : Side
  pub on : on_side side (code_of w) ≡ true

pub record IsValid (words : List ℕ) : Type 0 where
  -- "0 is free, and no other word has code 0"; 02: an open Request's word has no label
  pub each : (i : ℕ) → get_or words i 0 ≢ 0 → (get_or words i 0 ≡ request_word) ⊎ WordInRange (get_or words i 0)
  -- 01: "A label stands once among codes 1-2 and once among 3-6"; 02: 8 and 9 are of the first. Two words that list one label on one side are one word
  pub once : (side : Side) (label i j : ℕ) → stands_for side label (get_or words i 0) ≡ true → stands_for side label (get_or words j 0) ≡ true → i ≡ j
