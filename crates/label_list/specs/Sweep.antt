-- A rule applied to every word of the list, or to those of some labels.
use Rattle.std.specs.Prelude.{ℕ, Bool, List, map}
use Rattle.octets.specs.Pick.{pick}
use Rattle.label_list.specs.declared.SweepRule.{SweepRule}
use Rattle.label_list.specs.Rules.{code_swept}
use Rattle.label_list.specs.Word.{label_of, code_of, word_of}

unfoldable pub word_swept : SweepRule → ℕ → ℕ
word_swept rule w = word_of (label_of w) (code_swept rule (code_of w))

abbrev pub swept_of : List ℕ → SweepRule → List ℕ
swept_of words rule = map (word_swept rule) words

-- the same where it reaches some labels alone
unfoldable pub word_reached : (ℕ → Bool) → SweepRule → ℕ → ℕ
word_reached reached rule w = pick (reached (label_of w)) (word_swept rule w) w

abbrev pub reached_of : List ℕ → (ℕ → Bool) → SweepRule → List ℕ
reached_of words reached rule = map (word_reached reached rule) words
