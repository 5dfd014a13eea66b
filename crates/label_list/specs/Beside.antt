-- A list of entries beside the label words: a rule for the words of one entry, and whether any of them passes a test. As the code goes, place by place.
use Rattle.std.specs.Prelude.{Option, Some, None, ℕ, Bool, true, false, List, [], ◌∷◌, eqb, get_or}
use Rattle.octets.specs.Pick.{pick, both}
use Rattle.label_list.specs.declared.Side.{Side}
use Rattle.label_list.specs.declared.SweepRule.{SweepRule}
use Rattle.label_list.specs.Find.{find_of}
use Rattle.label_list.specs.Sweep.{word_swept}
use Rattle.label_list.specs.Word.{stands_for}

-- each word by the entry beside it; a word without an entry stays
unfoldable pub besides : (ℕ → ℕ → ℕ) → List ℕ → List ℕ → List ℕ
besides f [] xs = []
besides f (w ∷ ws) [] = w ∷ ws
besides f (w ∷ ws) (x ∷ xs) = f w x ∷ besides f ws xs

-- a rule for the words beside which that entry stands
unfoldable pub word_beside : SweepRule → ℕ → ℕ → ℕ → ℕ
word_beside rule entry w x = pick (eqb x entry) (word_swept rule w) w

abbrev pub swept_beside : SweepRule → ℕ → List ℕ → List ℕ → List ℕ
swept_beside rule entry words entries = besides (word_beside rule entry) words entries

-- one of them passes
unfoldable pub any_beside : (ℕ → Bool) → ℕ → List ℕ → List ℕ → Bool
any_beside test entry [] xs = false
any_beside test entry (w ∷ ws) [] = false
any_beside test entry (w ∷ ws) (x ∷ xs) = pick (both (eqb x entry) (test w)) true (any_beside test entry ws xs)

-- the entry of the place that was found; none is 0
unfoldable pub entry_at : List ℕ → Option ℕ → ℕ
entry_at entries (Some i) = get_or entries i 0
entry_at entries None = 0

-- the entry of a label on a side
abbrev pub entry_on : List ℕ → List ℕ → Side → ℕ → ℕ
entry_on words entries side label = entry_at entries (find_of (stands_for side label) words)
