-- Which label words are right: restore's rule for block 0.
use Rattle.std.specs.Prelude.{ℕ, Bool, true, not, List, [], ◌∷◌, leb}
use Rattle.octets.specs.Pick.{pick, both}
use Rattle.label_list.specs.declared.Side.{Side}
use Rattle.label_list.specs.declared.Side.TheVariants.{Given, Used}
use Rattle.label_list.specs.Find.{any}
use Rattle.label_list.specs.Word.{first_label, label_of, code_of, is_free, on_side, is_request, stands_for}

-- the label stands in none of these words on that side
abbrev pub absent : Side → ℕ → List ℕ → Bool
absent side label words = not (any (stands_for side label) words)

-- 01: "A label stands once among codes 1-2 and once among 3-6"; 02: 8 and 9 are of the first. A listed label has a code of one side and stands in no later word of that side
abbrev pub stands_once : ℕ → ℕ → List ℕ → Bool
stands_once label code later = pick (on_side Given code) (absent Given label later) (both (on_side Used code) (absent Used label later))

-- "0 is free"; 02: an open Request's word is "outside the rule of standing once"; "Labels 0 to 15 are never listed"
unfoldable pub valid_word : ℕ → List ℕ → Bool
valid_word w later = pick (is_free w) true (pick (is_request w) true (both (leb first_label (label_of w)) (stands_once (label_of w) (code_of w) later)))

unfoldable pub valid_of : List ℕ → Bool
valid_of [] = true
valid_of (w ∷ ws) = both (valid_word w ws) (valid_of ws)
