-- The rule for label words as it was before 02's ticket 4, with codes up to 7 alone. No call reads it: it stands here so that "Images of tickets 2 and 3 load as
-- before" can be said and proved (`earlier_valid_lem`, `earlier_code_lem`).
use Rattle.std.specs.Prelude.{ℕ, Bool, true, not, List, [], ◌∷◌, eqb, leb}
use Rattle.octets.specs.Pick.{pick, both}
use Rattle.label_list.specs.declared.Side.{Side}
use Rattle.label_list.specs.declared.Side.TheVariants.{Given, Used}
use Rattle.label_list.specs.Find.{any, find_of}
use Rattle.label_list.specs.Word.{first_label, label_of, code_of, is_free, within, request_code, is_request}
use Rattle.label_events.specs.Change.{code_in}

-- 01: "A label stands once among codes 1-2 and once among 3-6"
unfoldable pub earlier_side : Side → ℕ → Bool
earlier_side Given code = within 1 2 code
earlier_side Used code = within 3 6 code

unfoldable pub earlier_stands : Side → ℕ → ℕ → Bool
earlier_stands side label w = both (earlier_side side (code_of w)) (eqb (label_of w) label)

abbrev pub earlier_once : ℕ → ℕ → List ℕ → Bool
earlier_once label code later =
    pick (earlier_side Given code) (not (any (earlier_stands Given label) later))
    (both (earlier_side Used code) (not (any (earlier_stands Used label) later)))

unfoldable pub earlier_word : ℕ → List ℕ → Bool
earlier_word w later = pick (is_free w) true (pick (is_request w) true (both (leb first_label (label_of w)) (earlier_once (label_of w) (code_of w) later)))

unfoldable pub earlier_valid : List ℕ → Bool
earlier_valid [] = true
earlier_valid (w ∷ ws) = both (earlier_word w ws) (earlier_valid ws)

-- the label's code on that side, as it was read
abbrev pub earlier_code : List ℕ → Side → ℕ → ℕ
earlier_code words side label = code_in words (find_of (earlier_stands side label) words)

-- no word has code 8 or 9, nor a greater one
unfoldable pub codes_low : List ℕ → Bool
codes_low [] = true
codes_low (w ∷ ws) = both (leb (code_of w) request_code) (codes_low ws)
