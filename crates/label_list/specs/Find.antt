-- Searches of the words: the first that passes a test, whether any does, and how many are listed.
use Rattle.std.specs.Prelude.{Option, Some, None, ℕ, suc, ◌<◌, Bool, true, false, List, [], ◌∷◌, eqb, length, drop}
use Rattle.octets.specs.Pick.{pick}
use Rattle.label_list.specs.declared.Wanted.{Wanted}
use Rattle.label_list.specs.declared.Wanted.TheVariants.{Free, ProtectedOn}
use Rattle.label_list.specs.Protection.{protected_on}
use Rattle.label_list.specs.Word.{label_of, is_free}

-- the test of what is looked for; of a label on a side it is `stands_for`
abbrev pub passes : Wanted → ℕ → Bool
passes Free = is_free
passes (ProtectedOn side) = protected_on side

-- the index, counted from k, of the first word that passes
abbrev pub find_from : (ℕ → Bool) → ℕ → List ℕ → Option ℕ
find_from test k [] = None
find_from test k (w ∷ ws) = pick (test w) (Some k) (find_from test (suc k) ws)

unfoldable pub find_of : (ℕ → Bool) → List ℕ → Option ℕ
find_of test words = find_from test 0 words

-- the index of the first word that passes, from the word at index k on
unfoldable pub next_of : (ℕ → Bool) → List ℕ → ℕ → Option ℕ
next_of test words k = find_from test k (drop k words)

-- the word bears that label, whatever its code
unfoldable pub bears_label : ℕ → ℕ → Bool
bears_label label w = eqb (label_of w) label

-- whether any word passes
unfoldable pub any : (ℕ → Bool) → List ℕ → Bool
any test [] = false
any test (w ∷ ws) = pick (test w) true (any test ws)

-- the printer's count: "words not zero .., code 6 included"
unfoldable pub listed_count : List ℕ → ℕ
listed_count [] = 0
listed_count (w ∷ ws) = pick (is_free w) (listed_count ws) (suc (listed_count ws))

-- whether the search found a word
abbrev pub is_found : Option ℕ → Bool
is_found (Some i) = true
is_found None = false

-- what was found is inside the list
abbrev pub FoundIn : List ℕ → Option ℕ → Type 0
FoundIn words (Some i) = i < length words
FoundIn words None = Unit {0}

-- the words, and where one of them is free the old one: free where both are
unfoldable pub overlaid : List ℕ → List ℕ → List ℕ
overlaid [] old = []
overlaid (w ∷ ws) [] = w ∷ overlaid ws []
overlaid (w ∷ ws) (v ∷ vs) = pick (is_free w) v w ∷ overlaid ws vs

-- 02: "the first that is free in the old block 0 too"
unfoldable pub spare_in : List ℕ → List ℕ → Option ℕ
spare_in old words = find_of is_free (overlaid words old)
