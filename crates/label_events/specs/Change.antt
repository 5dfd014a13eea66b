-- What an event makes of the list: nothing, one word written, a label moved to another word, or a word is needed and none is free.
use Rattle.std.specs.Prelude.{Option, Some, None, ℕ, ◌<◌, Bool, true, false, List, eqb, length, get_or, set}
use Rattle.octets.specs.Pick.{pick}
use Rattle.label_list.specs.declared.Side.{Side}
use Rattle.label_list.specs.Find.{find_of}
use Rattle.label_list.specs.Word.{code_of, word_of, is_free, stands_for}
use Rattle.label_events.specs.declared.Change.{Change}
use Rattle.label_events.specs.declared.Change.TheVariants.{Keep, Put, Move, NoRoom}

-- the code of the word found; a label that is absent has code 0
unfoldable pub code_in : List ℕ → Option ℕ → ℕ
code_in words (Some i) = code_of (get_or words i 0)
code_in words None = 0

-- the label's code on that side
abbrev pub code_at : List ℕ → Side → ℕ → ℕ
code_at words side label = code_in words (find_of (stands_for side label) words)

-- 01: "the first free word is taken"
abbrev pub take_free : Option ℕ → ℕ → Change
take_free (Some i) w = Put i w
take_free None w = NoRoom

-- the label's word gets that code; of an absent label a free word is taken, unless its code stays 0
unfoldable pub change_at : Option ℕ → Option ℕ → ℕ → ℕ → Change
change_at (Some i) free label code = Put i (word_of label code)
change_at None free label code = pick (eqb code 0) Keep (take_free free (word_of label code))

-- the label's code on that side becomes `code`; a word that is needed is taken at `room`
abbrev pub change_with : List ℕ → Option ℕ → Side → ℕ → ℕ → Change
change_with words room side label code = change_at (find_of (stands_for side label) words) room label code

abbrev pub change_of : List ℕ → Side → ℕ → ℕ → Change
change_of words side label code = change_with words (find_of is_free words) side label code

-- 02: "A received Mapping that would change a listed label's entry moves it .. to a new word": the old one is free then
abbrev pub move_to : ℕ → Option ℕ → ℕ → Change
move_to i (Some j) w = Move i j w
move_to i None w = NoRoom

-- the label at a place gets that code where it stands, or moves
unfoldable pub placed_at : Bool → Option ℕ → Option ℕ → ℕ → ℕ → Change
placed_at true (Some i) room label code = move_to i room (word_of label code)
placed_at true None room label code = change_at None room label code
placed_at false place room label code = change_at place room label code

-- the list afterwards
unfoldable pub changed : List ℕ → Change → List ℕ
changed words Keep = words
changed words (Put i w) = set words i w
changed words (Move i j w) = set (set words i 0) j w
changed words NoRoom = words

-- it writes inside the list
abbrev pub ChangeIn : List ℕ → Change → Type 0
ChangeIn words Keep = Unit {0}
ChangeIn words (Put i w) = i < length words
ChangeIn words (Move i j w) = (i < length words) × (j < length words)
ChangeIn words NoRoom = Unit {0}

-- a label that has no place yet is new at that one
abbrev pub new_at : Option ℕ → ℕ → Option ℕ
new_at (Some i) j = None
new_at None j = Some j

-- where a label that stood at `place` takes a word by that change
abbrev pub taken_at : Option ℕ → Change → Option ℕ
taken_at place Keep = None
taken_at place (Put j w) = new_at place j
taken_at place (Move i j w) = Some j
taken_at place NoRoom = None

-- a list beside the words with another entry at that place
abbrev pub put_at : Option ℕ → ℕ → List ℕ → List ℕ
put_at (Some i) x xs = set xs i x
put_at None x xs = xs
