-- Tables of marks, by which a rule of standing once is judged in one pass: a key whose place bears no mark is not among those passed so far.
use Rattle.std.specs.Prelude.{ℕ, ◌+◌, ◌%◌, Bool, false, List, ◌≡◌, length, get_or}
use Rattle.label_list.specs.declared.Side.{Side}
use Rattle.label_list.specs.declared.Side.TheVariants.{Given, Used}
use Rattle.label_list.specs.Find.{any, is_found}
use Rattle.label_list.specs.Requests.{open_from}
use Rattle.label_list.specs.Word.{stands_for}

pub record Tells {Key : Type 0} (count : ℕ) (place : Key → ℕ) (passed : Key → Bool) (marks : List ℕ) : Type 0 where
  pub size : length marks ≡ count
  pub unmarked : (key : Key) → get_or marks (place key) 0 ≡ 0 → passed key ≡ false

-- a side and a label: 256 places for each side
unfoldable pub mark_at : Side → ℕ → ℕ
mark_at Given label = label % 256
mark_at Used label = 256 + label % 256

abbrev pub MarksTell : List ℕ → List ℕ → Type 0
MarksTell words marks = Tells 512 (λ (key : Side × ℕ). mark_at key.0 key.1) (λ (key : Side × ℕ). any (stands_for key.0 key.1) words) marks

-- an open Request's ID
abbrev pub IdsTell : List ℕ → List ℕ → List ℕ → Type 0
IdsTell words ids marks = Tells 256 (λ (id : ℕ). id % 256) (λ (id : ℕ). is_found (open_from id 0 words ids)) marks
