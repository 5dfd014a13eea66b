-- What a writer leaves: 01: "9: output too short: nothing"; "0 writes the message from the start and no byte after it".
use Rattle.std.specs.Prelude.{Option, Some, None, ℕ, List, ltb, length}
use Rattle.octets.specs.Laid.{laid}
use Rattle.octets.specs.Pick.{pick}

-- the answer's number
abbrev pub written_number : Option ℕ → ℕ
written_number (Some n) = 0
written_number None = 9

-- the answer and the output after the message p is written to `out`; exact room is enough
unfoldable pub written_of : List ℕ → List ℕ → (Option ℕ) × List ℕ
written_of out p = pick (ltb (length out) (length p)) (None, out) (Some (length p), laid out 0 p)
