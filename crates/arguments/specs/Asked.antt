-- What an argument asks for.
use Rattle.std.specs.Prelude.{ℕ, List, eqb, length, get_or}
use Rattle.octets.specs.Differ.{differ}
use Rattle.octets.specs.Pick.{pick}
use Rattle.text.specs.Text.{ascii}
use Rattle.arguments.specs.declared.Asked.{Asked}

-- "unknown arguments are refused": an empty one, and one that begins with `-` (45) and is not `--help`
unfoldable pub asked_of : List ℕ → Asked
asked_of argument =
    pick (differ argument (ascii "--help"))
    (pick (eqb (length argument) 0) Asked.Unknown (pick (eqb (get_or argument 0 0) 45) Asked.Unknown Asked.File))
    Asked.Usage
