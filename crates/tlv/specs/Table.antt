-- A decision over numbers as a table: what stands beside the number, and what holds for every number that is not in it.
use Rattle.std.specs.Prelude.{ℕ, List, [], ◌∷◌, eqb}
use Rattle.octets.specs.Pick.{pick}

abbrev pub lookup : {X : Type 0} → X → List (ℕ × X) → ℕ → X
lookup other [] n = other
lookup other (row ∷ rows) n = pick (eqb n row.0) row.1 (lookup other rows n)
