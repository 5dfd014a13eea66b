-- A number that is in no row of a table. Assumes nothing.
use Prim.Native.Nat.{ℕ}
use mathlib.Core.List.{List, [], ◌∷◌}
use mathlib.Core.Path.{◌≡◌, refl}
use borrow.Author.Tests.{ne_eqb}
use Rattle.tlv.specs.Table.{lookup}

abbrev pub Absent : {X : Type 0} → List (ℕ × X) → ℕ → Type 0
Absent [] n = Unit {0}
Absent (row ∷ rows) n = (n ≡ row.0 → ⊥) × Absent rows n

pub lookup_absent : {X : Type 0} (other : X) (rows : List (ℕ × X)) (n : ℕ) → Absent rows n → other ≡ lookup other rows n
lookup_absent other [] n out = refl
lookup_absent other (row ∷ rows) n out = rw (ne_eqb n row.0 out.0) (lookup_absent other rows n out.1)
