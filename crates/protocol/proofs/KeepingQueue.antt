-- The messages held, as one is queued and as the oldest are released. Assumes nothing.
use Prim.Native.Nat.{ℕ, ◌+◌, ◌≤◌, ◌<◌}
use mathlib.Core.List.{List, [], ◌∷◌, ◌++◌}
use mathlib.Core.Logic.{⊎_elim}
use mathlib.Core.Path.{◌≡◌}
use native.Mathlib.Omega.{arith}
use lib.ListN.{length, get_or, drop, length-append, length-drop, get_or-append}
use lib.Seq.{get_or-append_seam, get_or-drop}
use Rattle.octets.proofs.Choice.{below_or_not}
use Rattle.message.specs.Storable.{Storable}

-- what is held may be held
abbrev pub AllStorable : List (List ℕ) → Type 0
AllStorable q = (i : ℕ) → i < length q → Storable (get_or q i [])

pub queued_storable : (q : List (List ℕ)) (m : List ℕ) → AllStorable q → Storable m → AllStorable (q ++ (m ∷ []))
queued_storable q m all one i l =
    ⊎_elim
    (λ (low : i < length q). rw (get_or-append q (m ∷ []) [] i low) (all i low))
    (λ (high : length q ≤ i).
    let last : i ≡ length q = omega (arith, length-append q (m ∷ [])) in
    rw (last, get_or-append_seam q m [] []) one)
    (below_or_not i (length q))

pub dropped_storable : (q : List (List ℕ)) (k : ℕ) → AllStorable q → AllStorable (drop k q)
dropped_storable q k all i l = rw (get_or-drop k q i []) (all (k + i) (omega (arith, length-drop k q)))
