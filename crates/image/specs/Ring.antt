-- What stands in consecutive slots of the ring.
use Rattle.std.specs.Prelude.{ℕ, zero, suc, ◌+◌, ◌%◌, List, [], ◌∷◌}
use Rattle.block0.specs.Layout.{slot_count}

-- the n slots from slot f on, round the ring
unfoldable pub ring : {A : Type 0} → (ℕ → A) → ℕ → ℕ → List A
ring at f zero = []
ring at f (suc n) = at (f % slot_count) ∷ ring at (f + 1) n
