-- The labels that a received message reaches.
use Rattle.std.specs.Prelude.{ℕ, Bool, true, List, eqb}
use Rattle.label_list.specs.declared.Side.{Side}
use Rattle.label_list.specs.Beside.{entry_on}
use Rattle.label_events.specs.declared.Touched.{Touched}

-- the one that it names, those that pass a test, or none
pub data Reach : Type 0 where
  Label : ℕ → Reach
  Those : (ℕ → Bool) → Reach
  Nothing : Reach

-- 01: "of the wildcard FEC .. acts on every label"; 02: "FEC-only Withdraw and Release then act on exactly the labels of that
-- prefix": those that have its entry on the message's own side
abbrev pub reach_of : Side → List ℕ → List ℕ → Touched → Reach
reach_of side words index (Touched.Label label) = Label label
reach_of side words index Touched.Every = Those (λ k. true)
reach_of side words index (Touched.Prefix entry) = Those (λ k. eqb (entry_on words index side k) entry)
reach_of side words index Touched.Nothing = Nothing
