-- Messages left out, by their positions, and a list of messages read without them.
use Rattle.std.specs.Prelude.{ℕ, zero, suc, Bool, true, false, List, [], ◌∷◌, eqb}
use Rattle.octets.specs.Pick.{pick}

-- a position is one of these
abbrev pub is_left : List ℕ → ℕ → Bool
is_left [] i = false
is_left (p ∷ ps) i = pick (eqb p i) true (is_left ps i)

-- 02: "Demand 3 then reads accepted, let go and held messages without those left out": the messages from position p on
abbrev pub without : {A : Type 0} → List ℕ → ℕ → List A → List A
without left p [] = []
without left p (m ∷ ms) = pick (is_left left p) (without left (suc p) ms) (m ∷ without left (suc p) ms)

-- so many positions from p on
abbrev pub positions : ℕ → ℕ → List ℕ
positions p zero = []
positions p (suc k) = p ∷ positions (suc p) k
