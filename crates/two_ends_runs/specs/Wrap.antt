-- Numbers wrap: 0xFFFFFFFE rounds of one message each, and then two messages, whose numbers are 0xFFFFFFFF and 1.
use Rattle.std.specs.Prelude.{ℕ, zero, suc, Bool, true, false, List, [], ◌∷◌, ◌++◌}
use Rattle.two_ends.specs.Runs.{Event}
use Rattle.two_ends.specs.World.{World}
use Rattle.two_ends_runs.specs.Cabinets.{address, offer, send, alive, deliver}
use Rattle.two_ends_runs.specs.Tales.{Ending, begin}

-- a sends 7, b secures and acknowledges it; so many times
abbrev pub round : List (Bool × Event)
round = offer true 7 ∷ send true ∷ deliver false ∷ alive false ∷ deliver true ∷ []

unfoldable pub rounds : ℕ → List (Bool × Event)
rounds zero = []
rounds (suc n) = rounds n ++ round

unfoldable pub sevens : ℕ → List (List ℕ)
sevens zero = []
sevens (suc n) = sevens n ++ (address 7 ∷ [])

-- then 7 and 8 go to b and are acknowledged together
abbrev pub crossing : List (Bool × Event)
crossing = offer true 7 ∷ offer true 8 ∷ send true ∷ send true ∷ deliver false ∷ deliver false ∷ alive false ∷ deliver true ∷ []

abbrev pub wrap : World
wrap = begin (rounds 0xFFFFFFFE ++ crossing)

abbrev pub crossed : List (List ℕ) → Ending
crossed before = record {
  accepted = (before ++ (address 7 ∷ [])) ++ (address 8 ∷ []);
  letgo = before ++ (address 7 ∷ address 8 ∷ []);
  held = [];
  secured = (before ++ (address 7 ∷ [])) ++ (address 8 ∷ []);
  released = 1;
  issued = 1;
  last = 1;
  started = true;
  unreleased = true;
}

abbrev pub wrap_ends : Ending
wrap_ends = crossed (sevens 0xFFFFFFFE)
