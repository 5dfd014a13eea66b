-- What Open and KeepAlive make of an image: nothing.
use Rattle.std.specs.Prelude.{ℕ, false, List, ◌≡◌}
use Rattle.calls.specs.Outcomes.{After}

-- no byte of it is another, and nothing is to be stored
pub record LeftAlone (im : List ℕ) (x : After) : Type 0 where
  pub image : x.image ≡ im
  pub slot : x.outcome.slot ≡ 0
  pub block0 : x.outcome.block0 ≡ false
  pub further : x.outcome.further ≡ 0
