-- What a right acknowledgement is, by successors alone: "An ACK is right if it is R or one of the numbers up to I; it releases every message
-- through it."
use Rattle.std.specs.Prelude.{ℕ, ◌≤◌, ◌≡◌}
use Rattle.ft_number.specs.Circle.{after}

-- acknowledging a is right and releases k: a is the k-th successor of r (of R itself: the 0th), and i comes no sooner
pub record Right (r i a k : ℕ) : Type 0 where
  pub names : after k r ≡ a
  pub issued : ℕ
  pub reaches : after issued r ≡ i
  pub soonest : (j : ℕ) → after j r ≡ i → issued ≤ j
  pub up_to : k ≤ issued
