-- What holds of the messages that an end leaves out, and of the numbers of all.
use Rattle.std.specs.Prelude.{ℕ, ◌+◌, ◌<◌, true, false, [], ◌≡◌, length, get_or}
use Rattle.ft_number.specs.Circle.{after}
use Rattle.protocol.specs.LeftOut.{left_out_from}
use Rattle.protocol.specs.MeaningSend.{LeftOutAt}
use Rattle.protocol.specs.Phases.{is_up_ft, resumed_of, sent_of}
use Rattle.protocol.specs.Send.{place_sent, queue_message, queue_number}
use Rattle.protocol.specs.State.{held}
use Rattle.two_ends.specs.LeftOut.{is_left}
use Rattle.two_ends.specs.World.{End}

-- of an end that has begun: the position of the message at a place of its store, and the place of a position
abbrev pub position_at : End → ℕ → ℕ
position_at e place = length e.history.letgo + place

pub record Omits (e : End) : Type 0 where
  -- a message left out is left out for good: as long as it is held its Abort is held behind it,
  pub stays : (place : ℕ) → place < held e.state → is_left e.history.left (position_at e place) ≡ true → LeftOutAt e.state place
  -- so it is never sent afterwards
  pub unsent : sent_of e.phase < held e.state → is_left e.history.left (position_at e (place_sent e.state e.phase)) ≡ false
  -- the number of a message is that of its position, whatever is left out before it, and so never changes; it goes on past 0xFFFFFFFF with 1
  pub numbers : (place : ℕ) → (queue_number e.state place).0 ≡ after (position_at e place + 1) 0
  pub messages : (place : ℕ) → place < held e.state → queue_message e.state place ≡ get_or e.history.accepted (position_at e place) []

-- of two ends that are both up on one connection
pub record SameConnection (x y : End) : Type 0 where
  -- both have it as resumed, or neither
  pub agree : resumed_of x.phase ≡ resumed_of y.phase
  -- where it is not, nothing was ever left out, and the next Send leaves out nothing
  pub none : resumed_of x.phase ≡ false → (x.history.left ≡ []) × (left_out_from x.state (sent_of x.phase) ≡ 0)

-- up on the present connection
pub record Up (e : End) : Type 0 where
  pub on : e.joined ≡ true
  pub up : is_up_ft e.phase ≡ true
