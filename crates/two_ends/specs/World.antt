-- Two cabinets and what lies between them.
use Rattle.std.specs.Prelude.{ℕ, Bool, true, List, [], ◌≡◌}
use Rattle.protocol.specs.declared.Phase.{Phase}
use Rattle.protocol.specs.State.{State}

-- the messages, as submitted: accepted to send, let go by an ACK, and secured of the peer's; and those left out, that is that a Send has passed over: each by its
-- position among the accepted
pub record History : Type 0 where
  pub accepted : List (List ℕ)
  pub letgo : List (List ℕ)
  pub secured : List (List ℕ)
  pub left : List ℕ

abbrev pub no_history : History
no_history = record { accepted = []; letgo = []; secured = []; left = [] }

-- a cabinet: its state, its phase, whether it is on the present connection, whether it has come to its own fresh UpFT, and its history since then
pub record End : Type 0 where
  pub state : State
  pub phase : Phase
  pub joined : Bool
  pub begun : Bool
  pub history : History

-- the two, and the messages under way, the oldest first: `ab` from a to b, `ba` back
pub record World : Type 0 where
  pub a : End
  pub b : End
  pub ab : List (List ℕ)
  pub ba : List (List ℕ)
  -- "two cabinets that both began afresh on one connection": the first connection has not broken before both had come to their fresh UpFT on it
  pub started : Bool
  -- "as long as neither end has released its state": neither has, since it came to its own fresh UpFT
  pub unreleased : Bool

-- the same world, seen from the other end
abbrev pub swap : World → World
swap w = record { a = w.b; b = w.a; ab = w.ba; ba = w.ab; started = w.started; unreleased = w.unreleased }

-- the words that every demand on a run begins with: both began afresh on one connection, and neither end has released its state
abbrev pub Lasts : World → Type 0
Lasts w = (w.started ≡ true) × (w.unreleased ≡ true)
