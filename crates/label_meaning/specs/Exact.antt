-- A Withdraw or Release of the peer's: what it does to each label, by those that it touches.
use Rattle.std.specs.Prelude.{ℕ, Bool, List, ◌≡◌}
use Rattle.label_list.specs.declared.LabelMessage.{LabelMessage}
use Rattle.label_list.specs.declared.Side.{Side}
use Rattle.label_list.specs.Rules.{received_side, code_received}
use Rattle.label_events.specs.declared.Meets.{Meets}
use Rattle.label_events.specs.Change.{code_at}
use Rattle.label_events.specs.Reach.{Reach}
use Rattle.label_events.specs.Requests.{ended_at}
use Rattle.label_meaning.specs.Event.{Received, after_event, Touches}

-- 02: "FEC-only Withdraw and Release then act on exactly the labels of that prefix"; 01: of the wildcard FEC on every label, and one that
-- names its label on that
pub record ActsOnExactly (words : List ℕ) (x : Meets) (m : LabelMessage) (p : Bool) (t : Reach) : Type 0 where
  -- each label that is touched has on the message's own side the code that 01's table makes of its own, whether it is named or not
  pub each : (k : ℕ) → Touches t k
      → code_at (after_event words (Received x m p t)) (received_side m) k ≡ code_received m p (code_at words (received_side m) k)
  -- no other label changes, and none on the other side
  pub others : (s : Side) (k : ℕ) → ((s ≡ received_side m) × Touches t k → ⊥)
      → code_at (after_event words (Received x m p t)) s k ≡ code_at words s k
  -- where none of those is listed, no word changes
  pub none : ((k : ℕ) → Touches t k → code_at words (received_side m) k ≡ 0)
      → after_event words (Received x m p t) ≡ ended_at x.request words
