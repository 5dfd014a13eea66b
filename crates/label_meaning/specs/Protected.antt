-- A label that a received message touches and may not touch without protection.
use Rattle.std.specs.Prelude.{ℕ, true, List, ◌≡◌}
use Rattle.label_list.specs.declared.LabelMessage.{LabelMessage}
use Rattle.label_list.specs.Protection.{needs_protection}
use Rattle.label_list.specs.Rules.{received_side}
use Rattle.label_events.specs.Change.{code_at}
use Rattle.label_events.specs.Reach.{Reach}
use Rattle.label_meaning.specs.Event.{Touches}

-- 01: "on a message touching codes 1 to 5 on its own side .., a named label or any under a wildcard"; 02: 8 and 9 too
pub record TouchesProtected (words : List ℕ) (m : LabelMessage) (t : Reach) : Type 0 where
  pub label : ℕ
  pub touches : Touches t label
  pub needs : needs_protection (received_side m) (code_at words (received_side m) label) ≡ true
