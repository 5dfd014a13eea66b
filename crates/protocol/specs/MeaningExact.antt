-- A Withdraw or Release that is received acts on exactly the labels that it touches: the one that it names, those of its prefix, or all.
-- 02: "FEC-only Withdraw and Release then act on exactly the labels of that prefix".
use Rattle.std.specs.Prelude.{ℕ, ◌≡◌}
use Rattle.label_list.specs.declared.LabelMessage.{LabelMessage}
use Rattle.label_list.specs.declared.Side.{Side}
use Rattle.label_list.specs.Rules.{received_side, code_received}
use Rattle.label_events.specs.Change.{code_at}
use Rattle.message.specs.declared.Message.{Message}
use Rattle.protocol.specs.Labels.{is_protected}
use Rattle.protocol.specs.MeaningLabels.{Touching}
use Rattle.protocol.specs.State.{Table}

-- `t` is the table as the message's ACK leaves it, `left` the one that the message leaves
pub record ActsOnTouched (t : Table) (g : Message) (m : LabelMessage) (left : Table) : Type 0 where
  -- each label that it touches has on its own side the code that 01's table makes of its own, as if the message named it
  pub each : (l : ℕ) → Touching t g m l
      → code_at left.words (received_side m) l ≡ code_received m (is_protected g.protection) (code_at t.words (received_side m) l)
  -- no other label changes, and none on the other side
  pub others : (side : Side) (l : ℕ) → ((side ≡ received_side m) × Touching t g m l → ⊥) → code_at left.words side l ≡ code_at t.words side l
  -- where none of those is listed, nothing changes: neither words nor IDs nor index
  pub none : ((l : ℕ) → Touching t g m l → code_at t.words (received_side m) l ≡ 0) → left ≡ t
