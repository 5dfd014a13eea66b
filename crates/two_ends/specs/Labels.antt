-- What holds of the labels at one end of a run.
use Rattle.std.specs.Prelude.{ℕ, true, List, [], ◌⊎◌, ◌≡◌}
use Rattle.label_list.specs.declared.LabelMessage.{LabelMessage}
use Rattle.label_list.specs.declared.Side.{Side}
use Rattle.label_events.specs.Change.{code_at}
use Rattle.message.specs.declared.Kind.{Kind}
use Rattle.message.specs.Kinds.{kind_number}
use Rattle.protocol.specs.Held.{is_held}
use Rattle.two_ends.specs.Demand.{held_messages}
use Rattle.two_ends.specs.World.{End}

-- a label waits for its Withdraw to be acknowledged, or for its Release
pub data Due : Type 0 where
  withdrawal release : Due

abbrev pub due_side : Due → Side
due_side withdrawal = Side.Given
due_side release = Side.Used

-- so does one of code 2, withdrawing, and of code 9, of which the Release has come already; one of code 5, releasing
abbrev pub IsDue : Due → ℕ → Type 0
IsDue withdrawal c = (c ≡ 2) ⊎ (c ≡ 9)
IsDue release c = c ≡ 5

abbrev pub due_message : Due → LabelMessage
due_message withdrawal = LabelMessage.Withdraw
due_message release = LabelMessage.Release

abbrev pub due_kind : Due → ℕ
due_kind withdrawal = kind_number Kind.Withdraw
due_kind release = kind_number Kind.Release

-- such a label has its message in the store
abbrev pub Owed : List ℕ → List (List ℕ) → Type 0
Owed labels queue = (due : Due) (l : ℕ) → IsDue due (code_at labels (due_side due) l) → is_held (due_kind due) l queue ≡ true

-- ---- an end that has begun
pub record Listed (e : End) : Type 0 where
  -- codes 2, 9 and 5 last as long as the Withdraw or Release is held
  pub owed : Owed e.state.table.words (held_messages e)
  -- so with an empty store no label has one of them; one of code 8 outlives the store: it waits for the peer's Release alone
  pub settled : held_messages e ≡ [] → (due : Due) (l : ℕ) → IsDue due (code_at e.state.table.words (due_side due) l) → ⊥
  -- no label is in use without protection
  pub protected : (l : ℕ) → code_at e.state.table.words Side.Used l ≡ 6 → ⊥
