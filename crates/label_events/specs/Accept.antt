-- A message of ours is accepted for sending, or refused: the answer and the list afterwards.
use Rattle.std.specs.Prelude.{Option, Some, None, ℕ, not, List}
use Rattle.octets.specs.Pick.{pick}
use Rattle.label_list.specs.declared.LabelMessage.{LabelMessage}
use Rattle.label_list.specs.declared.Side.{Side}
use Rattle.label_list.specs.Rules.{sent_side, code_accepted}
use Rattle.label_list.specs.Word.{listable}
use Rattle.label_events.specs.declared.Acceptance.{Acceptance}
use Rattle.label_events.specs.declared.Change.{Change}
use Rattle.label_events.specs.Change.{code_at, change_of, changed}

-- 01's answers: 6 "label code doesn't allow it, label below 16", 13 "Mapping that needs a word, none free"
abbrev pub acceptance_number : Acceptance → ℕ
acceptance_number Acceptance.Taken = 0
acceptance_number Acceptance.NotAllowed = 6
acceptance_number Acceptance.NoRoom = 13

abbrev pub plan_by : Option ℕ → List ℕ → Side → ℕ → Option Change
plan_by (Some code) words side label = Some (change_of words side label code)
plan_by None words side label = None

-- a label below 16 is refused, and so is what is no label of 20 bits
unfoldable pub plan_of : List ℕ → LabelMessage → ℕ → Option Change
plan_of words message label =
    pick (not (listable label)) None (plan_by (code_accepted message (code_at words (sent_side message) label)) words (sent_side message) label)

-- the change that is told of a plan; of one that is refused none
abbrev pub plan_change : Option Change → Change
plan_change (Some change) = change
plan_change None = Change.Keep

abbrev pub acceptance_of : Change → Acceptance
acceptance_of Change.Keep = Acceptance.Taken
acceptance_of (Change.Put i w) = Acceptance.Taken
acceptance_of (Change.Move i j w) = Acceptance.Taken
acceptance_of Change.NoRoom = Acceptance.NoRoom

-- a refusal leaves the list as it was
abbrev pub accepted_by : List ℕ → Option Change → Acceptance × List ℕ
accepted_by words (Some change) = (acceptance_of change, changed words change)
accepted_by words None = (Acceptance.NotAllowed, words)

unfoldable pub accepted_of : List ℕ → LabelMessage → ℕ → Acceptance × List ℕ
accepted_of words message label = accepted_by words (plan_of words message label)
