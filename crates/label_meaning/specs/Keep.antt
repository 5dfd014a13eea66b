-- What an event keeps: the list's length, its validity, all but one or two of its words, and where each label stands.
use Rattle.std.specs.Prelude.{Option, Some, None, ℕ, Bool, true, false, List, ◌≢◌, ◌≡◌, get_or}
use Rattle.label_list.specs.declared.LabelMessage.{LabelMessage}
use Rattle.label_list.specs.declared.LabelMessage.TheVariants.{Mapping, Withdraw, Release}
use Rattle.label_list.specs.declared.Side.{Side}
use Rattle.label_list.specs.declared.Side.TheVariants.{Given}
use Rattle.label_list.specs.Find.{find_of}
use Rattle.label_list.specs.Word.{stands_for}
use Rattle.label_events.specs.declared.Meets.{Meets}
use Rattle.label_events.specs.declared.Touched.{Touched}
use Rattle.label_events.specs.Accept.{plan_of, plan_change}
use Rattle.label_events.specs.Change.{taken_at}
use Rattle.label_events.specs.Reach.{Reach, Label, Those, Nothing}
use Rattle.label_events.specs.Receive.{takes_at}
use Rattle.label_meaning.specs.Event.{LabelEvent, Accepted, Acked, Received, Asked, Ended, Broken}

-- the lists differ in one word at most
pub record OneWord (before after : List ℕ) : Type 0 where
  pub at : ℕ
  pub others : (j : ℕ) → j ≢ at → get_or after j 0 ≡ get_or before j 0

-- the same, beside the word of the Request that is ended
pub record OneWordMore (request : Option ℕ) (before after : List ℕ) : Type 0 where
  pub at : ℕ
  pub others : (j : ℕ) → j ≢ at → request ≢ Some j → get_or after j 0 ≡ get_or before j 0

-- the same where a label moves: its old word and its new one
pub record TwoWordsMore (request : Option ℕ) (before after : List ℕ) : Type 0 where
  pub from : ℕ
  pub at : ℕ
  pub others : (j : ℕ) → j ≢ from → j ≢ at → request ≢ Some j → get_or after j 0 ≡ get_or before j 0

-- every event but a message under the wildcard FEC or a prefix, one that ends a Request or moves its label, and the end of a connection
abbrev pub OneLabelTouched : Reach → Type 0
OneLabelTouched (Label label) = Unit {0}
OneLabelTouched (Those reached) = ⊥
OneLabelTouched Nothing = Unit {0}

abbrev pub OneLabelMet : Option ℕ → Bool → Reach → Type 0
OneLabelMet (Some i) another reach = ⊥
OneLabelMet None true reach = ⊥
OneLabelMet None false reach = OneLabelTouched reach

abbrev pub OneLabel : LabelEvent → Type 0
OneLabel (Accepted message label) = Unit {0}
OneLabel (Acked message label) = Unit {0}
OneLabel (Received x message protected reach) = OneLabelMet x.request x.another reach
OneLabel Asked = Unit {0}
OneLabel (Ended request) = Unit {0}
OneLabel Broken = ⊥

-- ---- where labels stand
-- where a message of ours takes a word for its label: a Mapping of one that is absent
abbrev pub accepted_takes : List ℕ → LabelMessage → ℕ → Option ℕ
accepted_takes words Mapping label = taken_at (find_of (stands_for Given label) words) (plan_change (plan_of words Mapping label))
accepted_takes words Withdraw label = None
accepted_takes words Release label = None

-- where one of the peer's does
abbrev pub received_takes : List ℕ → Meets → LabelMessage → Bool → Reach → Option ℕ
received_takes words x message protected (Label label) = takes_at words x message protected (Touched.Label label)
received_takes words x message protected (Those reached) = None
received_takes words x message protected Nothing = None

abbrev pub taken_by : List ℕ → LabelEvent → Option ℕ
taken_by words (Accepted message label) = accepted_takes words message label
taken_by words (Acked message label) = None
taken_by words (Received x message protected reach) = received_takes words x message protected reach
taken_by words Asked = None
taken_by words (Ended request) = None
taken_by words Broken = None

-- a label that stands at a place stood there before, but at the place that is taken
abbrev pub StandsOld : List ℕ → List ℕ → Option ℕ → Type 0
StandsOld before after place = (s : Side) (l i : ℕ) → place ≢ Some i → stands_for s l (get_or after i 0) ≡ true → stands_for s l (get_or before i 0) ≡ true
