-- The entries beside the words: which word a Mapping takes, and whose entry a listed label has after an event.
use Rattle.std.specs.Prelude.{Some, ℕ, Bool, true, List, ◌≢◌, ◌≡◌, get_or}
use Rattle.label_list.specs.declared.LabelMessage.TheVariants.{Mapping}
use Rattle.label_list.specs.declared.Side.{Side}
use Rattle.label_list.specs.declared.Side.TheVariants.{Given, Used}
use Rattle.label_list.specs.Beside.{entry_on}
use Rattle.label_list.specs.Word.{is_request}
use Rattle.label_events.specs.declared.Meets.{Meets}
use Rattle.label_events.specs.Change.{code_at}
use Rattle.label_events.specs.Reach.{Label}
use Rattle.label_meaning.specs.Event.{LabelEvent, Accepted, Received}

-- 02: "A Mapping takes its Request's word or the first that is free": the event takes the word at j for a label on a side
pub data TakesWord (words : List ℕ) (j : ℕ) : LabelEvent → Side → ℕ → Type 0 where
  ours : {k : ℕ} → get_or words j 0 ≡ 0 → TakesWord words j (Accepted Mapping k) Given k
  its_request : {k : ℕ} {p : Bool} {x : Meets} → x.request ≡ Some j → is_request (get_or words j 0) ≡ true
      → TakesWord words j (Received x Mapping p (Label k)) Used k
  spare_word : {k : ℕ} {p : Bool} {x : Meets} → x.spare ≡ Some j → get_or words j 0 ≡ 0
      → TakesWord words j (Received x Mapping p (Label k)) Used k

-- the entry `n` of a label that is listed after an event: the one that it had, or that of the Mapping which took its word
pub data EntryAfter (words index : List ℕ) (entry : ℕ) (e : LabelEvent) (s : Side) (l n : ℕ) : Type 0 where
  stays : code_at words s l ≢ 0 → n ≡ entry_on words index s l → EntryAfter words index entry e s l n
  set_by : (j : ℕ) → TakesWord words j e s l → n ≡ entry → EntryAfter words index entry e s l n
