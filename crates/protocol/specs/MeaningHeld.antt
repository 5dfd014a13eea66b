-- What it is that a message of some kind and label is held: 01's "same label's Withdraw/Release of that kind still held".
use Rattle.std.specs.Prelude.{Ok, ℕ, ◌<◌, List, [], ◌≡◌, length, get_or}
use Rattle.message.specs.declared.Kind.{Kind}
use Rattle.message.specs.Kinds.{kind_number}
use Rattle.message.specs.Submission.{submission_of}

-- at some place of the queue stands a message that was accepted with that kind's number and that label
pub record HeldSomewhere (queue : List (List ℕ)) (kind label : ℕ) : Type 0 where
  pub place : ℕ
  pub inside : place < length queue
  pub type : Kind
  pub accepted : submission_of (get_or queue place []) ≡ Ok (type, label)
  pub same : kind_number type ≡ kind

-- a Withdraw or a Release is barred by one of its own kind and label
pub data BarredBy (queue : List (List ℕ)) : Kind → ℕ → Type 0 where
  by_withdraw : {label : ℕ} → HeldSomewhere queue 2 label → BarredBy queue Kind.Withdraw label
  by_release : {label : ℕ} → HeldSomewhere queue 3 label → BarredBy queue Kind.Release label
