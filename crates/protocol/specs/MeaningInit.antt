-- What the theorems on the peer's Init say.
use Rattle.std.specs.Prelude.{Option, Some, Result, Ok, Err, ℕ, Bool, true, [], ◌≡◌, take, drop}
use Rattle.ft_number.specs.declared.Timeout.{Timeout}
use Rattle.ft_number.specs.Timeout.{lesser_of, millis_of}
use Rattle.label_list.specs.Requests.{open_ids}
use Rattle.message.specs.declared.Message.{Message}
use Rattle.protocol.specs.declared.Answer.{Answer}
use Rattle.protocol.specs.declared.Phase.{Phase}
use Rattle.protocol.specs.declared.Start.{Start}
use Rattle.protocol.specs.declared.Terms.{Terms}
use Rattle.protocol.specs.Acked.{released_labels}
use Rattle.protocol.specs.Init.{start_state, start_phase}
use Rattle.protocol.specs.State.{State}
use Rattle.protocol.specs.Step.{Step}

-- R is set on both sides: the state is kept, and the peer's FT Session says so
pub record BothR (s : State) (rd : Option Message) : Type 0 where
  pub message : Message
  pub timeout : Timeout
  pub read : rd ≡ Some message
  pub peers : message.session ≡ Some (record { reconnect = true; timeout = timeout })
  pub ours : s.kept ≡ true

-- the terms that a start bears
abbrev pub BearsTerms : Result Start Answer → Terms → Type 0
BearsTerms (Err a) t = ⊥
BearsTerms (Ok Start.Plain) t = ⊥
BearsTerms (Ok (Start.Fresh u)) t = u ≡ t
BearsTerms (Ok (Start.Resumed u k a)) t = u ≡ t

-- the terms are those of the two Inits: "the agreed timeout is the lesser of both, zero counting as infinite"; it is zero only where both are
pub record Agreed (proposed : ℕ) (rd : Option Message) (t : Terms) : Type 0 where
  pub message : Message
  pub reconnect : Bool
  pub peers : Timeout
  pub read : rd ≡ Some message
  pub session : message.session ≡ Some (record { reconnect = reconnect; timeout = peers })
  pub parameters : message.parameters ≡ Some (record { keepalive = t.keepalive; pdulength = t.maxpdu })
  pub timeout : t.timeout ≡ lesser_of proposed (millis_of peers)
  pub forever : t.timeout ≡ 0 → (proposed ≡ 0) × (millis_of peers ≡ 0)

-- a session that began: the state is the start's, and so is the phase
pub record BegunFrom (s : State) (ph : Phase) (st : Result Start Answer) (x : Step) : Type 0 where
  pub answer : x.answer ≡ Answer.Done
  pub state : x.state ≡ start_state s st
  pub phase : x.phase ≡ start_phase ph st
  pub output : x.output ≡ []

-- "both R set and parameters equal, ACK applied, UpFT": the state t after the ACK of a released the oldest k held, by these terms
pub record ResumedFrom (s : State) (terms : Terms) (k a : ℕ) (t : State) : Type 0 where
  pub released : t.released.0 ≡ a
  pub issued : t.issued ≡ s.issued
  pub secured : t.secured ≡ s.secured
  pub kept : t.kept ≡ s.kept
  -- "Resumed or fresh, the agreed timeout is the lesser of both"; the two parameters are those stored, which the peer's are equal to
  pub timeout : t.terms.timeout ≡ terms.timeout
  pub keepalive : t.terms.keepalive ≡ s.terms.keepalive
  pub maxpdu : t.terms.maxpdu ≡ s.terms.maxpdu
  pub labels : t.table.words ≡ released_labels (take k s.queue) s.table.words
  pub ids : t.table.ids ≡ open_ids t.table.words s.table.ids
  -- "both ends remember this over a break"
  pub marks : t.marks ≡ s.marks
  pub queue : t.queue ≡ drop k s.queue
