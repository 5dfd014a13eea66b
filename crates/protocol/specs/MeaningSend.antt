-- What a message sent means for the state, clause by clause.
use Rattle.std.specs.Prelude.{Ok, Some, None, ℕ, ◌+◌, ◌≤◌, ◌<◌, Bool, true, false, ◌≡◌}
use Rattle.octets.specs.Pick.{pick}
use Rattle.ft_number.specs.declared.MessageId.{MessageId}
use Rattle.ft_number.specs.Circle.{next}
use Rattle.message.specs.declared.Kind.{Kind}
use Rattle.message.specs.Submission.{submission_of}
use Rattle.message_writer.specs.Forms.{protected_bytes}
use Rattle.protocol.specs.declared.Answer.{Answer}
use Rattle.protocol.specs.declared.Phase.{Phase}
use Rattle.protocol.specs.declared.Progress.{Progress}
use Rattle.protocol.specs.Phases.{issued_count, up_with, is_up_ft, resumed_of, sent_of}
use Rattle.protocol.specs.Send.{queue_message, queue_number, sent_state}
use Rattle.protocol.specs.State.{State, held}
use Rattle.protocol.specs.Step.{Step}

-- 02: "Of ours only a numbered Request is left out, at every re-issue exactly if an Abort naming its message ID, queued after it, is held too": the message at that place
pub record LeftOutAt (s : State) (place : ℕ) : Type 0 where
  pub numbered : place < issued_count s
  pub id : MessageId
  pub label : ℕ
  pub request : submission_of (queue_message s place) ≡ Ok (Kind.Request id, label)
  pub later : ℕ
  pub behind : place < later
  pub inside : later < held s
  pub named : MessageId
  pub beside : ℕ
  pub abort : submission_of (queue_message s later) ≡ Ok (Kind.Abort named, beside)
  pub same : named.0 ≡ id.0

-- "it counts as sent with the next message": from the count sent on these places are left out, and the next is not; it is one that is held
pub record PassesOver (s : State) (sent place : ℕ) : Type 0 where
  pub from : sent ≤ place
  pub each : (p : ℕ) → sent ≤ p → p < place → LeftOutAt s p
  pub stops : LeftOutAt s place → ⊥
  pub some : place < held s

-- on a connection that is not resumed all that has a number was sent on it
abbrev pub AllSent : State → Phase → Type 0
AllSent s ph = is_up_ft ph ≡ true → resumed_of ph ≡ false → sent_of ph ≡ issued_count s

-- "gives the oldest not sent on this connection .. and adds at its end FT Protection, then FT ACK if asked, raising its length"; it stands at that place
pub record SentFrom (s : State) (u : Progress) (place : ℕ) (ask : Bool) (x : Step) : Type 0 where
  pub answer : x.answer ≡ Answer.Done
  pub phase : x.phase ≡ up_with u.resumed (place + 1)
  pub state : x.state ≡ sent_state s place
  -- the ACK says S
  pub output : x.output ≡ protected_bytes (queue_message s place) (queue_number s place) (pick ask (Some s.secured) None)
  pub passes : PassesOver s u.sent place
  -- how many were passed over
  pub leftout : u.sent + x.leftout ≡ place

-- "it numbers it if it has no number"
pub record NumberedFrom (s : State) (place : ℕ) : Type 0 where
  -- one that has a number keeps it, and nothing is issued
  pub again : place < issued_count s → sent_state s place ≡ s
  -- one that has none gets the number after I, and I moves to it
  pub first : issued_count s ≤ place → (queue_number s place).0 ≡ next s.issued.0
  pub moves : issued_count s ≤ place → (sent_state s place).issued ≡ queue_number s place
  -- whatever is sent, every message held has the number that it had or would have got, and nothing but I changes
  pub others : (other : ℕ) → queue_number (sent_state s place) other ≡ queue_number s other
  pub released : (sent_state s place).released ≡ s.released
  pub secured : (sent_state s place).secured ≡ s.secured
  pub kept : (sent_state s place).kept ≡ s.kept
  pub terms : (sent_state s place).terms ≡ s.terms
  pub marks : (sent_state s place).marks ≡ s.marks
  pub table : (sent_state s place).table ≡ s.table
  pub queue : (sent_state s place).queue ≡ s.queue
