-- What 02 says of single kinds and types: which may be asked, which stops Requests, which answers one. Assumes nothing.
use mathlib.Core.Bool.{Bool, true, false}
use mathlib.Core.Path.{◌≡◌, refl}
use borrow.Author.Tests.{not-false}
use Rattle.ft_number.specs.declared.MessageId.{MessageId}
use Rattle.message.specs.declared.Kind.{Kind}
use Rattle.message.specs.declared.Message.{Message}
use Rattle.message.specs.declared.MessageType.{MessageType}
use Rattle.protocol.specs.declared.Phase.{Phase}
use Rattle.protocol.specs.Accepting.{stop_after}
use Rattle.protocol.specs.Labels.{answers}
use Rattle.protocol.specs.Phases.{is_up_ft}
use Rattle.protocol.specs.State.{State}
use Rattle.protocol.specs.SubmitCases.{MayAsk}

-- ---- 14 and 15: an Abort passes both in every phase; a Request only in UpFT, and unless Requests are stopped
pub may_abort : (s : State) (ph : Phase) (id : MessageId) → MayAsk s ph (Kind.Abort id)
may_abort s ph id = record { going = refl; up = refl }

pub may_request : (s : State) (ph : Phase) (id : MessageId) → MayAsk s ph (Kind.Request id) → (s.marks.stopped ≡ false) × (is_up_ft ph ≡ true)
may_request s ph id m = (m.going, not-false (is_up_ft ph) m.up)

-- ---- kind 9 "stops new Requests until" kind 6
pub stop_begins : (stop : Bool) → stop_after stop Kind.NoResources ≡ true
stop_begins stop = refl

pub stop_ends : (stop : Bool) → stop_after stop Kind.ResourcesAvailable ≡ false
stop_ends stop = refl

-- ---- "a Notification (Status) or Mapping (TLV 0x0600, length 4) naming its ID"
module _ (g : Message) where
  pub notification_answers : g.typename ≡ MessageType.Notification → answers g ≡ g.statusid
  unfolding answers
  notification_answers e = rw e

  pub mapping_answers : g.typename ≡ MessageType.Mapping → answers g ≡ g.requestid
  unfolding answers
  mapping_answers e = rw e
