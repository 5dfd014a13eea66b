-- Where an event ends a Request.
use Rattle.std.specs.Prelude.{Option, None, ℕ}
use Rattle.label_meaning.specs.Event.{LabelEvent, Accepted, Acked, Received, Asked, Ended, Broken}

-- 02: "It ends when its Abort is accepted, or a Notification (Status) or Mapping (TLV 0x0600, length 4) naming its ID is received"
abbrev pub ends_at : LabelEvent → Option ℕ
ends_at (Accepted message label) = None
ends_at (Acked message label) = None
ends_at (Received x message protected reach) = x.request
ends_at Asked = None
ends_at (Ended request) = request
ends_at Broken = None
