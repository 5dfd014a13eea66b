-- The events of a run, and what a run is.
use Rattle.std.specs.Prelude.{ℕ, ◌<◌, Bool, true, false, List, [], ◌∷◌}
use Rattle.octets.specs.Bytes.{Bytes}
use Rattle.ft_number.specs.declared.MessageId.{MessageId}
use Rattle.ft_number.specs.declared.Proposal.{Proposal}
use Rattle.ft_number.specs.Timeout.{TimeoutFits}
use Rattle.message_writer.specs.declared.OwnParameters.{OwnParameters}
use Rattle.protocol.specs.Begin.{restore}
use Rattle.protocol.specs.ConnectionFailed.{connection_failed}
use Rattle.protocol.specs.KeepAlive.{keepalive}
use Rattle.protocol.specs.Open.{open_session}
use Rattle.protocol.specs.Send.{send_next}
use Rattle.protocol.specs.Submit.{submit}
use Rattle.protocol.specs.TimePassed.{time_passed}
use Rattle.two_ends.specs.Calls.{disconnected, plainly, offered, sent, wrote, opened, delivery}
use Rattle.two_ends.specs.World.{World, swap}

-- at one end: every public call with whatever its owner gives, the oldest message delivered, the connection broken, and power lost
pub data Event : Type 0 where
  submits : List ℕ → Event
  -- with or without an ACK; the number of a writer is the room for its output
  sends : Bool → ℕ → Event
  keepalives : MessageId → ℕ → Event
  opens : MessageId → OwnParameters → Proposal → ℕ → Event
  passes : ℕ → Event
  delivers : Event
  -- the connection is broken; each end notices it in its own time
  breaks notices : Event
  -- "restarts from the stored image": the state as stored; a call cut before it is stored is this too
  restarts : Event

-- what the types of the calls say of their inputs: bytes, and numbers of their width
pub record Widths (n : MessageId) (p : OwnParameters) : Type 0 where
  pub id : n.0 < 4294967296
  pub keepalive : p.keepalive < 65536
  pub pdulength : p.pdulength < 65536

abbrev pub ProposalFits : Proposal → Type 0
ProposalFits (Proposal.Given t) = TimeoutFits t
ProposalFits (Proposal.NotGiven form) = Unit {0}

abbrev pub ProperEvent : Event → Type 0
ProperEvent (submits m) = Bytes m
ProperEvent (sends ask room) = Unit {0}
ProperEvent (keepalives id room) = id.0 < 4294967296
ProperEvent (opens id p t room) = Widths id p × ProposalFits t
ProperEvent (passes elapsed) = Unit {0}
ProperEvent delivers = Unit {0}
ProperEvent breaks = Unit {0}
ProperEvent notices = Unit {0}
ProperEvent restarts = Unit {0}

-- an event at the end a
abbrev pub act : World → Event → World
act w (submits m) = offered w m (submit w.a.state w.a.phase m)
act w (sends ask room) = sent w (send_next w.a.state w.a.phase ask room)
act w (keepalives id room) = wrote w (keepalive w.a.state w.a.phase id room)
act w (opens id p t room) = opened w (open_session w.a.state w.a.phase id p t room)
act w (passes elapsed) = plainly w (time_passed w.a.state w.a.phase elapsed)
act w delivers = delivery w.a.joined w.ba w
act w breaks = disconnected w
act w notices = plainly w (connection_failed w.a.state w.a.phase)
act w restarts = plainly w (restore w.a.state)

-- at a, or at b
abbrev pub event_at : World → Bool → Event → World
event_at w true v = act w v
event_at w false v = swap (act (swap w) v)

abbrev pub run : World → List (Bool × Event) → World
run w [] = w
run w (v ∷ vs) = run (event_at w v.0 v.1) vs

abbrev pub AllProperEvents : List (Bool × Event) → Type 0
AllProperEvents [] = Unit {0}
AllProperEvents (v ∷ vs) = ProperEvent v.1 × AllProperEvents vs
