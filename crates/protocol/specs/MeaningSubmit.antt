-- What a message queued means for the state, clause by clause: "Submit is open while kept is 1 and queues the message."
use Rattle.std.specs.Prelude.{Ok, ℕ, ◌+◌, ◌≤◌, ◌<◌, List, [], ◌≡◌, get_or}
use Rattle.label_list.specs.Requests.{open_ids}
use Rattle.message.specs.declared.Kind.{Kind}
use Rattle.message.specs.Submission.{submission_of}
use Rattle.protocol.specs.declared.Phase.{Phase}
use Rattle.protocol.specs.Accepting.{accepted_as, ids_accepted, stop_after}
use Rattle.protocol.specs.Phases.{issued_count}
use Rattle.protocol.specs.State.{State, held}
use Rattle.protocol.specs.Step.{Step}

pub record QueuedFrom (s : State) (ph : Phase) (m : List ℕ) (x : Step) : Type 0 where
  pub phase : x.phase ≡ ph
  pub output : x.output ≡ []
  -- it is the newest, and those before it stay in their order
  pub more : held x.state ≡ held s + 1
  pub newest : get_or x.state.queue (held s) [] ≡ m
  pub order : (i : ℕ) → i < held s → get_or x.state.queue i [] ≡ get_or s.queue i []
  -- it is pended: no more messages have a number than stand before it
  pub pended : issued_count x.state ≤ held s
  pub released : x.state.released ≡ s.released
  pub issued : x.state.issued ≡ s.issued
  pub secured : x.state.secured ≡ s.secured
  pub kept : x.state.kept ≡ s.kept
  pub terms : x.state.terms ≡ s.terms
  -- "Accepted for sending": the label words become what its kind makes of its label
  pub labels : (kind : Kind) (label : ℕ) → submission_of m ≡ Ok (kind, label) → x.state.table.words ≡ (accepted_as s.table kind label).1
  -- the IDs that count, a Request's own among them
  pub ids : (kind : Kind) (label : ℕ) → submission_of m ≡ Ok (kind, label) → x.state.table.ids ≡ open_ids x.state.table.words (ids_accepted s.table kind)
  -- kind 9 tells the peer to stop, kind 6 to go on; what the peer told us stays
  pub stopped : x.state.marks.stopped ≡ s.marks.stopped
  pub stopping : (kind : Kind) (label : ℕ) → submission_of m ≡ Ok (kind, label) → x.state.marks.stopping ≡ stop_after s.marks.stopping kind
