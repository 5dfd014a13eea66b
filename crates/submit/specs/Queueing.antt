-- An aid of proofs: what the function that queues a message must know of it. No call's meaning rests on it.
use Rattle.std.specs.Prelude.{Ok, ◌<◌, ◌≤◌, ℕ, List, ◌≡◌, length}
use Rattle.block0.specs.Layout.{slot_count}
use Rattle.label_events.specs.declared.Change.{Change}
use Rattle.message.specs.declared.Kind.{Kind}
use Rattle.message.specs.Storable.{longest, shortest}
use Rattle.message.specs.Submission.{entry_in, submission_of}
use Rattle.image.specs.State.{decode}
use Rattle.image.specs.Verdict.{IsSound}
use Rattle.calls.specs.State.{state_of}
use Rattle.submit.specs.Change.{accepted_change}
use Rattle.submit.specs.Mapping.{entry_for}

-- the message was accepted with that kind, label, entry and change, and there is room
pub record Queueable (im m : List ℕ) (kind : Kind) (label entry : ℕ) (change : Change) : Type 0 where
  pub sound : IsSound im
  pub room : (decode im).header.held < slot_count
  pub low : shortest ≤ length m
  pub high : length m ≤ longest
  pub accepted : submission_of m ≡ Ok (kind, label)
  pub entry_read : entry ≡ entry_for kind (entry_in m)
  pub change-made : change ≡ accepted_change (state_of im).table kind label
