-- The labels of the two ends persist over each change of the state of one. Assumes nothing.
use Prim.Native.Nat.{ℕ}
use mathlib.Core.Bool.{false}
use mathlib.Core.List.{[], ◌++◌, List, ◌∷◌}
use mathlib.Core.Path.{◌≡◌}
use lib.ListN.{take, length}
use Rattle.label_events.specs.declared.Meets.{Meets}
use Rattle.message.specs.declared.Message.{Message}
use Rattle.message.specs.Submission.{submission_of}
use Rattle.protocol.specs.Acked.{acked}
use Rattle.protocol.specs.Labels.{meets, label_effect}
use Rattle.protocol.specs.Receive.{taken}
use Rattle.protocol.specs.State.{State, no_table, released_state}
use Rattle.protocol.specs.Step.{broken}
use Rattle.protocol.specs.Submit.{submitted}
use Rattle.two_ends.specs.Calls.{accepts, takes}
use Rattle.two_ends.specs.LeftOut.{is_left, without}
use Rattle.two_ends.specs.World.{History, no_history}
use Rattle.two_ends.proofs.Accepting.{accepted_words}
use Rattle.two_ends.proofs.NoRequests.{accepted_in, no_requests, with_left}
use Rattle.two_ends.proofs.Persisting.{CarriedTo, Persists}
use Rattle.two_ends.proofs.Sharing.{Shared, shared_accepted, shared_accepted_peer, shared_broken, shared_broken_peer, shared_freed, shared_freed_peer, shared_none, shared_taken, shared_taken_peer, shared_marked, shared_marked_peer}
use Rattle.two_ends.proofs.Tidy.{Tidy, tidy_acked, tidy_broken, tidy_none, tidy_submitted, tidy_taken}

-- of two ends, each by the state that counts and its history: both lists are in order, and either end's labels agree with the other's
pub record Labels (s : State) (h : History) (t : State) (k : History) : Type 0 where
  pub own : Tidy s
  pub peer : Tidy t
  pub ours : Shared s.table.words h t.table.words k
  pub theirs : Shared t.table.words k s.table.words h

pub labels_none : Labels released_state no_history released_state no_history
labels_none = record { own = tidy_none; peer = tidy_none; ours = shared_none no_table.words no_history no_history; theirs = shared_none no_table.words no_history no_history }

module _ {s : State} {h : History} {t : State} {k : History} (l : Labels s h t k) where
  labels-swap : Labels t k s h
  labels-swap = record { own = l.peer; peer = l.own; ours = l.theirs; theirs = l.ours }

  labels_same : (u : State) → u.table.words ≡ s.table.words → u.queue ≡ s.queue → Labels u h t k
  labels_same u e f = record {
    own = record { valid = rw e l.own.valid; sixless = rw e l.own.sixless; owed = rw (e, f) l.own.owed };
    peer = l.peer;
    ours = rw e l.ours;
    theirs = rw e l.theirs;
  }

  labels-broken : Labels (broken s) h t k
  labels-broken = record {
    own = tidy_broken s l.own;
    peer = l.peer;
    ours = shared_broken l.own.valid l.own.sixless l.ours;
    theirs = shared_broken_peer l.own.valid l.own.sixless l.theirs;
  }

  labels-submitted : (m : List ℕ) (o : List (List ℕ)) → accepted_in h ≡ k.secured ++ o → is_left h.left (length h.accepted) ≡ false → Labels (submitted s m) (accepts m h) t k
  unfolding submitted
  labels-submitted m o e n = record {
    own = tidy_submitted s l.own m;
    peer = l.peer;
    ours = shared_accepted o m e n l.own.valid l.peer.sixless (accepted_words s.table l.own.valid (submission_of m)) l.ours;
    theirs = shared_accepted_peer o m e n l.own.valid (accepted_words s.table l.own.valid (submission_of m)) l.theirs;
  }

  labels-marked : (left : List ℕ) (o p : List (List ℕ)) → accepted_in h ≡ k.secured ++ o → without left 0 h.accepted ≡ k.secured ++ p → no_requests o ≡ no_requests p → Labels s (with_left left h) t k
  labels-marked left o p e f r = record {
    own = l.own;
    peer = l.peer;
    ours = shared_marked left o p e f r l.ours;
    theirs = shared_marked_peer left o p e f r l.theirs;
  }

  labels-acked : (n a : ℕ) → Labels (acked s n a) (takes (take n s.queue) [] h) t k
  unfolding acked
  labels-acked n a = record {
    own = tidy_acked s l.own n a;
    peer = l.peer;
    ours = shared_freed l.own.valid (take n s.queue) l.ours;
    theirs = shared_freed_peer l.own.valid (take n s.queue) l.theirs;
  }

  labels-taken : (n a : ℕ) (g : Message) (m : List ℕ) → CarriedTo s.table.words (acked s n a) g m → Labels (taken s.table.words (acked s n a) g) (takes (take n s.queue) (m ∷ []) h) t k
  unfolding taken acked
  labels-taken n a g m x =
      let gone = take n s.queue in
      let met : Meets = meets s.table.words (acked s n a).table g in
      record {
        own = tidy_taken (acked s n a) (tidy_acked s l.own n a) s.table.words g x.protected;
        peer = l.peer;
        ours = rw x.protected (shared_taken gone m s.table.ids s.table.index met x.kind x.label (label_effect g) x.accepted x.effect l.own.valid l.ours);
        theirs = rw x.protected (shared_taken_peer gone m s.table.ids s.table.index met x.kind x.label (label_effect g) x.accepted x.effect l.own.valid x.room l.theirs);
      }

pub labels_persist : Persists Labels
labels_persist = record {
  none = labels_none;
  swapped = labels-swap;
  same = λ l u words marks queue. labels_same l u words queue;
  ended = labels-broken;
  accepted = λ l m o e n taken may. labels-submitted l m o e n;
  marked = labels-marked;
  freed = labels-acked;
  carried = labels-taken;
}
