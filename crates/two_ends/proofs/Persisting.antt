-- What each change of one end's state keeps between the two ends, every call keeps: the changes, named once. Assumes nothing.
use Rattle.std.specs.Prelude.{Ok}
use Prim.Native.Nat.{ℕ}
use mathlib.Core.Bool.{true, false}
use mathlib.Core.List.{List, [], ◌∷◌, ◌++◌}
use mathlib.Core.Path.{◌≡◌}
use lib.ListN.{take, length}
use Rattle.label_events.specs.declared.Acceptance.{Acceptance}
use Rattle.label_events.specs.declared.Reception.{Reception}
use Rattle.message.specs.declared.Kind.{Kind}
use Rattle.message.specs.declared.Message.{Message}
use Rattle.message.specs.Kinds.{kind_of}
use Rattle.message.specs.Submission.{submission_of}
use Rattle.protocol.specs.Accepting.{accepted_as}
use Rattle.protocol.specs.Acked.{acked}
use Rattle.protocol.specs.Labels.{meets, effect_reception, is_protected, label_effect}
use Rattle.protocol.specs.Receive.{taken}
use Rattle.protocol.specs.State.{State, released_state}
use Rattle.protocol.specs.Step.{broken}
use Rattle.protocol.specs.Submit.{submitted}
use Rattle.two_ends.specs.Calls.{accepts, takes}
use Rattle.two_ends.specs.LeftOut.{is_left, without}
use Rattle.two_ends.specs.World.{History, no_history}
use Rattle.two_ends.proofs.Getting.{Says}
use Rattle.two_ends.proofs.NoRequests.{accepted_in, no_requests, with_left}

-- a message that has its number, read as g by an end in the state s and submitted as m: it is of one kind there and here, and has room
pub record CarriedTo (old : List ℕ) (s : State) (g : Message) (m : List ℕ) : Type 0 where
  pub kind : Kind
  pub label : ℕ
  pub accepted : submission_of m ≡ Ok (kind, label)
  pub protected : is_protected g.protection ≡ true
  pub read : kind_of g ≡ kind
  pub effect : Says kind label (label_effect g)
  pub room : effect_reception s.table (meets old s.table g) true (label_effect g) ≡ Reception.Taken

-- a message that the state s takes
pub record TakenIn (s : State) (m : List ℕ) : Type 0 where
  pub kind : Kind
  pub label : ℕ
  pub accepted : submission_of m ≡ Ok (kind, label)
  pub taken : (accepted_as s.table kind label).0 ≡ Acceptance.Taken

-- of two ends, each by the state that counts and its history; `May`: what their owners submit
pub record PersistsWhere (May : State → List ℕ → Type 0) (R : State → History → State → History → Type 0) : Type 0 where
  pub none : R released_state no_history released_state no_history
  pub swapped : {s : State} {h : History} {t : State} {k : History} → R s h t k → R t k s h
  -- a change that leaves the words, the marks and the store
  pub same : {s : State} {h : History} {t : State} {k : History} → R s h t k → (u : State)
      → u.table.words ≡ s.table.words → u.marks ≡ s.marks → u.queue ≡ s.queue → R u h t k
  -- a connection ends
  pub ended : {s : State} {h : History} {t : State} {k : History} → R s h t k → R (broken s) h t k
  -- a message is accepted; o are those that the peer has not secured; nothing behind it is left out yet
  pub accepted : {s : State} {h : History} {t : State} {k : History} → R s h t k → (m : List ℕ) (o : List (List ℕ)) → accepted_in h ≡ k.secured ++ o
      → is_left h.left (length h.accepted) ≡ false → TakenIn s m → May s m → R (submitted s m) (accepts m h) t k
  -- Requests are left out of those that the peer has not secured, o before and p after
  pub marked : {s : State} {h : History} {t : State} {k : History} → R s h t k → (left : List ℕ) (o p : List (List ℕ)) → accepted_in h ≡ k.secured ++ o
      → without left 0 h.accepted ≡ k.secured ++ p → no_requests o ≡ no_requests p → R s (with_left left h) t k
  -- the oldest n are let go
  pub freed : {s : State} {h : History} {t : State} {k : History} → R s h t k → (n a : ℕ) → R (acked s n a) (takes (take n s.queue) [] h) t k
  -- and a message is taken that has its number
  pub carried : {s : State} {h : History} {t : State} {k : History} → R s h t k → (n a : ℕ) (g : Message) (m : List ℕ) → CarriedTo s.table.words (acked s n a) g m
      → R (taken s.table.words (acked s n a) g) (takes (take n s.queue) (m ∷ []) h) t k

-- whatever they submit
abbrev pub Any : State → List ℕ → Type 0
Any s m = Unit {0}

abbrev pub Persists : (State → History → State → History → Type 0) → Type 0
Persists R = PersistsWhere Any R
