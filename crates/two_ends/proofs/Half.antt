-- One direction: what holds between a sender, its peer, the messages on the line to it and the acknowledgements on the line back. Assumes nothing.
use Prim.Native.Nat.{ℕ, suc, ◌+◌, ◌<◌, ◌≤◌}
use mathlib.Core.Bool.{Bool, true, false}
use mathlib.Core.List.{List, [], ◌∷◌}
use mathlib.Core.Path.{◌≡◌}
use lib.ListN.{length, take, drop}
use Rattle.protocol.specs.LeftOut.{is_undone}
use Rattle.two_ends.specs.LeftOut.{is_left, without}
use Rattle.two_ends.proofs.Positions.{num}

-- the sender: R, I, what it holds, what it accepted, what it let go, and the positions of what it left out
pub record Snd (A : Type 0) : Type 0 where
  pub R : ℕ
  pub I : ℕ
  pub queue : List A
  pub accepted : List A
  pub letgo : List A
  pub left : List ℕ

-- the peer: S, and what it secured
pub record Rcv (A : Type 0) : Type 0 where
  pub S : ℕ
  pub secured : List A

-- ---- the messages of a line
-- k messages left out from position s on, and then the message m with its number n
pub record Gap {A : Type 0} (left : List ℕ) (acc : List A) (s n : ℕ) (m : A) : Type 0 where
  pub k : ℕ
  pub skipped : (j : ℕ) → j < k → is_left left (s + j) ≡ true
  pub borne : is_left left (s + k) ≡ false
  pub number : n ≡ num (suc (s + k))
  pub place : drop (s + k) acc ≡ m ∷ drop (suc (s + k)) acc

-- from position s on, each the accepted one at its place, up to position e
abbrev pub Flow : {A : Type 0} → List ℕ → List A → ℕ → List (ℕ × A) → ℕ → Type 0
Flow left acc s [] e = s ≡ e
Flow left acc s (d ∷ ds) e = (g : Gap left acc s d.0 d.1) × Flow left acc (suc (s + g.k)) ds e

-- the acknowledgements of a line: positions that rise from r to at most s
abbrev pub Asc : ℕ → List ℕ → ℕ → Type 0
Asc r [] s = r ≤ s
Asc r (x ∷ xs) s = (k : ℕ) × (x ≡ num k) × (r ≤ k) × Asc k xs s

-- ---- how the sender stands to its line
-- its line has no message, and all that comes back says s
pub record Rest (s n : ℕ) (acks : List ℕ) : Type 0 where
  pub none : n ≡ 0
  pub rising : Asc s acks s

-- the same, but it does not know yet that the connection is lost: what was secured, it had sent
pub record Lost (r s sent n : ℕ) (acks : List ℕ) : Type 0 where
  pub none : n ≡ 0
  pub rising : Asc s acks s
  pub reached : s ≤ r + sent

-- on a connection that is not resumed all that has a number was sent, and nothing was ever left out
abbrev pub First : Bool → List ℕ → ℕ → ℕ → Type 0
First true left p i = Unit {0}
First false left p i = (p ≡ i) × (left ≡ [])

-- all that it sent on the connection was secured or is under way, up to position e
pub record Live (resumed : Bool) (left : List ℕ) (r s e i sent : ℕ) (acks : List ℕ) : Type 0 where
  pub all : e ≡ r + sent
  pub rising : Asc r acks s
  pub first : First resumed left (r + sent) i

-- a sender that is up (UpFT) or not, on the connection or not, and whether it is resumed
abbrev pub Line : Bool → Bool → Bool → List ℕ → ℕ → ℕ → ℕ → ℕ → ℕ → ℕ → List ℕ → Type 0
Line false joined resumed left r s e i sent n acks = Rest s n acks
Line true false resumed left r s e i sent n acks = Lost r s sent n acks
Line true true resumed left r s e i sent n acks = Live resumed left r s e i sent acks

-- ---- the books at the positions r (let go), s (secured), i (numbered)
pub record Books {A : Type 0} (x : Snd A) (y : Rcv A) (r i s : ℕ) : Type 0 where
  pub is_r : x.R ≡ num r
  pub is_i : x.I ≡ num i
  pub is_s : y.S ≡ num s
  pub rel : x.letgo ≡ take r x.accepted
  pub que : x.queue ≡ drop r x.accepted
  pub sec : y.secured ≡ without x.left 0 (take s x.accepted)
  pub rs : r ≤ s
  pub si : s ≤ i
  pub ia : i ≤ length x.accepted
  pub room : length x.accepted ≤ r + 64

-- what was left out has a number, and is a Request whose Abort was accepted behind it: so it stays, for both stay as long as one of them is held
abbrev pub Marked : List ℕ → List (List ℕ) → ℕ → Type 0
Marked left acc i = (j : ℕ) → is_left left j ≡ true → (j < i) × (is_undone (drop j acc) ≡ true)

-- with the count sent, and how the sender stands to its line
pub record Half (x : Snd (List ℕ)) (sent : ℕ) (up joined resumed : Bool) (y : Rcv (List ℕ)) (dat : List (ℕ × List ℕ)) (acks : List ℕ) : Type 0 where
  pub r : ℕ
  pub i : ℕ
  pub s : ℕ
  pub e : ℕ
  pub books : Books x y r i s
  pub sent_i : r + sent ≤ i
  pub marks : Marked x.left x.accepted i
  pub flow : Flow x.left x.accepted s dat e
  pub line : Line up joined resumed x.left r s e i sent (length dat) acks
