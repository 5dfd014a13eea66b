-- What holds of the two ends and their lines as long as neither has released its state. Assumes nothing.
use Rattle.std.specs.Prelude.{Option, None}
use Prim.Native.Nat.{ℕ, ◌≤◌}
use mathlib.Core.Bool.{Bool, true, false}
use mathlib.Core.List.{List, [], ◌∷◌, map}
use mathlib.Core.Logic.{◌⊎◌}
use mathlib.Core.Path.{◌≡◌}
use Rattle.octets.specs.Pick.{pick, both}
use Rattle.ft_number.specs.declared.FtNumber.{FtNumber}
use Rattle.protocol.specs.declared.Phase.{Phase}
use Rattle.protocol.specs.Phases.{is_up_ft, resumed_of, sent_of, awaits}
use Rattle.protocol.specs.State.{State, released_state, held, capacity}
use Rattle.two_ends.specs.Calls.{keeps}
use Rattle.two_ends.specs.World.{History, End, World, no_history, Lasts}
use Rattle.two_ends.proofs.Half.{Snd, Rcv, Half}
use Rattle.two_ends.proofs.Packets.{Packet, first, again, alive, carried, bytes_of, Okays, Fines, NoInit, datas, acks_of}

-- ---- an end as the other one sees it
-- the state that counts: before its own fresh UpFT it is as released; and the kept of its own
pub record Side : Type 0 where
  pub state : State
  pub kept : Bool
  pub phase : Phase
  pub joined : Bool
  pub begun : Bool
  pub history : History

abbrev pub side_of : End → Side
side_of e = record {
  state = pick e.begun e.state released_state;
  kept = e.state.kept;
  phase = e.phase;
  joined = e.joined;
  begun = e.begun;
  history = e.history;
}

abbrev pub snd_of : State → History → Snd (List ℕ)
snd_of s h = record { R = s.released.0; I = s.issued.0; queue = s.queue; accepted = h.accepted; letgo = h.letgo; left = h.left }

abbrev pub rcv_of : State → History → Rcv (List ℕ)
rcv_of s h = record { S = s.secured.0; secured = h.secured }

-- up on the present connection
abbrev pub live : Side → Bool
live x = both x.joined (is_up_ft x.phase)

-- whether the connection is a later one than that on which both began: an end that is up on it knows, one that awaits the peer's Init has begun or not
abbrev pub later : Side → Bool
later x = pick (live x) (resumed_of x.phase) x.begun

-- ---- what stands on a line
-- R is zero in that Init, or in ours
abbrev pub Leads : Bool → Option FtNumber → Type 0
Leads kept ack = (ack ≡ None) ⊎ (kept ≡ false)

-- the reader has not read the sender's Init yet: it comes first, and once; the reader has begun or not, and its state has that kept
abbrev pub Headed : Bool → Bool → List Packet → Type 0
Headed begun kept [] = ⊥
Headed begun kept (first id p said ack ∷ ps) = (begun ≡ false) × Leads kept ack × NoInit ps
Headed begun kept (again id p said s ∷ ps) = (begun ≡ true) × NoInit ps
Headed begun kept (alive id s ∷ ps) = ⊥
Headed begun kept (carried m n ack ∷ ps) = ⊥

-- the sender is on the connection or not, the reader is up on it or not
abbrev pub Shape : Bool → Bool → Bool → Bool → List Packet → Type 0
Shape false up begun kept ps = (ps ≡ []) × (up ≡ false) × (begun ≡ true)
Shape true true begun kept ps = NoInit ps
Shape true false begun kept ps = Headed begun kept ps

-- ---- one direction: x sends, y reads
pub record Dir (x y : Side) (to fro : List Packet) : Type 0 where
  pub half : Half (snd_of x.state x.history) (sent_of x.phase) (is_up_ft x.phase) x.joined (resumed_of x.phase) (rcv_of y.state y.history) (datas to) (acks_of fro)
  pub shape : Shape x.joined (live y) y.begun y.kept to
  pub fines : Fines to

-- ---- one end
pub record Waiting (e : End) : Type 0 where
  pub on : e.joined ≡ true
  pub waits : awaits e.phase ≡ true
  pub nothing : e.history ≡ no_history

-- the phases of an end that is on the connection
abbrev pub linkable : Phase → Bool
linkable Phase.Idle = false
linkable (Phase.InitWait v) = true
linkable (Phase.UpFT u) = true
linkable Phase.UpPlain = false
linkable Phase.Failed = false

-- the phases of an end that keeps its state
abbrev pub keepable : Phase → Bool
keepable Phase.Idle = false
keepable (Phase.InitWait v) = true
keepable (Phase.UpFT u) = true
keepable Phase.UpPlain = false
keepable Phase.Failed = true

pub record Ready (e : End) : Type 0 where
  pub few : held e.state ≤ capacity
  pub possible : keepable e.phase ≡ true
  pub keeping : keeps e ≡ true
  pub okays : Okays e.history.accepted
  -- an end that has not come to its fresh UpFT awaits the peer's Init on the first connection
  pub waiting : e.begun ≡ false → Waiting e
  pub linked : e.joined ≡ true → linkable e.phase ≡ true

-- ---- both
pub record Inv (a b : End) (ab ba : List (List ℕ)) (pa pb : List Packet) : Type 0 where
  pub line_a : ab ≡ map bytes_of pa
  pub line_b : ba ≡ map bytes_of pb
  pub own : Ready a
  pub peer : Ready b
  pub out : Dir (side_of a) (side_of b) pa pb
  pub back : Dir (side_of b) (side_of a) pb pa
  -- both ends agree on whether the connection is resumed
  pub agree : later (side_of a) ≡ later (side_of b)

abbrev pub Holds : End → End → List (List ℕ) → List (List ℕ) → Type 0
Holds a b ab ba = (pa : List Packet) × (pb : List Packet) × Inv a b ab ba pa pb

abbrev pub Good : World → Type 0
Good w = Lasts w → Holds w.a w.b w.ab w.ba
