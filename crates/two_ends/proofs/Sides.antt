-- The two directions after each event at one end. Assumes nothing.
use Prim.Native.Nat.{ℕ, ◌<◌}
use mathlib.Core.Bool.{Bool, true, false}
use mathlib.Core.List.{List, [], ◌∷◌, ◌++◌, append-nil}
use mathlib.Core.Path.{◌≡◌, refl}
use native.Mathlib.Omega.{arith}
use lib.ListN.{length}
use Rattle.ft_number.specs.declared.MessageId.{MessageId}
use Rattle.ft_number.specs.declared.Timeout.{Timeout}
use Rattle.ft_number.specs.Timeout.{millis_of}
use Rattle.message_writer.specs.declared.OwnParameters.{OwnParameters}
use Rattle.protocol.specs.declared.Phase.{Phase}
use Rattle.protocol.specs.Phases.{up_with, waiting_for}
use Rattle.protocol.specs.State.{State}
use Rattle.protocol.specs.Step.{broken}
use Rattle.protocol.specs.Submit.{submitted}
use Rattle.two_ends.specs.Calls.{accepts}
use Rattle.two_ends.specs.World.{History}
use Rattle.two_ends.proofs.Direction.{half_accept, half_ack_out, half-lost, half-again, half-rest}
use Rattle.two_ends.proofs.Invariant.{Side, live, Headed, Shape, Dir}
use Rattle.two_ends.proofs.Packets.{Packet, first, again, alive, carried, Fine, NoInit, datas, datas-append, acks-append, fines_snoc, noinit_snoc}

-- an end by its parts
abbrev pub side : State → Bool → Phase → Bool → Bool → History → Side
side s k ph jo bg h = record { state = s; kept = k; phase = ph; joined = jo; begun = bg; history = h }

abbrev pub lost : Side → Side
lost x = side x.state x.kept x.phase false x.begun x.history

-- "as connection failed", off the connection
abbrev pub failed : Side → Side
failed x = side (broken x.state) x.kept Phase.Failed false x.begun x.history

-- ---- the connection is lost
module _ {x y : Side} {to fro : List Packet} (d : Dir x y to fro) (begun : y.begun ≡ true) where
  pub dir_lost : Dir (lost x) (lost y) [] []
  dir_lost = record { half = half-lost d.half; shape = (refl, refl, begun); fines = tt }

  -- and the sender has failed, or its peer
  pub dir_failed : Dir (failed x) (lost y) [] []
  dir_failed = record { half = half-again d.half false false; shape = (refl, refl, begun); fines = tt }

  pub dir_failed_peer : Dir (lost x) (failed y) [] []
  dir_failed_peer = record { half = half-lost d.half; shape = (refl, refl, begun); fines = tt }

-- ---- an end that is not on the connection fails
module _ (s : State) (k : Bool) (ph : Phase) (bg : Bool) (h : History) {y : Side} {to fro : List Packet} where
  pub dir_rest : Dir (side s k ph false bg h) y to fro → Dir (failed (side s k ph false bg h)) y to fro
  dir_rest d = record { half = half-rest false false d.half; shape = d.shape; fines = d.fines }

  pub dir_rest_peer : Dir y (side s k ph false bg h) fro to → Dir y (failed (side s k ph false bg h)) fro to
  dir_rest_peer d = record { half = d.half; shape = d.shape; fines = d.fines }

-- ---- a message is accepted
module _ (s : State) (k : Bool) (ph : Phase) (jo bg : Bool) (h : History) (m : List ℕ) {y : Side} {to fro : List Packet} where
  pub dir_accept : length s.queue < 64 → Dir (side s k ph jo bg h) y to fro → Dir (side (submitted s m) k ph jo bg (accepts m h)) y to fro
  unfolding submitted
  dir_accept room d = record { half = half_accept d.half m room; shape = d.shape; fines = d.fines }

  pub dir_accept_peer : Dir y (side s k ph jo bg h) fro to → Dir y (side (submitted s m) k ph jo bg (accepts m h)) fro to
  unfolding submitted
  dir_accept_peer d = record { half = d.half; shape = d.shape; fines = d.fines }

-- ---- one more message on a line
headed_snoc : (bg k : Bool) (ps : List Packet) (p : Packet) → NoInit (p ∷ []) → Headed bg k ps → Headed bg k (ps ++ (p ∷ []))
headed_snoc bg k [] p n h = absurd h
headed_snoc bg k (first id q said ack ∷ ps) p n h = (h.0, h.1, noinit_snoc ps p h.2 n)
headed_snoc bg k (again id q said s ∷ ps) p n h = (h.0, noinit_snoc ps p h.1 n)
headed_snoc bg k (alive id s ∷ ps) p n h = absurd h
headed_snoc bg k (carried m c ack ∷ ps) p n h = absurd h

pub shape_snoc : (up bg k : Bool) (ps : List Packet) (p : Packet) → NoInit (p ∷ []) → Shape true up bg k ps → Shape true up bg k (ps ++ (p ∷ []))
shape_snoc true bg k ps p n h = noinit_snoc ps p h n
shape_snoc false bg k ps p n h = headed_snoc bg k ps p n h

-- ---- a KeepAlive
module _ (s : State) (k re : Bool) (sent : ℕ) (bg : Bool) (h : History) (id : MessageId) {y : Side} {to fro : List Packet} where
  pub dir_alive : Fine (alive id s.secured) → Dir (side s k (up_with re sent) true bg h) y to fro
      → Dir (side s k (up_with re sent) true bg h) y (to ++ (alive id s.secured ∷ [])) fro
  dir_alive f d = record {
    half = rw (datas-append to (alive id s.secured ∷ []), append-nil (datas to)) d.half;
    shape = shape_snoc (live y) y.begun y.kept to (alive id s.secured) tt d.shape;
    fines = fines_snoc to (alive id s.secured) d.fines f;
  }

  pub dir_alive_peer : Dir y (side s k (up_with re sent) true bg h) fro to
      → Dir y (side s k (up_with re sent) true bg h) fro (to ++ (alive id s.secured ∷ []))
  dir_alive_peer d = record { half = rw (acks-append to (alive id s.secured ∷ [])) (half_ack_out d.half); shape = d.shape; fines = d.fines }

-- ---- an end opens
module _ (s : State) (k : Bool) (t : Timeout) (h : History) (id : MessageId) (p : OwnParameters) {y : Side} {fro : List Packet} where
  pub dir_open : Fine (again id p t s.secured) → Dir (side s k Phase.Failed false true h) y [] fro
      → Dir (side s k (waiting_for (millis_of t)) true true h) y (again id p t s.secured ∷ []) fro
  dir_open f d = record { half = half-rest true false d.half; shape = headed (live y) d.shape.1; fines = (f, tt) }
    where
      headed : (up : Bool) → up ≡ false → Shape true up y.begun y.kept (again id p t s.secured ∷ [])
      headed true e = let z : ◌≡◌ {A = ℕ} 0 1 = cc in absurd (omega arith)
      headed false e = (d.shape.2, tt)

  pub dir_open_peer : Dir y (side s k Phase.Failed false true h) fro []
      → Dir y (side s k (waiting_for (millis_of t)) true true h) fro (again id p t s.secured ∷ [])
  dir_open_peer d = record { half = half_ack_out d.half; shape = d.shape; fines = d.fines }
