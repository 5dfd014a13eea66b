-- The two directions after a message is sent. Assumes nothing.
use Rattle.std.specs.Prelude.{Option, Some, None}
use Prim.Native.Nat.{ℕ, ◌+◌}
use mathlib.Core.Bool.{Bool, true, false}
use mathlib.Core.List.{List, [], ◌∷◌, ◌++◌, append-nil}
use mathlib.Core.Path.{◌≡◌, refl}
use lib.Dec.{ltb}
use lib.ListN.{length, drop}
use Rattle.octets.specs.Pick.{pick}
use Rattle.ft_number.specs.declared.FtNumber.{FtNumber}
use Rattle.ft_number.specs.Circle.{after}
use Rattle.protocol.specs.LeftOut.{left_out_from, next_place}
use Rattle.protocol.specs.Phases.{issued_count, up_with}
use Rattle.protocol.specs.Send.{queue_number, ack_asked, numbered, sent_state}
use Rattle.protocol.specs.State.{State}
use Rattle.protocol.proofs.Sends.{sent_kept}
use Rattle.two_ends.specs.LeftOut.{positions}
use Rattle.two_ends.specs.World.{History}
use Rattle.two_ends.proofs.Books.{issues}
use Rattle.two_ends.proofs.Direction.{half_ack_out}
use Rattle.two_ends.proofs.Invariant.{Side, snd_of, rcv_of, live, Dir}
use Rattle.two_ends.proofs.Packets.{Packet, carried, Fine, acks_of, datas-append, acks-append, fines_snoc}
use Rattle.two_ends.proofs.Passing.{half_send, half-send-lost}
use Rattle.two_ends.proofs.Sides.{side, shape_snoc}

-- ---- what is sent, as the sender and its peer see it
-- the history after k messages were passed over
abbrev pub left_history : ℕ → ℕ → History → History
left_history sent k h = record {
  accepted = h.accepted;
  letgo = h.letgo;
  secured = h.secured;
  left = h.left ++ positions (length h.letgo + sent) k;
}

module _ (s : State) (sent : ℕ) (h : History) where
  abbrev pub k : ℕ
  k = left_out_from s sent

  abbrev pub at : ℕ
  at = next_place s sent

  sent_view : snd_of (sent_state s at) (left_history sent k h) ≡ issues sent k (snd_of s h)
  unfolding sent_state numbered issued_count queue_number
  sent_view = by (ltb at (issued_count s))
    where
      by : (b : Bool) → snd_of (pick b s (numbered s at)) (left_history sent k h)
          ≡ record {
            R = s.released.0;
            I = pick b s.issued.0 (after (at + 1) s.released.0);
            queue = s.queue;
            accepted = h.accepted;
            letgo = h.letgo;
            left = h.left ++ positions (length h.letgo + sent) k;
          }
      by true = refl
      by false = refl

  sent_secured : rcv_of (sent_state s at) (left_history sent k h) ≡ rcv_of s h
  unfolding sent_state numbered
  sent_secured = by (ltb at (issued_count s))
    where
      by : (b : Bool) → rcv_of (pick b s (numbered s at)) (left_history sent k h) ≡ rcv_of s h
      by true = refl
      by false = refl

abbrev before_sending : State → Bool → ℕ → Bool → Bool → History → Side
before_sending s re sent jo bg h = side s s.kept (up_with re sent) jo bg h

abbrev after_sending : State → Bool → ℕ → Bool → Bool → History → Side
after_sending s re sent jo bg h =
    side (sent_state s (next_place s sent)) (sent_state s (next_place s sent)).kept (up_with re (next_place s sent + 1)) jo bg (left_history sent (left_out_from s sent) h)

-- the number of what is sent
abbrev next : State → ℕ → FtNumber
next s sent = queue_number s (next_place s sent)

-- ---- the sender
module _ (s : State) (re : Bool) (sent : ℕ) (bg : Bool) (h : History) (m : List ℕ) (ms : List (List ℕ)) (e : drop (next_place s sent) s.queue ≡ m ∷ ms)
    {y : Side} {to fro : List Packet} where
  pub dir_send : (ack : Option FtNumber) → Fine (carried m (next s sent) ack) → Dir (before_sending s re sent true bg h) y to fro
      → Dir (after_sending s re sent true bg h) y (to ++ (carried m (next s sent) ack ∷ [])) fro
  unfolding queue_number issued_count
  dir_send ack f d = record {
    half = rw (sent_view s sent h, datas-append to (carried m (next s sent) ack ∷ [])) (half_send m ms e d.half);
    shape = shape_snoc (live y) y.begun y.kept to (carried m (next s sent) ack) tt d.shape;
    fines = fines_snoc to (carried m (next s sent) ack) d.fines f;
  }

  -- into a connection that is lost
  pub dir_send-lost : Dir (before_sending s re sent false bg h) y to fro → Dir (after_sending s re sent false bg h) y to fro
  unfolding issued_count
  dir_send-lost d = record { half = rw (sent_view s sent h) (half-send-lost m ms e d.half); shape = d.shape; fines = d.fines }

-- ---- its peer
module _ (s : State) (re : Bool) (sent : ℕ) (bg : Bool) (h : History) {y : Side} {to fro : List Packet} where
  pub dir_send_peer : (ask : Bool) (m : List ℕ) (n : FtNumber) → Dir y (before_sending s re sent true bg h) fro to
      → Dir y (after_sending s re sent true bg h) fro (to ++ (carried m n (ack_asked ask s) ∷ []))
  unfolding ack_asked
  dir_send_peer true m n d = record {
    half = rw (sent_secured s sent h, acks-append to (carried m n (Some s.secured) ∷ [])) (half_ack_out d.half);
    shape = rw (sent_kept s (next_place s sent)) d.shape;
    fines = d.fines;
  }
  dir_send_peer false m n d = record {
    half = rw (sent_secured s sent h, acks-append to (carried m n None ∷ []), append-nil (acks_of to)) d.half;
    shape = rw (sent_kept s (next_place s sent)) d.shape;
    fines = d.fines;
  }

  pub dir_send-lost_peer : Dir y (before_sending s re sent false bg h) fro to → Dir y (after_sending s re sent false bg h) fro to
  dir_send-lost_peer d = record { half = rw (sent_secured s sent h) d.half; shape = rw (sent_kept s (next_place s sent)) d.shape; fines = d.fines }
