-- The two directions after the oldest message of a line is taken. Assumes nothing.
use Rattle.std.specs.Prelude.{Option, Some, None}
use Prim.Native.Nat.{ℕ, ◌-◌}
use mathlib.Core.Bool.{Bool, true, false}
use mathlib.Core.List.{List, [], ◌∷◌, append-nil}
use mathlib.Core.Path.{◌≡◌, refl}
use native.Mathlib.Omega.{arith}
use lib.ListN.{take}
use Rattle.ft_number.specs.declared.FtNumber.{FtNumber}
use Rattle.ft_number.specs.declared.MessageId.{MessageId}
use Rattle.ft_number.specs.declared.Timeout.{Timeout}
use Rattle.ft_number.specs.Ack.{ack_of}
use Rattle.ft_number.specs.Circle.{steps_of}
use Rattle.message.specs.declared.Message.{Message}
use Rattle.message_writer.specs.declared.OwnParameters.{OwnParameters}
use Rattle.protocol.specs.declared.Terms.{Terms}
use Rattle.protocol.specs.Acked.{ack_borne, acked}
use Rattle.protocol.specs.Init.{fresh, resumed}
use Rattle.protocol.specs.Phases.{up_with, waiting_for}
use Rattle.protocol.specs.Receive.{ack_on, taken, received_state}
use Rattle.protocol.specs.State.{State, released_state}
use Rattle.two_ends.specs.Calls.{takes}
use Rattle.two_ends.specs.World.{History, no_history}
use Rattle.two_ends.proofs.Direction.{half_secure}
use Rattle.two_ends.proofs.Freeing.{Freed, half_none, half_ack, half-init}
use Rattle.two_ends.proofs.Half.{Half}
use Rattle.two_ends.proofs.Invariant.{Side, snd_of, rcv_of, Headed, Shape, Dir}
use Rattle.two_ends.proofs.Packets.{Packet, first, again, alive, carried, datas, acks_of}
use Rattle.two_ends.proofs.Sides.{side}

pub nil_cons : {P : Type 0} {p : Packet} {ps : List Packet} → p ∷ ps ≡ [] → P
nil_cons e = let z : ◌≡◌ {A = ℕ} 0 1 = cc in absurd (omega arith)

-- ---- the peer's first Init
-- a reader that is not up: the sender's Init comes first
pub headed : (jo bg k : Bool) (p : Packet) (ps : List Packet) → Shape jo false bg k (p ∷ ps) → Headed bg k (p ∷ ps)
headed true bg k p ps h = h
headed false bg k p ps h = nil_cons h.0

module _ (k : Bool) (t : ℕ) (terms : Terms) (k' : Bool) where
  abbrev unbegun : Side
  unbegun = side released_state k (waiting_for t) true false no_history

  abbrev begun : Side
  begun = side (fresh terms) k' (up_with false 0) true true no_history

  module _ (id : MessageId) (p : OwnParameters) (said : Timeout) (ack : Option FtNumber) {y : Side} {to rest : List Packet} where
    pub dir_fresh : Dir unbegun y to (first id p said ack ∷ rest) → Dir begun y to rest
    unfolding fresh ack_of steps_of
    dir_fresh d = record { half = by (half-init {x = snd_of released_state no_history} false (λ r i l few. (omega arith, refl)) d.half); shape = d.shape; fines = d.fines }
      where
        by : (j : ℕ) × Freed (snd_of released_state no_history) 0 false (rcv_of y.state y.history) (datas to) (acks_of rest) 0 j
            → Half (snd_of (fresh terms) no_history) 0 true true false (rcv_of y.state y.history) (datas to) (acks_of rest)
        by f =
            let same : Some 0 ≡ Some f.0 = f.1.right in
            let z : f.0 ≡ 0 = cc in
            rw z at f.1.half

    pub dir_fresh_peer : Dir y unbegun (first id p said ack ∷ rest) to → Dir y begun rest to
    unfolding fresh
    dir_fresh_peer d = record { half = d.half; shape = by y.joined d.shape; fines = d.fines.1 }
      where
        by : (jo : Bool) → Shape jo false false k (first id p said ack ∷ rest) → Shape jo true true k' rest
        by true h = h.2
        by false h = nil_cons h.0

-- ---- a later Init
module _ (s : State) (t : ℕ) (h : History) (a : FtNumber) (terms : Terms) (j : ℕ) where
  abbrev greeting : Side
  greeting = side s s.kept (waiting_for t) true true h

  abbrev greeted : Side
  greeted = side (resumed s terms j a.0) (resumed s terms j a.0).kept (up_with true 0) true true (takes (take j s.queue) [] h)

  module _ (id : MessageId) (p : OwnParameters) (said : Timeout) {y : Side} {to rest : List Packet} where
    pub dir_resume : Freed (snd_of s h) 0 true (rcv_of y.state y.history) (datas to) (acks_of rest) a.0 j
        → Dir greeting y to (again id p said a ∷ rest) → Dir greeted y to rest
    unfolding resumed acked
    dir_resume f d = let z : 0 - j ≡ 0 = omega arith in record { half = rw z at f.half; shape = d.shape; fines = d.fines }

    pub dir_resume_peer : Dir y greeting (again id p said a ∷ rest) to → Dir y greeted rest to
    unfolding resumed acked
    dir_resume_peer d = record { half = rw (append-nil h.secured) d.half; shape = by y.joined d.shape; fines = d.fines.1 }
      where
        by : (jo : Bool) → Shape jo false true s.kept (again id p said a ∷ rest) → Shape jo true true s.kept rest
        by true q = q.1
        by false q = nil_cons q.0

-- ---- a message in UpFT
-- what its ACK releases
pub arrives : (s : State) (h : History) (re : Bool) (sent : ℕ) (y : Side) (to rest : List Packet) (m : List ℕ) (n : FtNumber) (ack : Option FtNumber)
    → Half (snd_of s h) sent true true re (rcv_of y.state y.history) (datas to) (acks_of (carried m n ack ∷ rest))
    → (j : ℕ) × Freed (snd_of s h) sent re (rcv_of y.state y.history) (datas to) (acks_of rest) (ack_borne s ack) j
arrives s h re sent y to rest m n None p = (0, half_none p)
arrives s h re sent y to rest m n (Some a) p = half_ack p

module _ (s : State) (re : Bool) (sent : ℕ) (h : History) (g : Message) (j : ℕ) (acks : ack_on s g ≡ Some j) where
  abbrev taking : Side
  taking = side s s.kept (up_with re sent) true true h

  abbrev took : List (List ℕ) → Side
  took got = side (received_state s g) (received_state s g).kept (up_with re (sent - j)) true true (takes (take j s.queue) got h)

  module _ {y : Side} {to : List Packet} where
    pub dir_took : (got : List (List ℕ)) (rest : List Packet) → Freed (snd_of s h) sent re (rcv_of y.state y.history) (datas to) (acks_of rest) (ack_borne s g.ack) j
        → {fro : List Packet} → Dir taking y to fro → Dir (took got) y to rest
    unfolding received_state taken acked
    dir_took got rest f d = record { half = rw acks f.half; shape = d.shape; fines = d.fines }

    module _ {rest : List Packet} where
      pub dir_took-alive : g.protection ≡ None → (id : MessageId) (n : FtNumber) → Dir y taking (alive id n ∷ rest) to
          → Dir y (took []) rest to
      unfolding received_state taken acked
      dir_took-alive bare id n d = record { half = rw (bare, append-nil h.secured) d.half; shape = by y.joined d.shape; fines = d.fines.1 }
        where
          by : (jo : Bool) → Shape jo true true s.kept (alive id n ∷ rest) → Shape jo true true s.kept rest
          by true q = q
          by false q = nil_cons q.0

      pub dir_took-carried : (m : List ℕ) (n : FtNumber) (ack : Option FtNumber) → g.protection ≡ Some n
          → Dir y taking (carried m n ack ∷ rest) to → Dir y (took (m ∷ [])) rest to
      unfolding received_state taken acked
      dir_took-carried m n ack borne d = record { half = rw borne (half_secure d.half); shape = by y.joined d.shape; fines = d.fines.1 }
        where
          by : (jo : Bool) → Shape jo true true s.kept (carried m n ack ∷ rest) → Shape jo true true s.kept rest
          by true q = q
          by false q = nil_cons q.0
