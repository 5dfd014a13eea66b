-- The oldest message of a line, and the four that it may be. Assumes nothing.
use Rattle.std.specs.Prelude.{Option}
use Prim.Native.Nat.{ℕ}
use mathlib.Core.Bool.{Bool, false, true, true≢false}
use mathlib.Core.List.{List, map, ◌∷◌}
use mathlib.Core.Path.{◌≡◌, refl, sym}
use Rattle.ft_number.specs.declared.FtNumber.{FtNumber}
use Rattle.ft_number.specs.declared.MessageId.{MessageId}
use Rattle.ft_number.specs.declared.Timeout.{Timeout}
use Rattle.message_writer.specs.declared.OwnParameters.{OwnParameters}
use Rattle.protocol.specs.declared.Phase.{Phase}
use Rattle.protocol.specs.Phases.{up_with, waiting_for}
use Rattle.protocol.specs.State.{State}
use Rattle.two_ends.specs.World.{End, History}
use Rattle.two_ends.proofs.Delivering.{oldest, Oldest}
use Rattle.two_ends.proofs.Invariant.{Headed, Inv, Leads, Shape, Holds}
use Rattle.two_ends.proofs.Packets.{NoInit, Packet, again, alive, bytes_of, carried, first}
use Rattle.two_ends.proofs.Takes.{headed, nil_cons}
use Rattle.two_ends.proofs.Worlds.{ended}

never : {P : Type 0} → true ≡ false → P
never e = absurd (true≢false e)

-- a reader that is up reads no Init
up_reads : (jo bg k : Bool) (ps : List Packet) (q : Packet) → Shape jo true bg k (q ∷ ps) → NoInit (q ∷ ps)
up_reads true bg k ps q s = s
up_reads false bg k ps q s = nil_cons s.0

-- of the end that reads, the message and those behind it; b is its peer, and ab the line to it
module _ (Q : End → List ℕ → List (List ℕ) → Type 0) (b : End) (ab : List (List ℕ)) where
  pub record Oldests : Type 0 where
    -- the Init of the start, at an end that has not begun: R is zero in it, or in that end's own
    pub firsts : (now : State) (t : ℕ) (h : History) (id : MessageId) (p : OwnParameters) (said : Timeout) (ack : Option FtNumber) (qs : List Packet) {ba : List (List ℕ)} {pa : List Packet}
        → Leads now.kept ack → Inv (ended now (waiting_for t) true false h) b ab ba pa (first id p said ack ∷ qs)
        → Q (ended now (waiting_for t) true false h) (bytes_of (first id p said ack)) (map bytes_of qs)
    -- a later Init
    pub agains : (now : State) (t : ℕ) (h : History) (id : MessageId) (p : OwnParameters) (said : Timeout) (a : FtNumber) (qs : List Packet) {ba : List (List ℕ)} {pa : List Packet}
        → Inv (ended now (waiting_for t) true true h) b ab ba pa (again id p said a ∷ qs)
        → Q (ended now (waiting_for t) true true h) (bytes_of (again id p said a)) (map bytes_of qs)
    -- a KeepAlive
    pub alives : (now : State) (re : Bool) (sent : ℕ) (h : History) (id : MessageId) (n : FtNumber) (qs : List Packet) {ba : List (List ℕ)} {pa : List Packet}
        → Inv (ended now (up_with re sent) true true h) b ab ba pa (alive id n ∷ qs)
        → Q (ended now (up_with re sent) true true h) (bytes_of (alive id n)) (map bytes_of qs)
    -- a message with its number
    pub carries : (now : State) (re : Bool) (sent : ℕ) (h : History) (m : List ℕ) (n : FtNumber) (ack : Option FtNumber) (qs : List Packet) {ba : List (List ℕ)} {pa : List Packet}
        → Inv (ended now (up_with re sent) true true h) b ab ba pa (carried m n ack ∷ qs)
        → Q (ended now (up_with re sent) true true h) (bytes_of (carried m n ack)) (map bytes_of qs)

  module _ (c : Oldests) (now : State) (h : History) {ba : List (List ℕ)} {pa qs : List Packet} where
    init-case : (t : ℕ) (bg : Bool) (q : Packet) → Headed bg now.kept (q ∷ qs) → Inv (ended now (waiting_for t) true bg h) b ab ba pa (q ∷ qs)
        → Q (ended now (waiting_for t) true bg h) (bytes_of q) (map bytes_of qs)
    init-case t true (first id p said ack) w i = never w.0
    init-case t false (first id p said ack) w i = c.firsts now t h id p said ack qs w.1 i
    init-case t true (again id p said a) w i = c.agains now t h id p said a qs i
    init-case t false (again id p said a) w i = never (sym w.0)
    init-case t bg (alive id n) w i = absurd w
    init-case t bg (carried m n ack) w i = absurd w

    message_case : (re : Bool) (sent : ℕ) (q : Packet) → NoInit (q ∷ qs) → Inv (ended now (up_with re sent) true true h) b ab ba pa (q ∷ qs)
        → Q (ended now (up_with re sent) true true h) (bytes_of q) (map bytes_of qs)
    message_case re sent (first id p said ack) none i = absurd none
    message_case re sent (again id p said a) none i = absurd none
    message_case re sent (alive id n) none i = c.alives now re sent h id n qs i
    message_case re sent (carried m n ack) none i = c.carries now re sent h m n ack qs i

  module _ (c : Oldests) (now : State) (h : History) {m : List ℕ} {rest ba : List (List ℕ)} {pa ps : List Packet} {q : Packet} {qs : List Packet} (o : Oldest m rest ps q qs) where
    init_oldest : (t : ℕ) (bg : Bool) → Inv (ended now (waiting_for t) true bg h) b ab ba pa ps → Q (ended now (waiting_for t) true bg h) m rest
    init_oldest t bg i =
        let j = rw o.is at i in
        rw (o.bytes, o.line) (init-case c now h t bg q (headed b.joined bg now.kept q qs j.back.shape) j)

    message_oldest : (re : Bool) (sent : ℕ) → Inv (ended now (up_with re sent) true true h) b ab ba pa ps → Q (ended now (up_with re sent) true true h) m rest
    message_oldest re sent i =
        let j = rw o.is at i in
        rw (o.bytes, o.line) (message_case c now h re sent q (up_reads b.joined true now.kept qs q j.back.shape) j)

  module _ (c : Oldests) (now : State) (h : History) (m : List ℕ) (rest : List (List ℕ)) where
    by_phase : (ph : Phase) (jo bg : Bool) → jo ≡ true → Holds (ended now ph jo bg h) b ab (m ∷ rest) → Q (ended now ph jo bg h) m rest
    by_phase ph false bg on s = never (sym on)
    by_phase Phase.Idle true bg on s = never (sym (s.2.own.linked refl))
    by_phase (Phase.InitWait v) true bg on s = init_oldest c now h (oldest m rest s.1 s.2.line_b).2 v.timeout bg s.2
    by_phase (Phase.UpFT u) true false on s = never (sym (s.2.own.waiting refl).waits)
    by_phase (Phase.UpFT u) true true on s = message_oldest c now h (oldest m rest s.1 s.2.line_b).2 u.resumed u.sent s.2
    by_phase Phase.UpPlain true bg on s = never (sym (s.2.own.linked refl))
    by_phase Phase.Failed true bg on s = never (sym (s.2.own.linked refl))

  pub by_oldest : Oldests → (a : End) (m : List ℕ) (rest : List (List ℕ)) → a.joined ≡ true → Holds a b ab (m ∷ rest) → Q a m rest
  by_oldest c a m rest on s = by_phase c a.state a.history m rest a.phase a.joined a.begun on s
