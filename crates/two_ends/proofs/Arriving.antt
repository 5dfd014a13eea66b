-- A KeepAlive, or a message with its number, is delivered in UpFT. Assumes nothing.
use Rattle.std.specs.Prelude.{Ok, Option, Some}
use Prim.Native.Nat.{ℕ, ◌+◌, ◌^◌, ◌<◌}
use mathlib.Core.Bool.{true, false, Bool}
use mathlib.Core.List.{List, [], ◌∷◌, map}
use mathlib.Core.Path.{◌≡◌, refl, ap, ◌∙◌}
use native.Mathlib.Omega.{arith}
use lib.ListN.{length}
use Rattle.octets.specs.Pick.{pick, both}
use Rattle.ft_number.specs.declared.FtNumber.{FtNumber}
use Rattle.ft_number.specs.declared.MessageId.{MessageId}
use Rattle.ft_number.specs.Turn.{number_turn}
use Rattle.ft_number.proofs.Circle.{after-suc}
use Rattle.message.specs.declared.Message.{Message}
use Rattle.message.specs.Kinds.{kind_of}
use Rattle.message.specs.Reading.{reading_of}
use Rattle.message.proofs.Laws.{accepted}
use Rattle.message_writer.specs.ReadBack.{keepalive_message, protected_message}
use Rattle.message_writer.proofs.Own.{keepalive_reads}
use Rattle.message_writer.proofs.RoundTrip.{submitted, sent_reads, sent_kind, sent_payload}
use Rattle.protocol.specs.declared.Answer.{Answer}
use Rattle.protocol.specs.Labels.{label_effect, protection_rule}
use Rattle.protocol.specs.Phases.{up_with, is_up_ft, resumed_of}
use Rattle.protocol.specs.Receive.{ack_on, ft_rule, receive}
use Rattle.protocol.specs.Received.{is_init}
use Rattle.protocol.specs.State.{State}
use Rattle.two_ends.specs.Calls.{keeps, took, securing}
use Rattle.two_ends.specs.World.{History, End}
use Rattle.two_ends.proofs.Direction.{gap, half_first, half-number, half-resumed}
use Rattle.two_ends.proofs.Freeing.{half_ack}
use Rattle.two_ends.proofs.Half.{Snd, Rcv, Half}
use Rattle.two_ends.proofs.Invariant.{side_of, Inv}
use Rattle.two_ends.proofs.Judging.{Fair, fair_done, fair_full, fair_fatal, fair_missing, fair_wrong, InOrder, order_fair, Plain, plain_done, not-init}
use Rattle.two_ends.proofs.Packets.{Packet, alive, carried, bytes_of, Fine}
use Rattle.two_ends.proofs.Receiving.{judged, takes_none, takes_end, takes_it}
use Rattle.two_ends.proofs.Takes.{arrives, dir_took-alive, dir_took-carried}
use Rattle.two_ends.proofs.Worlds.{ended, Settled}

-- ---- a message that is under way comes from an end that is up, on a connection that is resumed where the reader's is: so its number is in turn
turn_by : {x : Snd (List ℕ)} {sent : ℕ} {y : Rcv (List ℕ)} {d : ℕ × List ℕ} {dat : List (ℕ × List ℕ)} {acks : List ℕ} (re up jo new bg : Bool)
    (p : Half x sent up jo new y (d ∷ dat) acks) → re ≡ pick (both jo up) new bg → number_turn re y.S d.0 ≡ Ok (gap p)
turn_by re false jo new bg p e = absurd (omega (arith, p.line.none))
turn_by re true false new bg p e = absurd (omega (arith, p.line.none))
turn_by {y = y} {d = d} re true true true bg p e = ap (λ (r : Bool). number_turn r y.S d.0) e ∙ half-resumed p
turn_by {y = y} {d = d} re true true false bg p e = ap (λ (r : Bool). number_turn r y.S d.0) e ∙ half_first p

-- ---- a KeepAlive
module _ (now : State) (re : Bool) (sent : ℕ) (h : History) (id : MessageId) (n : FtNumber) where
  abbrev m₁ : List ℕ
  m₁ = bytes_of (alive id n)

  abbrev pub g₁ : Message
  g₁ = keepalive_message id (Some n)

  pub plain : (j : ℕ) → ack_on now g₁ ≡ Some j → Plain now g₁ j
  unfolding label_effect protection_rule kind_of
  plain j acks = record { another = refl; mild = refl; bare = refl; acks = acks; effect = refl; free = λ ls. refl }

  module _ {b : End} {ab ba : List (List ℕ)} {pa qs : List Packet} (i : Inv (ended now (up_with re sent) true true h) b ab ba pa (alive id n ∷ qs)) where
    pub alive_read : reading_of m₁ ≡ Some g₁
    alive_read = keepalive_reads id (Some n) i.back.fines.0.0 i.back.fines.0.1

    pub alive-done : ft_rule now re g₁ ≡ Answer.Done
    unfolding ack_on
    alive-done =
        let free = half_ack i.out.half in
        plain_done free.0 (plain free.0 free.1.right) (judged now re sent m₁ g₁ alive_read)

    pub alive_arrives : keeps (took (ended now (up_with re sent) true true h) m₁ (receive now (up_with re sent) m₁)) ≡ true
        → Settled (took (ended now (up_with re sent) true true h) m₁ (receive now (up_with re sent) m₁)) b ab (map bytes_of qs)
    unfolding ack_on
    alive_arrives k =
        let free = half_ack i.out.half in
        takes_it now re sent m₁ g₁ alive_read h i free.0 free.1.right free.1 [] (rw alive_read) alive-done
        (dir_took-alive now re sent h g₁ free.0 free.1.right refl id n i.back)

-- ---- a message with its number
module _ (now : State) (re : Bool) (sent : ℕ) (h : History) (m : List ℕ) (n : FtNumber) (ack : Option FtNumber) where
  abbrev m₂ : List ℕ
  m₂ = bytes_of (carried m n ack)

  module _ {b : End} {ab ba : List (List ℕ)} {pa qs : List Packet} (i : Inv (ended now (up_with re sent) true true h) b ab ba pa (carried m n ack ∷ qs)) where
    abbrev pub f : Fine (carried m n ack)
    f = i.back.fines.0

    pub short : length m + 12 < 256 ^ 2
    short = omega (arith, f.0.storable.short)

    abbrev pub g₂ : Message
    g₂ = protected_message (submitted m f.0.storable.kind f.0.storable.label f.0.storable.accepted n ack short) (length m) n ack

    pub carried_read : reading_of m₂ ≡ Some g₂
    carried_read = sent_reads m f.0.storable.kind f.0.storable.label f.0.storable.accepted n ack short f.1 f.2

    pub carried_another : is_init g₂.typename ≡ false
    carried_another =
        let k = f.0.storable.kind in
        let l = f.0.storable.label in
        let e = f.0.storable.accepted in
        not-init g₂ (rw (sent_kind m k l e n ack short) (accepted m k l e).labelled.some)

    -- the peer's connection is resumed where this end's is
    pub in_turn : number_turn re now.secured.0 n.0 ≡ Ok (gap i.back.half)
    in_turn = turn_by re (is_up_ft b.phase) b.joined (resumed_of b.phase) b.begun i.back.half i.agree

    in_order : (j : ℕ) → ack_on now g₂ ≡ Some j → InOrder now re g₂ j n
    in_order j acks = record {
      another = carried_another;
      protected = refl;
      acks = acks;
      some = λ z. omega (arith, z, half-number i.back.half, after-suc (gap i.back.half) now.secured.0);
      leftout = gap i.back.half;
      turn = in_turn;
    }

    pub carried_fair : Fair (ft_rule now re g₂)
    unfolding ack_on
    carried_fair =
        let free = arrives now h re sent (side_of b) pa qs m n ack i.out.half in
        order_fair free.0 n (in_order free.0 free.1.right) (judged now re sent m₂ g₂ carried_read)

    pub secures : securing m₂ ≡ m ∷ []
    secures =
        let e = sent_payload m f.0.storable.kind f.0.storable.label f.0.storable.accepted n ack short (f.0.bytes 3) in
        rw carried_read (ap (λ (l : List ℕ). l ∷ []) e)

    pub carried_arrives : keeps (took (ended now (up_with re sent) true true h) m₂ (receive now (up_with re sent) m₂)) ≡ true
        → Settled (took (ended now (up_with re sent) true true h) m₂ (receive now (up_with re sent) m₂)) b ab (map bytes_of qs)
    unfolding ack_on
    carried_arrives k = by (ft_rule now re g₂) refl carried_fair
      where
        by : (a : Answer) → ft_rule now re g₂ ≡ a → Fair a → Settled (took (ended now (up_with re sent) true true h) m₂ (receive now (up_with re sent) m₂)) b ab (map bytes_of qs)
        by Answer.Done e fair_done =
            let free = arrives now h re sent (side_of b) pa qs m n ack i.out.half in
            takes_it now re sent m₂ g₂ carried_read h i free.0 free.1.right free.1 (m ∷ []) secures e
            (dir_took-carried now re sent h g₂ free.0 free.1.right m n ack refl i.back)
        by Answer.NoWordForMapping e fair_full = takes_none now re sent m₂ g₂ carried_read h i e
        by Answer.StatusFatal e fair_fatal = takes_end now re sent m₂ g₂ carried_read h i Answer.StatusFatal e (omega arith) k
        by Answer.ProtectionMissing e fair_missing = takes_end now re sent m₂ g₂ carried_read h i Answer.ProtectionMissing e (omega arith) k
        by Answer.ProtectionWrong e fair_wrong = takes_end now re sent m₂ g₂ carried_read h i Answer.ProtectionWrong e (omega arith) k
        by a e none = elim none [ ]
