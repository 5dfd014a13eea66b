-- What the messages of a steady owner say. Assumes nothing.
use Rattle.std.specs.Prelude.{Option, Some}
use Prim.Native.Nat.{ℕ, zero, suc, ◌+◌, ◌^◌, ◌<◌}
use mathlib.Core.Bool.{true, false, true≢false}
use mathlib.Core.List.{List, [], ◌∷◌, ◌++◌}
use mathlib.Core.Path.{◌≡◌, refl, sym, ◌∙◌}
use native.Mathlib.Omega.{arith}
use lib.ListN.{length, get_or, drop}
use Rattle.ft_number.specs.declared.FtNumber.{FtNumber}
use Rattle.ft_number.specs.declared.MessageId.{MessageId}
use Rattle.ft_number.specs.declared.Timeout.{Timeout}
use Rattle.message.specs.declared.Message.{Message}
use Rattle.message.specs.Reading.{reading_of}
use Rattle.message.specs.Storable.{Storable}
use Rattle.message.proofs.Laws.{accepted}
use Rattle.message_writer.specs.declared.OwnParameters.{OwnParameters}
use Rattle.message_writer.specs.Forms.{init_bytes, keepalive_bytes, protected_bytes}
use Rattle.message_writer.specs.ReadBack.{AckFits, InitFits, init_message, keepalive_message, protected_message}
use Rattle.message_writer.proofs.Own.{init_reads, keepalive_reads}
use Rattle.message_writer.proofs.RoundTrip.{submitted, sent_reads, sent_kind}
use Rattle.protocol.specs.Receive.{is_fatal}
use Rattle.protocol.specs.Received.{is_init}
use Rattle.two_ends.specs.Steady.{Mild}
use Rattle.two_ends.proofs.Judging.{not-init}

-- ---- every message of a list
abbrev pub All : (List ℕ → Type 0) → List (List ℕ) → Type 0
All P [] = Unit {0}
All P (m ∷ ms) = P m × All P ms

pub all_append : (P : List ℕ → Type 0) (ms ns : List (List ℕ)) → All P ms → All P ns → All P (ms ++ ns)
all_append P [] ns a b = b
all_append P (x ∷ ms) ns a b = (a.0, all_append P ms ns a.1 b)

pub all_drop : (P : List ℕ → Type 0) (n : ℕ) (ms : List (List ℕ)) → All P ms → All P (drop n ms)
all_drop P zero ms a = a
all_drop P (suc n) [] a = a
all_drop P (suc n) (m ∷ ms) a = all_drop P n ms a.1

pub all_at : (P : List ℕ → Type 0) (n : ℕ) (ms : List (List ℕ)) → n < length ms → All P ms → P (get_or ms n [])
all_at P n [] l a = absurd (omega arith)
all_at P zero (m ∷ ms) l a = a.0
all_at P (suc n) (m ∷ ms) l a = all_at P n ms (omega arith) a.1

-- ---- an Init bears the owner's parameters, and no other message bears a Status with E set
pub record Says (o : OwnParameters) (m : List ℕ) : Type 0 where
  pub init : (g : Message) → reading_of m ≡ Some g → is_init g.typename ≡ true → g.parameters ≡ Some (record { keepalive = o.keepalive; pdulength = o.pdulength })
  pub mild : (g : Message) → reading_of m ≡ Some g → is_init g.typename ≡ false → is_fatal g.status ≡ false

-- what was read is this message
says_by : (o : OwnParameters) (m : List ℕ) (r : Message) → reading_of m ≡ Some r
    → (is_init r.typename ≡ true → r.parameters ≡ Some (record { keepalive = o.keepalive; pdulength = o.pdulength })) → (is_init r.typename ≡ false → is_fatal r.status ≡ false) → Says o m
says_by o m r e i f = record {
  init = λ g q. let same : r ≡ g = cc (sym e ∙ q) in rw same at i;
  mild = λ g q. let same : r ≡ g = cc (sym e ∙ q) in rw same at f;
}

pub init_says : (o : OwnParameters) (id : MessageId) (p : OwnParameters) (said : Timeout) (ack : Option FtNumber) → InitFits id p said ack
    → p.keepalive ≡ o.keepalive → p.pdulength ≡ o.pdulength → Says o (init_bytes id p said ack)
init_says o id p said ack f k l =
    says_by o (init_bytes id p said ack) (init_message id p said ack) (init_reads id p said ack f) (λ t. rw (k, l)) (λ t. absurd (true≢false t))

pub alive_says : (o : OwnParameters) (id : MessageId) (ack : Option FtNumber) → id.0 < 256 ^ 4 → AckFits ack → Says o (keepalive_bytes id ack)
alive_says o id ack small fits =
    says_by o (keepalive_bytes id ack) (keepalive_message id ack) (keepalive_reads id ack small fits) (λ t. absurd (true≢false (sym t))) (λ t. refl)

module _ (o : OwnParameters) (m : List ℕ) (s : Storable m) (mild : Mild m) (n : FtNumber) (ack : Option FtNumber) (small : n.0 < 256 ^ 4) (fits : AckFits ack) where
  short : length m + 12 < 256 ^ 2
  short = omega (arith, s.short)

  sent : Message
  sent = protected_message (submitted m s.kind s.label s.accepted n ack short) (length m) n ack

  another : is_init sent.typename ≡ false
  unfolding sent
  another = not-init sent (rw (sent_kind m s.kind s.label s.accepted n ack short) (accepted m s.kind s.label s.accepted).labelled.some)

  pub carried_says : Says o (protected_bytes m n ack)
  unfolding sent
  carried_says =
      says_by o (protected_bytes m n ack) sent (sent_reads m s.kind s.label s.accepted n ack short small fits) (λ t. absurd (true≢false (sym t ∙ another)))
      (λ t. mild (accepted m s.kind s.label s.accepted).message (accepted m s.kind s.label s.accepted).reading)
