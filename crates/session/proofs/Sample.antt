-- A fresh session and an Address message: what the wrong keepers are tried on. Assumes nothing.
use Rattle.std.specs.Prelude.{Ok}
use Prim.Native.Nat.{ℕ, zero, suc, ◌<◌}
use mathlib.Core.Bool.{true, false}
use mathlib.Core.List.{List, [], ◌∷◌}
use mathlib.Core.Path.{◌≡◌, refl}
use native.Mathlib.Omega.{arith}
use borrow.Author.Tests.{lt-leb}
use Rattle.octets.specs.Bytes.{Bytes}
use Rattle.octets.specs.Fix.{fix, steps}
use Rattle.ft_number.specs.Ack.{ack_of}
use Rattle.ft_number.specs.Circle.{steps_of}
use Rattle.tlv.specs.Tlv.{tlv_of}
use Rattle.tlv.specs.Value.{field_at, number_at}
use Rattle.tlv.specs.Walk.{tlvs_of, walk_of, turn_of, noted_of}
use Rattle.message.specs.declared.Kind.{Kind}
use Rattle.message.specs.Kinds.{kind_of}
use Rattle.message.specs.Reading.{type_of, message_of, places_of, reading_of}
use Rattle.message.specs.Storable.{Storable}
use Rattle.message.specs.Submission.{no_label, bears_ft, submission_of}
use Rattle.protocol.specs.declared.Answer.{Answer}
use Rattle.protocol.specs.declared.Phase.{Phase}
use Rattle.protocol.specs.declared.Terms.{Terms}
use Rattle.protocol.specs.Accepting.{accepted_as, is_barred}
use Rattle.protocol.specs.Init.{fresh}
use Rattle.protocol.specs.Labels.{label_effect, protection_rule}
use Rattle.protocol.specs.Phases.{up_with}
use Rattle.protocol.specs.Receive.{ack_on, ft_rule, labels_rule, message_rule, receive_rule}
use Rattle.protocol.specs.State.{State, capacity, held}
use Rattle.protocol.specs.Submit.{kind_rule, submit_rule}

-- the session that a first Init leads to, with 01's 5 seconds
abbrev pub terms : Terms
terms = record { timeout = 5; keepalive = 30; maxpdu = 4096 }

-- an Address message with no TLV: it has no label, so no label bars it
abbrev pub address : List ℕ
address = 3 ∷ 0 ∷ 0 ∷ 4 ∷ 0 ∷ 0 ∷ 0 ∷ 1 ∷ []

address_accepted : submission_of address ≡ Ok (Kind.Address, no_label)
unfolding submission_of reading_of places_of tlvs_of walk_of fix steps turn_of type_of bears_ft message_of kind_of
address_accepted = refl

pub address_storable : Storable address
address_storable = record { low = omega arith; short = omega arith; kind = Kind.Address; label = no_label; accepted = address_accepted }

abbrev Each : List ℕ → Type 0
Each [] = Unit {0}
Each (x ∷ xs) = (x < 256) × Each xs

each_byte : (s : List ℕ) → Each s → Bytes s
each_byte [] e i = omega arith
each_byte (x ∷ xs) e zero = e.0
each_byte (x ∷ xs) e (suc i) = each_byte xs e.1 i

-- it is bytes
pub address-bytes : Bytes address
address-bytes = each_byte address (omega arith, (omega arith, (omega arith, (omega arith, (omega arith, (omega arith, (omega arith, (omega arith, tt))))))))

-- while state is kept and there is room it is taken
pub address-taken : (s : State) (ph : Phase) → s.kept ≡ true → held s < capacity → submit_rule s ph address ≡ Answer.Done
unfolding submit_rule kind_rule is_barred accepted_as
address-taken s ph kept room = rw (kept, address_accepted, lt-leb capacity (held s) room)

-- a KeepAlive that acknowledges the number of these four bytes
abbrev pub alive_with : ℕ → ℕ → ℕ → ℕ → List ℕ
alive_with a b c d = 2 ∷ 1 ∷ 0 ∷ 12 ∷ 0 ∷ 0 ∷ 0 ∷ 1 ∷ 5 ∷ 4 ∷ 0 ∷ 4 ∷ a ∷ b ∷ c ∷ d ∷ []

pub alive-bytes : (a b c d : ℕ) → a < 256 → b < 256 → c < 256 → d < 256 → Bytes (alive_with a b c d)
alive-bytes a b c d la lb lc ld =
    each_byte (alive_with a b c d)
    (omega arith, (omega arith, (omega arith, (omega arith, (omega arith, (omega arith, (omega arith, (omega arith, (omega arith, (omega arith, (omega arith, (omega arith, (la, (lb, (lc, (ld, tt))))))))))))))))

-- nothing was issued: zero says so, and one was never sent
pub alive_right : receive_rule (fresh terms) (up_with false 0) (reading_of (alive_with 0 0 0 0)) ≡ Answer.Done
unfolding fresh reading_of places_of tlvs_of walk_of fix steps turn_of noted_of tlv_of type_of message_of kind_of field_at number_at ft_rule message_rule ack_on ack_of steps_of labels_rule protection_rule label_effect
alive_right = refl

pub alive_wrong : receive_rule (fresh terms) (up_with false 0) (reading_of (alive_with 0 0 0 1)) ≡ Answer.AckSequenceError
unfolding fresh reading_of places_of tlvs_of walk_of fix steps turn_of noted_of tlv_of type_of message_of kind_of field_at number_at ft_rule message_rule ack_on ack_of steps_of
alive_wrong = refl
