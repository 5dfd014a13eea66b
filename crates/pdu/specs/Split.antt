-- What a PDU splits into: its head and whole messages, and the messages as they are handed out one after the other.
use Rattle.std.specs.Prelude.{Option, Some, None, ℕ, zero, suc, ◌+◌, ◌≤◌, ◌≡◌, length, take}
use mathlib.Core.List.{List, [], ◌∷◌, ◌++◌, flatten}
use Rattle.octets.specs.Be.{be_at}
use Rattle.octets.specs.Part.{part}
use Rattle.pdu.specs.declared.Place.{Place}
use Rattle.pdu.specs.Pdu.{message_place}

-- the message at a place, and then what `rest` says of where it ends; nothing where there is no message
abbrev pub then_from : List ℕ → (ℕ → List (List ℕ)) → Option Place → List (List ℕ)
then_from pdu rest (Some place) = part pdu place.start place.end ∷ rest place.end
then_from pdu rest None = []

-- k messages from `at` on, as they are handed out: the one that starts at `at`, then those from its end on
abbrev pub handed_out : List ℕ → ℕ → ℕ → List (List ℕ)
handed_out pdu zero at = []
handed_out pdu (suc k) at = then_from pdu (handed_out pdu k) (message_place pdu at)

-- "Message: U bit and type (2), length (2, bytes after it), message ID (4), TLVs"
pub record IsMessage (m : List ℕ) : Type 0 where
  pub head : 8 ≤ length m
  pub adds : 4 + be_at 2 m 2 ≡ length m

pub data AreMessages : List (List ℕ) → Type 0 where
  none : AreMessages []
  one : {m : List ℕ} {ms : List (List ℕ)} → IsMessage m → AreMessages ms → AreMessages (m ∷ ms)

-- "PDU: version 1 (2), PDU length (2, bytes after it), LDP identifier (6), messages"
pub record IsPdu (pdu : List ℕ) (messages : List (List ℕ)) : Type 0 where
  pub head : 10 ≤ length pdu
  pub version : be_at 2 pdu 0 ≡ 1
  pub adds : be_at 2 pdu 2 + 4 ≡ length pdu
  pub whole : AreMessages messages
  pub joined : take 10 pdu ++ flatten messages ≡ pdu
