-- What lies on a line: the messages that the two ends write, and what each means for either direction. Assumes nothing.
use Rattle.std.specs.Prelude.{Option, Some, None}
use Prim.Native.Nat.{ℕ, ◌^◌, ◌<◌}
use mathlib.Core.List.{List, [], ◌∷◌, ◌++◌}
use mathlib.Core.Path.{◌≡◌, refl, ap}
use Rattle.octets.specs.Bytes.{Bytes}
use Rattle.ft_number.specs.declared.FtNumber.{FtNumber}
use Rattle.ft_number.specs.declared.MessageId.{MessageId}
use Rattle.ft_number.specs.declared.Timeout.{Timeout}
use Rattle.message.specs.Storable.{Storable}
use Rattle.message_writer.specs.declared.OwnParameters.{OwnParameters}
use Rattle.message_writer.specs.Forms.{init_bytes, keepalive_bytes, protected_bytes}
use Rattle.message_writer.specs.ReadBack.{AckFits, InitFits}
use Rattle.two_ends.proofs.Octets.{init_octets, alive_octets, protected_octets}

-- the Init of the start, a later Init, a KeepAlive in UpFT, and a message with its number
pub data Packet : Type 0 where
  first : MessageId → OwnParameters → Timeout → Option FtNumber → Packet
  again : MessageId → OwnParameters → Timeout → FtNumber → Packet
  alive : MessageId → FtNumber → Packet
  carried : List ℕ → FtNumber → Option FtNumber → Packet

abbrev pub bytes_of : Packet → List ℕ
bytes_of (first id p said ack) = init_bytes id p said ack
bytes_of (again id p said s) = init_bytes id p said (Some s)
bytes_of (alive id s) = keepalive_bytes id (Some s)
bytes_of (carried m n ack) = protected_bytes m n ack

-- a message that Submit accepts, of bytes
pub record Okay (m : List ℕ) : Type 0 where
  pub storable : Storable m
  pub bytes : Bytes m

abbrev pub Okays : List (List ℕ) → Type 0
Okays [] = Unit {0}
Okays (m ∷ ms) = Okay m × Okays ms

-- its values have their width
abbrev pub Fine : Packet → Type 0
Fine (first id p said ack) = InitFits id p said ack
Fine (again id p said s) = InitFits id p said (Some s)
Fine (alive id s) = (id.0 < 256 ^ 4) × (s.0 < 256 ^ 4)
Fine (carried m n ack) = Okay m × (n.0 < 256 ^ 4) × AckFits ack

abbrev pub Fines : List Packet → Type 0
Fines [] = Unit {0}
Fines (p ∷ ps) = Fine p × Fines ps

-- no Init is among them
abbrev pub NoInit : List Packet → Type 0
NoInit [] = Unit {0}
NoInit (first id p said ack ∷ ps) = ⊥
NoInit (again id p said s ∷ ps) = ⊥
NoInit (alive id s ∷ ps) = NoInit ps
NoInit (carried m n ack ∷ ps) = NoInit ps

-- the messages of a line, with their numbers
abbrev pub datas : List Packet → List (ℕ × List ℕ)
datas [] = []
datas (first id p said ack ∷ ps) = datas ps
datas (again id p said s ∷ ps) = datas ps
datas (alive id s ∷ ps) = datas ps
datas (carried m n ack ∷ ps) = (n.0, m) ∷ datas ps

-- the acknowledgements of a line; the Init of the start says that nothing is secured, whatever it bears
abbrev pub acks_of : List Packet → List ℕ
acks_of [] = []
acks_of (first id p said ack ∷ ps) = 0 ∷ acks_of ps
acks_of (again id p said s ∷ ps) = s.0 ∷ acks_of ps
acks_of (alive id s ∷ ps) = s.0 ∷ acks_of ps
acks_of (carried m n None ∷ ps) = acks_of ps
acks_of (carried m n (Some s) ∷ ps) = s.0 ∷ acks_of ps

-- ---- one more at the end
pub datas-append : (ps qs : List Packet) → datas (ps ++ qs) ≡ datas ps ++ datas qs
datas-append [] qs = refl
datas-append (first id p said ack ∷ ps) qs = datas-append ps qs
datas-append (again id p said s ∷ ps) qs = datas-append ps qs
datas-append (alive id s ∷ ps) qs = datas-append ps qs
datas-append (carried m n ack ∷ ps) qs = ap (λ (l : List (ℕ × List ℕ)). (n.0, m) ∷ l) (datas-append ps qs)

pub acks-append : (ps qs : List Packet) → acks_of (ps ++ qs) ≡ acks_of ps ++ acks_of qs
acks-append [] qs = refl
acks-append (first id p said ack ∷ ps) qs = ap (λ (l : List ℕ). 0 ∷ l) (acks-append ps qs)
acks-append (again id p said s ∷ ps) qs = ap (λ (l : List ℕ). s.0 ∷ l) (acks-append ps qs)
acks-append (alive id s ∷ ps) qs = ap (λ (l : List ℕ). s.0 ∷ l) (acks-append ps qs)
acks-append (carried m n None ∷ ps) qs = acks-append ps qs
acks-append (carried m n (Some s) ∷ ps) qs = ap (λ (l : List ℕ). s.0 ∷ l) (acks-append ps qs)

pub fines_snoc : (ps : List Packet) (p : Packet) → Fines ps → Fine p → Fines (ps ++ (p ∷ []))
fines_snoc [] p f g = (g, tt)
fines_snoc (q ∷ ps) p f g = (f.0, fines_snoc ps p f.1 g)

pub noinit_snoc : (ps : List Packet) (p : Packet) → NoInit ps → NoInit (p ∷ []) → NoInit (ps ++ (p ∷ []))
noinit_snoc [] p f g = g
noinit_snoc (first id q said ack ∷ ps) p f g = absurd f
noinit_snoc (again id q said s ∷ ps) p f g = absurd f
noinit_snoc (alive id s ∷ ps) p f g = noinit_snoc ps p f g
noinit_snoc (carried m n ack ∷ ps) p f g = noinit_snoc ps p f g

pub okays_snoc : (ms : List (List ℕ)) (m : List ℕ) → Okays ms → Okay m → Okays (ms ++ (m ∷ []))
okays_snoc [] m f g = (g, tt)
okays_snoc (x ∷ ms) m f g = (f.0, okays_snoc ms m f.1 g)

-- ---- a line of such messages is a line of bytes
pub fine_bytes : (p : Packet) → Fine p → Bytes (bytes_of p)
fine_bytes (first id p said ack) f = (init_octets id p said ack).each
fine_bytes (again id p said s) f = (init_octets id p said (Some s)).each
fine_bytes (alive id s) f = (alive_octets id (Some s)).each
fine_bytes (carried m n ack) f = (protected_octets m n ack (record { each = f.0.bytes })).each
