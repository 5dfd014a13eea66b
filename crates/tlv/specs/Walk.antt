-- The walk over the TLVs of a message: the place of each listed TLV, or that the message is malformed.
-- 01: "Malformed: .. lengths that don't add up exactly; a wrong length of a listed TLV; a listed TLV twice; a label above 1,048,575".
use Rattle.std.specs.Prelude.{Option, Some, None, ℕ, ◌+◌, Bool, List, ltb, eqb, length, drop}
use Rattle.octets.specs.Be.{be_at}
use Rattle.octets.specs.Fix.{fix}
use Rattle.octets.specs.Pick.{pick}
use Rattle.tlv.specs.declared.Found.{Found}
use Rattle.tlv.specs.declared.walk.Tlv.{Tlv}
use Rattle.tlv.specs.declared.walk.Turn.{Turn}
use Rattle.tlv.specs.Tlv.{length_fits, head_of, size_of, label_value, largest_label}

abbrev pub none_found : Found
none_found = record { fec = 0; label = 0; status = 0; parameters = 0; session = 0; protection = 0; ack = 0; requestid = 0 }

-- the place where a TLV was found; 0 where it was not, and for a TLV that is not listed
abbrev pub place_of : Found → Tlv → ℕ
place_of f Tlv.Fec = f.fec
place_of f Tlv.Label = f.label
place_of f Tlv.Status = f.status
place_of f Tlv.Parameters = f.parameters
place_of f Tlv.Session = f.session
place_of f Tlv.Protection = f.protection
place_of f Tlv.Ack = f.ack
place_of f Tlv.RequestId = f.requestid
place_of f Tlv.Other = 0

-- the places with that of one TLV more; a TLV that is not listed has none
abbrev pub placed_of : Found → Tlv → ℕ → Found
placed_of f Tlv.Fec at =
    record { fec = at; label = f.label; status = f.status; parameters = f.parameters; session = f.session; protection = f.protection; ack = f.ack; requestid = f.requestid }
placed_of f Tlv.Label at =
    record { fec = f.fec; label = at; status = f.status; parameters = f.parameters; session = f.session; protection = f.protection; ack = f.ack; requestid = f.requestid }
placed_of f Tlv.Status at =
    record { fec = f.fec; label = f.label; status = at; parameters = f.parameters; session = f.session; protection = f.protection; ack = f.ack; requestid = f.requestid }
placed_of f Tlv.Parameters at =
    record { fec = f.fec; label = f.label; status = f.status; parameters = at; session = f.session; protection = f.protection; ack = f.ack; requestid = f.requestid }
placed_of f Tlv.Session at =
    record { fec = f.fec; label = f.label; status = f.status; parameters = f.parameters; session = at; protection = f.protection; ack = f.ack; requestid = f.requestid }
placed_of f Tlv.Protection at =
    record { fec = f.fec; label = f.label; status = f.status; parameters = f.parameters; session = f.session; protection = at; ack = f.ack; requestid = f.requestid }
placed_of f Tlv.Ack at =
    record { fec = f.fec; label = f.label; status = f.status; parameters = f.parameters; session = f.session; protection = f.protection; ack = at; requestid = f.requestid }
placed_of f Tlv.RequestId at =
    record { fec = f.fec; label = f.label; status = f.status; parameters = f.parameters; session = f.session; protection = f.protection; ack = f.ack; requestid = at }
placed_of f Tlv.Other at = f

-- the fault of a test that does not hold; where it holds, the rest decides
abbrev pub malformed_unless : Bool → Option Found → Option Found
malformed_unless holds rest = pick holds rest None

-- what the TLV that ts begins with, at the place `at` and with a value of n bytes, makes of the places found before it:
-- malformed with a wrong length, where it stands a second time, or with a label above the largest
unfoldable pub noted_of : Found → Tlv → ℕ → ℕ → List ℕ → Option Found
noted_of f tlv n at ts =
    malformed_unless (length_fits tlv n)
    (malformed_unless (eqb (place_of f tlv) 0)
    (pick (ltb largest_label (label_value tlv ts)) None
    (Some (placed_of f tlv at))))

abbrev pub taken_of : Option Found → ℕ → Turn
taken_of None n = Turn.Malformed
taken_of (Some f) n = Turn.Next f n

-- what stands first in the bytes ts, which lie at the place `at`: nothing, a fault (also a TLV that is cut off), or a TLV
unfoldable pub turn_of : Found → ℕ → List ℕ → Turn
turn_of f at ts =
    pick (eqb (length ts) 0) Turn.End
    (pick (ltb (length ts) (size_of ts)) Turn.Malformed (taken_of (noted_of f (head_of ts) (be_at 2 ts 2) at ts) (size_of ts)))

-- the bytes that are left, their place, and what was found before them
pub record Rest : Type 0 where
  pub at : ℕ
  pub bytes : List ℕ
  pub found : Found

abbrev pub left_of : Rest → ℕ
left_of r = length r.bytes

abbrev pub on_turn : (Rest → Option Found) → Rest → Turn → Option Found
on_turn go r Turn.End = Some r.found
on_turn go r Turn.Malformed = None
on_turn go r (Turn.Next f n) = go (record { at = r.at + n; bytes = drop n r.bytes; found = f })

abbrev pub step_of : (Rest → Option Found) → Rest → Option Found
step_of go r = on_turn go r (turn_of r.found r.at r.bytes)

-- what the TLVs ts are, which lie at the place `at`, with what was found before them: one turn after the other
unfoldable pub walk_of : ℕ → List ℕ → Found → Option Found
walk_of at ts f = fix left_of step_of None (record { at = at; bytes = ts; found = f })

-- the size of a message's head: "U bit and type (2), length (2, bytes after it), message ID (4), TLVs"
abbrev pub head_size : ℕ
head_size = 8

-- the TLVs of a message whose length is that of the bytes after it
unfoldable pub tlvs_of : List ℕ → Option Found
tlvs_of m =
    pick (ltb (length m) head_size) None
    (malformed_unless (eqb (be_at 2 m 2 + 4) (length m))
    (walk_of head_size (drop head_size m) none_found))
