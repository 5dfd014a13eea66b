-- A message less its FT TLVs.
use Rattle.std.specs.Prelude.{ℕ, ◌+◌, Bool, true, false, List, [], ◌++◌, ltb, length, take, drop}
use Rattle.octets.specs.Be.{bytes}
use Rattle.octets.specs.Fix.{fix}
use Rattle.octets.specs.Part.{part}
use Rattle.octets.specs.Pick.{pick}
use Rattle.tlv.specs.declared.walk.Tlv.{Tlv}
use Rattle.tlv.specs.Tlv.{head_of, size_of}
use Rattle.tlv.specs.Walk.{head_size}

-- 01: "FT Session .., FT Protection .., FT ACK ..: the last three are the FT TLVs"
abbrev pub is_ft : Tlv → Bool
is_ft Tlv.Fec = false
is_ft Tlv.Label = false
is_ft Tlv.Status = false
is_ft Tlv.Parameters = false
is_ft Tlv.Session = true
is_ft Tlv.Protection = true
is_ft Tlv.Ack = true
is_ft Tlv.RequestId = false
is_ft Tlv.Other = false

-- one TLV, kept where it is no FT TLV, and what is kept of the rest; bytes that hold no whole TLV are kept as they are
abbrev pub keep_step : (List ℕ → List ℕ) → List ℕ → List ℕ
keep_step rest ts =
    pick (ltb (length ts) (size_of ts)) ts (pick (is_ft (head_of ts)) [] (take (size_of ts) ts) ++ rest (drop (size_of ts) ts))

unfoldable pub kept_of : List ℕ → List ℕ
kept_of ts = fix length keep_step [] ts

-- the message m less its FT TLVs, with the length put right
unfoldable pub payload_of : List ℕ → List ℕ
payload_of m = take 2 m ++ (bytes 2 (4 + length (kept_of (drop head_size m))) ++ (part m 4 8 ++ kept_of (drop head_size m)))
