-- A slot: "length 8 to 480 (0-1), kind 1 to 6 (2), zero (3), label of kinds 1 to 3, else 0xFFFFFFFF (4-7), the message without FT TLVs, zeros."
use Rattle.std.specs.Prelude.{ℕ, ◌+◌, ◌-◌, List, [], ◌∷◌, ◌++◌, length, replicate}
use Rattle.octets.specs.Be.{be_at}
use Rattle.octets.specs.Part.{part}
use Rattle.block.specs.Check.{check_at, sealed}
use Rattle.block.specs.Run.{spelled}

-- length, kind, zero, label
abbrev pub head_widths : List ℕ
head_widths = 2 ∷ 1 ∷ 1 ∷ 4 ∷ []

abbrev pub slot_length : List ℕ → ℕ
slot_length b = be_at 2 b 0

abbrev pub slot_kind : List ℕ → ℕ
slot_kind b = be_at 1 b 2

abbrev pub slot_label : List ℕ → ℕ
slot_label b = be_at 4 b 4

abbrev pub message_at : ℕ
message_at = 8

-- the message, and what follows it up to the check
unfoldable pub slot_message : List ℕ → List ℕ
slot_message b = part b message_at (message_at + slot_length b)

unfoldable pub slot_padding : List ℕ → List ℕ
slot_padding b = part b (message_at + slot_length b) check_at

-- the block of a message of that kind and label: the fields, the message, zeros, and the check of these 508 bytes
unfoldable pub slot_block : List ℕ → ℕ → ℕ → List ℕ
slot_block m kind label =
    sealed (spelled head_widths (length m ∷ kind ∷ 0 ∷ label ∷ []) ++ (m ++ replicate (check_at - message_at - length m) 0))
