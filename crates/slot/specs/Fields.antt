-- A slot's fields: "length 8 to 480 (0-1), kind 1 to 6 (2), zero (3), .. zeros", with 02's kinds 1 to 9; "a slot's message passes Submit's 4 and 5 and has the
-- slot's kind and label".
use Rattle.std.specs.Prelude.{Result, Ok, Err, ℕ, ◌+◌, ◌≤◌, Bool, true, not, List, ◌≡◌, leb, eqb}
use Rattle.octets.specs.Be.{be_at}
use Rattle.octets.specs.Pick.{pick, both}
use Rattle.block.specs.Check.{sound}
use Rattle.block.specs.Zeros.{all_zero}
use Rattle.message.specs.Kinds.{last_kind}
use Rattle.message.specs.Storable.{bears, longest, shortest}
use Rattle.message.specs.Submission.{submission_of}
use Rattle.slot.specs.declared.SlotFault.{SlotFault}
use Rattle.slot.specs.Layout.{slot_length, slot_kind, slot_label, message_at, slot_message, slot_padding}

unfoldable pub slot_ok : List ℕ → Bool
slot_ok b =
    both (leb shortest (slot_length b))
    (both (leb (slot_length b) longest)
    (both (leb 1 (slot_kind b))
    (both (leb (slot_kind b) last_kind)
    (both (eqb (be_at 1 b 3) 0) (both (all_zero (slot_padding b)) (bears (submission_of (slot_message b)) (slot_kind b) (slot_label b)))))))

-- the message ends at `end`, its length is in range, and zeros follow it
pub record Padded (b : List ℕ) (end : ℕ) : Type 0 where
  pub low : shortest ≤ slot_length b
  pub high : slot_length b ≤ longest
  pub ends : end ≡ message_at + slot_length b
  pub zeros : all_zero (slot_padding b) ≡ true

-- "check, then fields"
unfoldable pub slot_verdict : List ℕ → Result Unit SlotFault
slot_verdict b = pick (not (sound b)) (Err SlotFault.BadCheck) (pick (not (slot_ok b)) (Err SlotFault.BadFields) (Ok tt))

-- 01's numbers: "10: bad block. 11: bad field"
abbrev pub slot_verdict_number : Result Unit SlotFault → ℕ
slot_verdict_number (Ok tt) = 0
slot_verdict_number (Err SlotFault.BadCheck) = 10
slot_verdict_number (Err SlotFault.BadFields) = 11
