-- The messages held: the queue and the slots in which they stand. Assumes nothing.
use Prim.Native.Nat.{ℕ, ◌+◌, ◌*◌, ◌≤◌, ◌<◌}
use mathlib.Core.Bool.{true}
use mathlib.Core.List.{List, []}
use mathlib.Core.Path.{◌≡◌, sym, ap, ◌∙◌}
use native.Mathlib.Omega.{arith}
use lib.ListN.{length, get_or}
use Rattle.octets.specs.Part.{part}
use Rattle.octets.proofs.Part.{part-part}
use Rattle.block.specs.Check.{block_size}
use Rattle.block0.specs.Layout.{header_of}
use Rattle.message.specs.Storable.{longest, Storable, kind_in, label_in}
use Rattle.message.specs.Submission.{submission_of}
use Rattle.slot.specs.Fields.{slot_ok}
use Rattle.slot.specs.Layout.{message_at, slot_length, slot_kind, slot_label, slot_message}
use Rattle.slot.proofs.Holding.{high_length, length_message, holds_kind, holds_label, holds_storable}
use Rattle.image.specs.Sizes.{block, block_of, slot_at}
use Rattle.image.specs.State.{decode, slots_of, held_block, held_place, held_start, held_end}
use Rattle.image.specs.Verdict.{IsSound, SlotGood}
use Rattle.image.proofs.Blocks.{length-block}
use Rattle.image.proofs.Rings.{ring-at, ring-length}
use Rattle.image.proofs.Sound.{sound_valid, sound-live}

-- the queue has as many messages as are held
pub queue_length : (image : List ℕ) → length (decode image).queue ≡ (decode image).header.held
unfolding decode
queue_length image = ring-length (slots_of image) (header_of (block image 0)).first (header_of (block image 0)).held

-- the message at place i of the queue stands in slot i past the first
pub queue_at : (image : List ℕ) (i : ℕ) → i < (decode image).header.held → get_or (decode image).queue i [] ≡ slot_message (held_block image i)
unfolding decode held_block slots_of
queue_at image i l = ring-at (slots_of image) [] (header_of (block image 0)).first (header_of (block image 0)).held i l

module _ (image : List ℕ) (s : IsSound image) (i : ℕ) (l : i < (decode image).header.held) where
  pub held_good : SlotGood (held_block image i)
  unfolding held_block
  held_good = sound-live image s i l

  held_long : length (held_block image i) ≡ block_size
  unfolding held_block
  held_long = length-block image (block_of (slot_at (decode image).header.first i)) (omega (arith, s.size))

  -- each message held may be stored again
  pub queue_storable : Storable (get_or (decode image).queue i [])
  queue_storable = rw (queue_at image i l) (holds_storable (held_block image i) held_long held_good.fields)

  -- ---- where the message stands: within the image, and that part of the image is the message
  held_size : length (get_or (decode image).queue i []) ≡ slot_length (held_block image i)
  held_size = rw (queue_at image i l) (length_message (held_block image i) held_long held_good.fields)

  pub held_inside : held_end image i ≤ length image
  unfolding held_place
  held_inside = omega (arith, held_size, high_length (held_block image i) held_good.fields, s.size)

  pub held-part : part image (held_start image i) (held_end image i) ≡ get_or (decode image).queue i []
  unfolding held_block held_place slot_message
  held-part =
      let b : ℕ = block_of (slot_at (decode image).header.first i) in
      let n : ℕ = slot_length (held_block image i) in
      let short : n ≤ longest = high_length (held_block image i) held_good.fields in
      let start : message_at + b * block_size ≡ b * block_size + message_at = omega arith in
      let end : b * block_size + message_at + n ≡ b * block_size + (message_at + n) = omega arith in
      ap (λ (k : ℕ). part image (held_start image i) (held_start image i + k)) held_size
      ∙ ap (λ (k : ℕ). part image k (k + n)) start
      ∙ ap (part image (b * block_size + message_at)) end
      ∙ sym (part-part image (b * block_size) (b * block_size + block_size) message_at (message_at + n) (omega arith) (omega (arith, s.size)) (omega arith))
      ∙ sym (queue_at image i l)

  -- ---- what the readers answer
  pub held-sum : (f : ℕ) → f < 65536 → f + i < 65600
  held-sum f h = omega (arith, (sound_valid image s).held)

  module _ {b : List ℕ} (eb : b ≡ held_block image i) where
    pub held_ok : slot_ok b ≡ true
    held_ok = rw eb held_good.fields

    pub held_read_lem : {m : List ℕ} → m ≡ slot_message b → m ≡ get_or (decode image).queue i []
    held_read_lem e = e ∙ rw eb (sym (queue_at image i l))

    pub kind_read : {k : ℕ} → k ≡ slot_kind b → k ≡ kind_in (submission_of (get_or (decode image).queue i []))
    kind_read e = e ∙ holds_kind b held_ok ∙ rw (eb, ← queue_at image i l)

    pub label_read : {k : ℕ} → k ≡ slot_label b → k ≡ label_in (submission_of (get_or (decode image).queue i []))
    label_read e = e ∙ holds_label b held_ok ∙ rw (eb, ← queue_at image i l)

pub ruleset helds = (held_ok, held_read_lem, kind_read, label_read)
