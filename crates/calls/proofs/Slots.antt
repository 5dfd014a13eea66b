-- What is stored for a state, block by block: the slot is not live, and every block but the slot's, one further block and block 0 keeps its bytes. Assumes nothing.
use Prim.Native.Nat.{ℕ, ◌≤◌, ◌<◌}
use mathlib.Core.Bool.{false}
use mathlib.Core.List.{List}
use mathlib.Core.Logic.{◌≢◌}
use mathlib.Core.Path.{◌≡◌, refl, ap, ◌∙◌}
use native.Mathlib.Omega.{arith}
use lib.ListN.{get_or, length}
use Rattle.label_list.specs.Word.{is_request, lists_label, word_count}
use Rattle.block0.specs.Layout.{slot_count}
use Rattle.message.specs.Storable.{Storable}
use Rattle.image.specs.Sizes.{block, block_count, block_of, image_size, request_block, with_block}
use Rattle.image.specs.State.{NotLive, decode, entry_block, store_entry, store_id, store_slot}
use Rattle.image.proofs.Blocks.{put_same}
use Rattle.image.proofs.Entries.{entry_other, entry-put, length-store_entry}
use Rattle.image.proofs.Sound.{idle_last}
use Rattle.image.proofs.Stored.{id_other, id-put, length-store_id, length-store_slot, slot-other, slot-put, zeroth-other}
use Rattle.protocol.specs.State.{State}
use Rattle.calls.specs.Storing.{Further, same, put_id, put-entry, Slots, stay, empty, one_more, fewer, further_stored, next_slot, slot_named, slot_stored, stored}

-- no ID counts yet where one is put, and no entry
abbrev pub FurtherFits : List ℕ → Further → Type 0
FurtherFits im same = Unit {0}
FurtherFits im (put_id place id) = is_request (get_or (decode im).labels place 0) ≡ false
FurtherFits im (put-entry place entry) = (place < word_count) × (lists_label (get_or (decode im).labels place 0) ≡ false)

-- a message that is put into a slot may be held, and there is room
abbrev pub SlotFits : List ℕ → Slots → Type 0
SlotFits im stay = Unit {0}
SlotFits im empty = Unit {0}
SlotFits im (one_more m) = Storable m × ((decode im).header.held < slot_count)
SlotFits im (fewer k) = Unit {0}

-- ---- the further block that may be another
abbrev pub further_block : Further → ℕ
further_block same = request_block
further_block (put_id place id) = request_block
further_block (put-entry place entry) = entry_block place

-- an entry has a place
abbrev pub HasPlace : Further → Type 0
HasPlace same = Unit {0}
HasPlace (put_id place id) = Unit {0}
HasPlace (put-entry place entry) = place < word_count

pub fits_place : (im : List ℕ) (f : Further) → FurtherFits im f → HasPlace f
fits_place im same p = tt
fits_place im (put_id place id) p = tt
fits_place im (put-entry place entry) p = p.0

pub further_high : (f : Further) → request_block ≤ further_block f
further_high same = omega arith
further_high (put_id place id) = omega arith
further_high (put-entry place entry) = omega arith

pub further_low : (f : Further) → HasPlace f → further_block f < block_count
further_low same p = omega arith
further_low (put_id place id) p = omega arith
further_low (put-entry place entry) p = omega arith

module _ (im : List ℕ) (size : length im ≡ image_size) where
  pub further-length : (f : Further) → HasPlace f → length (further_stored im f) ≡ image_size
  further-length same p = size
  further-length (put_id place id) p = length-store_id im size place id
  further-length (put-entry place entry) p = length-store_entry im size place (omega arith) entry

  -- every other block keeps its bytes
  pub further-other : (f : Further) → HasPlace f → (c : ℕ) → c ≢ further_block f → block (further_stored im f) c ≡ block im c
  further-other same p c apart = refl
  further-other (put_id place id) p c apart = id_other im size place id c apart
  further-other (put-entry place entry) p c apart = entry_other im size place (omega arith) entry c apart

  -- the block as it will be, and nothing else
  pub further_alone : (f : Further) → HasPlace f → with_block im (further_block f) (block (further_stored im f) (further_block f)) ≡ further_stored im f
  unfolding store_id store_entry
  further_alone same p = put_same im request_block (omega arith)
  further_alone (put_id place id) p = ap (with_block im request_block) (id-put im size place id)
  further_alone (put-entry place entry) p = ap (with_block im (entry_block place)) (entry-put im size place (omega arith) entry)

-- ---- the slot, and all three
module _ (im : List ℕ) (size : length im ≡ image_size) where
  pub slot-length : (slots : Slots) → SlotFits im slots → length (slot_stored im slots) ≡ image_size
  slot-length stay f = size
  slot-length empty f = size
  slot-length (one_more m) f = length-store_slot im size (next_slot (decode im).header) (omega arith) m f.0
  slot-length (fewer k) f = size

  pub slot_others : (slots : Slots) → SlotFits im slots → (c : ℕ) → c ≢ slot_named im slots → block (slot_stored im slots) c ≡ block im c
  slot_others stay f c apart = refl
  slot_others empty f c apart = refl
  slot_others (one_more m) f c apart = slot-other im size (next_slot (decode im).header) (omega arith) m f.0 c apart
  slot_others (fewer k) f c apart = refl

  pub slot_low : (slots : Slots) → slot_named im slots < request_block
  slot_low stay = omega arith
  slot_low empty = omega arith
  slot_low (one_more m) = omega arith
  slot_low (fewer k) = omega arith

  -- a slot that is stored is not live: ".. one that isn't live"
  pub slot-idle : (slots : Slots) → SlotFits im slots → (j : ℕ) → slot_named im slots ≡ block_of j → (j < slot_count) × NotLive im j
  slot-idle stay f j e = absurd (omega arith)
  slot-idle empty f j e = absurd (omega arith)
  slot-idle (one_more m) f j e = let same : next_slot (decode im).header ≡ j = omega arith in rw (← same) (omega arith, idle_last im f.1)
  slot-idle (fewer n) f j e = absurd (omega arith)

  module _ (s : State) (slots : Slots) (f : Further) (sf : SlotFits im slots) (p : HasPlace f) where
    -- the slot is none of the further blocks
    apart_slot : slot_named im slots ≢ further_block f
    apart_slot = omega (arith, slot_low slots, further_high f)

    -- what block 0 leaves
    pub earlier_blocks : (c : ℕ) → c ≢ 0 → block (stored im slots f s) c ≡ block (further_stored (slot_stored im slots) f) c
    earlier_blocks c zero = zeroth-other (further_stored (slot_stored im slots) f) (further-length (slot_stored im slots) (slot-length slots sf) f p) _ _ c zero

    -- every block but the slot's, the further one and block 0 keeps its bytes
    pub other_blocks : (c : ℕ) → c ≢ 0 → c ≢ further_block f → c ≢ slot_named im slots → block (stored im slots f s) c ≡ block im c
    other_blocks c zero further slot =
        earlier_blocks c zero ∙ further-other (slot_stored im slots) (slot-length slots sf) f p c further ∙ slot_others slots sf c slot

    -- the slot's block as it will be, and nothing else
    pub slot_alone : slot_named im slots ≢ 0 → with_block im (slot_named im slots) (block (stored im slots f s) (slot_named im slots)) ≡ slot_stored im slots
    unfolding store_slot
    slot_alone some =
        ap (with_block im (slot_named im slots))
        (earlier_blocks (slot_named im slots) some ∙ further-other (slot_stored im slots) (slot-length slots sf) f p (slot_named im slots) apart_slot)
        ∙ by slots sf some
      where
        by : (x : Slots) → SlotFits im x → slot_named im x ≢ 0 → with_block im (slot_named im x) (block (slot_stored im x) (slot_named im x)) ≡ slot_stored im x
        by stay f some = absurd (some refl)
        by empty f some = absurd (some refl)
        by (one_more m) f some = ap (with_block im (slot_named im (one_more m))) (slot-put im size (next_slot (decode im).header) (omega arith) m f.0)
        by (fewer n) f some = absurd (some refl)

    -- the slot stored, the further block as it will be, and nothing else
    pub further-next : with_block (slot_stored im slots) (further_block f) (block (stored im slots f s) (further_block f)) ≡ further_stored (slot_stored im slots) f
    further-next =
        ap (with_block (slot_stored im slots) (further_block f)) (earlier_blocks (further_block f) (omega (arith, further_high f)))
        ∙ further_alone (slot_stored im slots) (slot-length slots sf) f p
