-- With the slot alone stored, or the slot and a further block, the image is as before. Assumes nothing.
use Prim.Native.Nat.{ℕ, ◌<◌}
use mathlib.Core.List.{List}
use mathlib.Core.Path.{refl, sym, ◌∙◌}
use native.Mathlib.Omega.{arith}
use Rattle.block.specs.Run.{Words}
use Rattle.label_list.specs.Word.{word_count}
use Rattle.block0.specs.Layout.{slot_count}
use Rattle.image.specs.State.{decode, store_entry, store_id, store_slot}
use Rattle.image.specs.Verdict.{IsSound}
use Rattle.image.proofs.Entered.{sound-entry, sound_wide}
use Rattle.image.proofs.Entries.{decode-entry}
use Rattle.image.proofs.Sound.{idle_last, parts_sound, sound-id, sound_parts, sound-slot}
use Rattle.image.proofs.Stored.{decode-id, decode-slot}
use Rattle.calls.specs.Storing.{Further, same, put_id, put-entry, Slots, stay, empty, one_more, fewer, further_stored, next_slot, slot_stored}
use Rattle.calls.proofs.Slots.{FurtherFits, SlotFits}
use Rattle.call_meaning.specs.Medium.{Same}

same_self : (im : List ℕ) → Same im im
same_self im = record { checks = refl; state = refl }

-- "With only the slot stored, restore gives the state before the call"
pub slot_same : (im : List ℕ) → IsSound im → (slots : Slots) → SlotFits im slots → Same im (slot_stored im slots)
slot_same im s stay f = same_self im
slot_same im s empty f = same_self im
slot_same im s (one_more m) f =
    let k : ℕ = next_slot (decode im).header in
    let low : k < slot_count = omega arith in
    record {
      checks = parts_sound (store_slot im k m) (sound-slot im k m s low f.0 (idle_last im f.1)) ∙ sym (parts_sound im s);
      state = decode-slot im s.size k low m f.0 (idle_last im f.1);
    }
slot_same im s (fewer n) f = same_self im

-- 02: "so a cut leaves the state before": an ID or an entry that is put does not count yet
further_same : (im : List ℕ) → IsSound im → Words word_count (decode im).ids → (f : Further) → FurtherFits im f → Same im (further_stored im f)
further_same im s widths same p = same_self im
further_same im s widths (put_id place id) p = record {
  checks = parts_sound (store_id im place id) (sound-id im place id s widths p) ∙ sym (parts_sound im s);
  state = decode-id im s.size place id widths p;
}
further_same im s widths (put-entry place entry) p = record {
  checks = parts_sound (store_entry im place entry) (sound-entry im s place entry (omega (arith, p.0)) p.1) ∙ sym (parts_sound im s);
  state = decode-entry im s.size place (omega (arith, p.0)) entry (sound_wide im s) p.1;
}

-- what the image and its labels allow they allow where both are the same
pub fits_same : (im t : List ℕ) → Same im t → (f : Further) → FurtherFits im f → FurtherFits t f
fits_same im t e same p = tt
fits_same im t e (put_id place id) p = rw e.state p
fits_same im t e (put-entry place entry) p = (p.0, rw e.state p.1)

module _ (im : List ℕ) (s : IsSound im) (widths : Words word_count (decode im).ids) (slots : Slots) (f : Further) (sf : SlotFits im slots) (ff : FurtherFits im f) where
  -- the slot and the further block
  pub both_same : Same im (further_stored (slot_stored im slots) f)
  both_same =
      let t : List ℕ = slot_stored im slots in
      let slot : Same im t = slot_same im s slots sf in
      let then : Same t (further_stored t f) = further_same t (sound_parts t (slot.checks ∙ parts_sound im s)) (rw slot.state widths) f (fits_same im t slot f ff) in
      record { checks = then.checks ∙ slot.checks; state = then.state ∙ slot.state }
