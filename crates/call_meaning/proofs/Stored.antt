-- A state stored, block by block as its outcome tells: all stores make the call's image, and fewer leave the state before. Assumes nothing.
use Prim.Native.Nat.{ℕ, ◌≤◌, ◌<◌}
use mathlib.Core.Bool.{Bool, false}
use mathlib.Core.List.{List, [], ◌∷◌}
use mathlib.Core.Logic.{◌≢◌}
use mathlib.Core.Path.{◌≡◌, refl, sym, ap}
use native.Mathlib.Omega.{arith}
use lib.Dec.{eqb}
use lib.ListN.{length}
use borrow.Author.Tests.{eqb-true, eqb-false}
use Rattle.octets.specs.Pick.{pick}
use Rattle.octets.proofs.Choice.{by_test}
use Rattle.octets.proofs.Differ.{differ_false, differ_self}
use Rattle.block.specs.Run.{Words}
use Rattle.label_list.specs.Word.{word_count}
use Rattle.block0.specs.Layout.{slot_count}
use Rattle.image.specs.Sizes.{block, image_size, request_block, with_block}
use Rattle.image.specs.State.{decode}
use Rattle.image.specs.Verdict.{IsSound}
use Rattle.image.proofs.Stored.{length-store0}
use Rattle.protocol.specs.Step.{Step}
use Rattle.calls.specs.Outcomes.{is_other, step_stored}
use Rattle.calls.specs.Storing.{Further, Slots, stay, empty, one_more, fewer, further_stored, slot_named, slot_stored, stored}
use Rattle.calls.proofs.Slots.{FurtherFits, HasPlace, SlotFits, fits_place, further_high, further-length, further_low, further-next, further_block, other_blocks, slot_alone, slot-length, slot_low}
use Rattle.call_meaning.specs.Medium.{Same, all_stored, committed, stores, told}
use Rattle.call_meaning.proofs.Slots.{both_same, slot_same}
use Rattle.call_meaning.proofs.Written.{Without, fewer_told, further_read, not-further, not-slot, not-zeroth, told-within, written_all}

module _ (im : List ℕ) (s : IsSound im) (slots : Slots) (f : Further) (sf : SlotFits im slots) (ff : FurtherFits im f) (x : Step) (o : List ℕ) where
  abbrev next : List ℕ
  next = stored im slots f x.state

  abbrev slot : ℕ
  slot = slot_named im slots

  -- of the further blocks at most this one is another
  abbrev c : ℕ
  c = further_block f

  place : HasPlace f
  place = fits_place im f ff

  high : slot_count < c
  high = omega (arith, further_high f)

  others_kept : (k : ℕ) → request_block ≤ k → k ≢ c → is_other im next k ≡ false
  others_kept k l apart =
      let low = slot_low im s.size slots in
      rw (other_blocks im s.size x.state slots f sf place k (omega arith) apart (omega (arith, low)), differ_self (block im k))

  abbrev zeroth : Bool
  zeroth = is_other im next 0

  is_told : stores (step_stored im slots f x o).outcome ≡ told (eqb slot 0) slot (pick (is_other im next c) (c ∷ []) []) zeroth
  is_told = ap (λ (bs : List ℕ). told (eqb slot 0) slot bs zeroth) (further_read (is_other im next) c (further_high f) (further_low f place) others_kept)

  -- a block that is not told keeps its bytes
  untold_kept : (k : ℕ) → Without k (told (eqb slot 0) slot (pick (is_other im next c) (c ∷ []) []) zeroth) → block next k ≡ block im k
  untold_kept k w =
      by_test (eqb k 0)
      (λ t. let e : k ≡ 0 = eqb-true k 0 t in rw e (sym (differ_false (block im 0) (block next 0) (not-zeroth c high (eqb slot 0) slot (is_other im next c) zeroth (rw e at w)))))
      (λ n. let some : k ≢ 0 = eqb-false k 0 n in
      by_test (eqb k c)
      (λ t. let e : k ≡ c = eqb-true k c t in
      rw e (sym (differ_false (block im c) (block next c) (not-further c high (eqb slot 0) slot (is_other im next c) zeroth (rw e at w)))))
      (λ n. other_blocks im s.size x.state slots f sf place k some (eqb-false k c n) (not-slot c high (eqb slot 0) slot (is_other im next c) zeroth k refl some w)))

  -- with all of them stored the medium is the call's image
  pub stored_all : all_stored im (step_stored im slots f x o) ≡ next
  stored_all =
      let long : length next ≡ image_size =
      length-store0 (further_stored (slot_stored im slots) f) (further-length (slot_stored im slots) (slot-length im s.size slots sf) f place) _ _ in
      rw is_told
      (written_all im next (told (eqb slot 0) slot (pick (is_other im next c) (c ∷ []) []) zeroth) s.size long
      (told-within c high (eqb slot 0) slot (is_other im next c) zeroth (omega (arith, slot_low im s.size slots)) (further_low f place)) untold_kept)

  slot-written : pick (eqb slot 0) im (with_block im slot (block next slot)) ≡ slot_stored im slots
  slot-written = by_test (eqb slot 0) (λ t. rw t (by slots (eqb-true slot 0 t))) (λ n. rw n (slot_alone im s.size x.state slots f sf place (eqb-false slot 0 n)))
    where
      by : (y : Slots) → slot_named im y ≡ 0 → im ≡ slot_stored im y
      by stay e = refl
      by empty e = refl
      by (one_more m) e = absurd (omega arith)
      by (fewer k) e = refl

  -- with fewer "restore gives the state before the call": the same checks are passed, and the state is the same
  pub stored_fewer : Words word_count (decode im).ids → (n : ℕ) → n < length (stores (step_stored im slots f x o).outcome) → Same im (committed n im (step_stored im slots f x o))
  stored_fewer widths =
      rw is_told (λ n less.
      fewer_told c high (Same im) im next (eqb slot 0) slot (is_other im next c) zeroth n less
      (record { checks = refl; state = refl })
      (λ some. rw (slot_alone im s.size x.state slots f sf place (eqb-false slot 0 some)) (slot_same im s slots sf))
      (λ changed. rw (slot-written, further-next im s.size x.state slots f sf place) (both_same im s widths slots f sf ff)))
