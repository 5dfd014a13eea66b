-- What a conversion that answers 0 leaves, and when it answers 16. Assumes nothing.
use Rattle.std.specs.Prelude.{Result, Ok, Err}
use Prim.Native.Nat.{ℕ, ◌<◌, ◌≤◌}
use mathlib.Core.Bool.{true, false, not}
use mathlib.Core.List.{List}
use mathlib.Core.Logic.{◌≢◌}
use mathlib.Core.Path.{◌≡◌, refl, sym, ap, ◌∙◌}
use native.Mathlib.Omega.{arith}
use lib.Dec.{ltb}
use lib.ListN.{length, take, drop}
use lib.Seq.{drop_at}
use borrow.Author.Tests.{ltb-false}
use Rattle.octets.specs.Bytes.{Bytes}
use Rattle.octets.specs.Laid.{laid}
use Rattle.octets.proofs.Choice.{by_test, pick_all}
use Rattle.octets.proofs.Laid.{laid_front, take-laid}
use Rattle.block0.specs.declared.Version.{Version}
use Rattle.image.specs.declared.ImageFault.{ImageFault}
use Rattle.image.specs.Sizes.{block, block_count, image_size}
use Rattle.image.specs.State.{decode_by}
use Rattle.image.specs.Verdict.{IsSoundBy, verdict_by}
use Rattle.image.proofs.Scans.{named_block}
use Rattle.image.proofs.Sound.{parts_sound, sound_parts}
use Rattle.convert.specs.declared.ConversionFault.{ConversionFault}
use Rattle.convert.specs.Convert.{Converted, converted, conversion_block, convert_of}
use Rattle.convert.specs.Move.{image_moved, movable, other, state_moved}
use Rattle.convert.proofs.Answers.{done, immovable}
use Rattle.convert.proofs.Kept.{other_twice}
use Rattle.convert.proofs.Moved.{moved_back, moved_decodes, moved_movable, moved_other, moved_sound}

-- restore's checks pass an image, or find a fault
by_verdict : {A : Type 0} (r : Result Unit ImageFault) → (r ≡ Ok tt → A) → ((fault : ImageFault) → r ≡ Err fault → A)
    → A
by_verdict (Ok tt) passes faulty = passes refl
by_verdict (Err fault) passes faulty = faulty fault refl

-- ---- an image that passes, and room
module _ (v : Version) (image out : List ℕ) (s : IsSoundBy v image) (room : image_size ≤ length out) where
  pub moves : movable v (decode_by v image).header (decode_by v image).labels ≡ true
      → convert_of v image out ≡ converted (Ok tt) (laid out 0 (image_moved v image))
  moves m = sym (done v image out refl (parts_sound image s) refl (ap not m) room refl)

  pub stays : movable v (decode_by v image).header (decode_by v image).labels ≡ false
      → convert_of v image out ≡ converted (Err ConversionFault.Immovable) out
  stays f = sym (immovable v image out refl (parts_sound image s) refl (ap not f))

  -- where the answer is not 16 it is 0
  pub moves_else : (convert_of v image out).answer ≢ Err ConversionFault.Immovable
      → (convert_of v image out).answer ≡ Ok tt
  moves_else not16 =
      by_test (movable v (decode_by v image).header (decode_by v image).labels)
      (λ m. ap (λ a. a.answer) (moves m))
      (λ f. absurd (not16 (ap (λ a. a.answer) (stays f))))

  -- where it is 16 no image of the other version, moved, is this one
  pub stays_else : (convert_of v image out).answer ≡ Err ConversionFault.Immovable
      → (t : List ℕ) → IsSoundBy (other v) t → Bytes t
      → movable (other v) (decode_by (other v) t).header (decode_by (other v) t).labels ≡ true → image_moved (other v) t ≢ image
  stays_else is16 t st byte mt e =
      let back : movable (other (other v)) (decode_by (other (other v)) image).header (decode_by (other (other v)) image).labels ≡ true =
      ap (λ (i : List ℕ). movable (other (other v)) (decode_by (other (other v)) i).header (decode_by (other (other v)) i).labels) (sym e)
      ∙ moved_movable (other v) t st byte mt in
      let m : movable v (decode_by v image).header (decode_by v image).labels ≡ true =
      ap (λ (w : Version). movable w (decode_by w image).header (decode_by w image).labels) (sym (other_twice v)) ∙ back in
      let apart : ◌≡◌ {A = Result Unit ConversionFault} (Ok tt) (Err ConversionFault.Immovable) =
      sym (ap (λ a. a.answer) (moves m)) ∙ is16 in
      cc

-- ---- the answer 0
-- what it tells
pub record Moves (v : Version) (image out : List ℕ) : Type 0 where
  pub sound : IsSoundBy v image
  pub movable : movable v (decode_by v image).header (decode_by v image).labels ≡ true
  pub room : image_size ≤ length out

pub done_moves : (v : Version) (image out : List ℕ) → (convert_of v image out).answer ≡ Ok tt → Moves v image out
unfolding convert_of
done_moves v image out e =
    by_verdict (verdict_by v image)
    (λ passes. by_test (movable v (decode_by v image).header (decode_by v image).labels)
    (λ m. by_test (ltb (length out) image_size)
    (λ short. let apart = rw (passes, m, short) at e in cc)
    (λ room. record { sound = sound_parts image passes; movable = m; room = ltb-false (length out) image_size room }))
    (λ f. let apart = rw (passes, f) at e in cc))
    (λ fault faulty. let apart = rw faulty at e in cc)

-- any other answer leaves the output
pub else_same : (v : Version) (image out : List ℕ) → (convert_of v image out).answer ≢ Ok tt
    → (convert_of v image out).out ≡ out
unfolding convert_of
else_same v image out other =
    by_verdict (verdict_by v image)
    (λ passes. by_test (movable v (decode_by v image).header (decode_by v image).labels)
    (λ m. by_test (ltb (length out) image_size) (λ short. rw (passes, m, short))
    (λ room. absurd (other (rw (passes, m, room)))))
    (λ f. rw (passes, f)))
    (λ fault faulty. rw faulty)

-- the block that an answer names is a block of the image
pub answer_below : (v : Version) (image out : List ℕ) → conversion_block (convert_of v image out).answer < block_count
unfolding convert_of
answer_below v image out =
    by_verdict (verdict_by v image)
    (λ passes. rw passes
    (pick_all (λ (a : Converted). conversion_block a.answer < block_count)
    (not (movable v (decode_by v image).header (decode_by v image).labels)) (omega arith)
    (pick_all (λ (a : Converted). conversion_block a.answer < block_count) (ltb (length out) image_size) (omega arith)
    (omega arith))))
    (λ fault faulty. rw faulty (rw faulty at (named_block v image)))

-- the image that stands in the output
abbrev pub written : Version → List ℕ → List ℕ → List ℕ
written v image out = take image_size (convert_of v image out).out

module _ (v : Version) (image out : List ℕ) (e : (convert_of v image out).answer ≡ Ok tt) (byte : Bytes image) where
  given : Moves v image out
  given = done_moves v image out e

  long : length (image_moved v image) ≡ image_size
  long = (moved_sound v image given.sound byte given.movable).size

  put : (convert_of v image out).out ≡ laid out 0 (image_moved v image)
  put = ap (λ a. a.out) (moves v image out given.sound given.room given.movable)

  pub converted_is : written v image out ≡ image_moved v image
  converted_is = ap (take image_size) put ∙ ap (λ (k : ℕ). take k (laid out 0 (image_moved v image))) (sym long) ∙ take-laid out (image_moved v image) (omega (arith, given.room, long))

  -- no byte behind it changes
  pub converted-rest : drop image_size (convert_of v image out).out ≡ drop image_size out
  converted-rest =
      ap (drop image_size) (put ∙ laid_front out (image_moved v image) (omega (arith, given.room, long)))
      ∙ drop_at (image_moved v image) (drop (length (image_moved v image)) out) image_size long
      ∙ ap (λ (k : ℕ). drop k out) long

  -- it passes restore's checks of its version
  pub converted-sound : verdict_by (other v) (written v image out) ≡ Ok tt
  converted-sound = ap (verdict_by (other v)) converted_is ∙ parts_sound (image_moved v image) (moved_sound v image given.sound byte given.movable)

  -- it stands for the same state, in its own unit
  pub converted_decodes : decode_by (other v) (written v image out) ≡ state_moved v (decode_by v image)
  converted_decodes = ap (decode_by (other v)) converted_is ∙ moved_decodes v image given.sound byte given.movable

  -- every block but block 0 keeps its bytes
  pub converted-other : (c : ℕ) → c ≢ 0 → block (written v image out) c ≡ block image c
  converted-other c apart = ap (λ (i : List ℕ). block i c) converted_is ∙ moved_other v image given.sound byte given.movable c apart

  -- 02: "back and forth gives the same bytes wherever a move is possible"
  pub converted_back : (out₂ : List ℕ) → image_size ≤ length out₂
      → convert_of (other v) (written v image out) out₂ ≡ converted (Ok tt) (laid out₂ 0 image)
  converted_back out₂ room =
      let s : IsSoundBy (other v) (image_moved v image) = moved_sound v image given.sound byte given.movable in
      ap (λ (i : List ℕ). convert_of (other v) i out₂) converted_is
      ∙ moves (other v) (image_moved v image) out₂ s room (moved_movable v image given.sound byte given.movable)
      ∙ ap (λ (i : List ℕ). converted (Ok tt) (laid out₂ 0 i)) (moved_back v image given.sound byte given.movable)
