-- Upgrade in the field: an image of version 1 that an earlier release stored, extended and moved to version 2, passes restore's checks, and holds and lists
-- the same, its labels as of other FECs, where the last of its 120 label words is free. Assumes nothing.
use Rattle.std.specs.Prelude.{Ok}
use Prim.Native.Nat.{ℕ, ◌≤◌}
use mathlib.Core.Bool.{true}
use mathlib.Core.List.{List}
use mathlib.Core.Path.{◌≡◌, ap, ◌∙◌}
use lib.ListN.{get_or, length, replicate, take}
use borrow.Author.Tests.{eq-eqb}
use Rattle.octets.specs.Bytes.{Bytes}
use Rattle.octets.specs.Laid.{laid}
use Rattle.label_list.specs.Word.{is_free, word_count}
use Rattle.block0.specs.declared.Version.TheVariants.{One}
use Rattle.image.specs.Extend.{SoundBefore, earlier_size, extend_of}
use Rattle.image.specs.Sizes.{image_size}
use Rattle.image.specs.State.{Contents, decode, decode_by}
use Rattle.image.specs.Verdict.{verdict}
use Rattle.image.proofs.Extended.{extended_decodes, extended_sound, first_ids}
use Rattle.image.proofs.Sound.{parts_sound}
use Rattle.convert.specs.Convert.{converted, convert_of}
use Rattle.convert.specs.Move.{header_moved, image_moved, movable, state_moved}
use Rattle.convert.proofs.Converted.{moves}
use Rattle.convert.proofs.Moved.{moved_decodes, moved_sound, words_same}

-- a buffer of which the blocks with n further ones were stored; what it holds then are bytes: it stands in a slice of them
module _ (n : ℕ) (image : List ℕ) (s : SoundBefore One n image) (byte : Bytes (extend_of image (earlier_size n))) (free : get_or (decode_by One image).labels word_count 0 ≡ 0) where
  m : movable One (decode_by One (extend_of image (earlier_size n))).header (decode_by One (extend_of image (earlier_size n))).labels ≡ true
  unfolding is_free
  m = eq-eqb (get_or (decode_by One (extend_of image (earlier_size n))).labels word_count 0) 0 (ap (λ (t : Contents). get_or t.labels word_count 0) (extended_decodes One n image s) ∙ free)

  -- the converter answers 0
  pub upgraded : (out : List ℕ) → image_size ≤ length out
      → convert_of One (extend_of image (earlier_size n)) out
      ≡ converted (Ok tt) (laid out 0 (image_moved One (extend_of image (earlier_size n))))
  upgraded out room = moves One (extend_of image (earlier_size n)) out (extended_sound One n image s) room m

  -- what it writes passes restore's checks
  pub upgraded_sound : verdict (image_moved One (extend_of image (earlier_size n))) ≡ Ok tt
  upgraded_sound = parts_sound (image_moved One (extend_of image (earlier_size n))) (moved_sound One (extend_of image (earlier_size n)) (extended_sound One n image s) byte m)

  -- the same numbers, the timeout in milliseconds; the same words but the free one, and the IDs beside them; no entry counts; the same queue
  pub upgraded_decodes : decode (image_moved One (extend_of image (earlier_size n))) ≡ record {
    header = header_moved One (decode_by One image).header;
    labels = take word_count (decode_by One image).labels;
    ids = take word_count (decode_by One image).ids;
    index = replicate word_count 0;
    queue = (decode_by One image).queue;
  }
  unfolding decode
  upgraded_decodes = moved_decodes One (extend_of image (earlier_size n)) (extended_sound One n image s) byte m ∙ ap (state_moved One) (extended_decodes One n image s)

  -- each label is listed where it was
  pub upgraded_lists : (i : ℕ) → get_or (decode (image_moved One (extend_of image (earlier_size n)))).labels i 0 ≡ get_or (decode_by One image).labels i 0
  unfolding decode
  upgraded_lists i =
      ap (λ (t : Contents). get_or t.labels i 0) (moved_decodes One (extend_of image (earlier_size n)) (extended_sound One n image s) byte m)
      ∙ words_same One (extend_of image (earlier_size n)) (extended_sound One n image s) byte m i
      ∙ ap (λ (t : Contents). get_or t.labels i 0) (extended_decodes One n image s)

-- from the first release there is no open Request
pub upgraded_first : (image : List ℕ) → SoundBefore One 0 image → (byte : Bytes (extend_of image (earlier_size 0))) → get_or (decode_by One image).labels word_count 0 ≡ 0
    → (decode (image_moved One (extend_of image (earlier_size 0)))).ids ≡ replicate word_count 0
upgraded_first image s byte free = ap (λ (t : Contents). t.ids) (upgraded_decodes 0 image s byte free) ∙ ap (take word_count) (first_ids One image s)
