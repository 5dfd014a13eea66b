-- What becomes of the state of a released image, of a new one, and of one as after a break. Assumes nothing.
use Prim.Native.Nat.{ℕ, suc, ◌<◌, ◌*◌, ◌+◌, ◌≤◌}
use mathlib.Core.Bool.{true, false, false≢true}
use mathlib.Core.List.{List}
use mathlib.Core.Logic.{◌≢◌}
use mathlib.Core.Path.{◌≡◌, refl, ap, ◌∙◌, sym}
use native.Mathlib.Omega.{arith}
use lib.Dec.{eqb}
use lib.ListN.{length, replicate, length-map, get_or, get_or-map}
use lib.Seq.{ext_get_or}
use borrow.Author.Tests.{eqb-true, eq-eqb}
use Rattle.octets.proofs.Choice.{by_test}
use Rattle.octets.proofs.Fill.{length_zeros, zeros_at}
use Rattle.block.specs.Check.{block_size}
use Rattle.block.specs.Run.{Words}
use Rattle.block.proofs.WordRun.{none_fit}
use Rattle.ft_number.specs.Circle.{steps_of}
use Rattle.label_list.specs.declared.SweepRule.TheVariants.{AfterBreak}
use Rattle.label_list.specs.Counting.{counting}
use Rattle.label_list.specs.Find.{any}
use Rattle.label_list.specs.Requests.{open_ids}
use Rattle.label_list.specs.Rules.{code_swept}
use Rattle.label_list.specs.Sweep.{word_swept, swept_of}
use Rattle.label_list.specs.Valid.{valid_of}
use Rattle.label_list.specs.Word.{word_count, word_of, is_request, request_code, code_of, request_word, label_of, label_count, lists_label, on_side}
use Rattle.label_list.proofs.Counting.{counting-freed, counting-length, counting_none}
use Rattle.word_block.specs.Layout.{place_count, word_block, no_words}
use Rattle.block0.specs.Coded.{has_code}
use Rattle.block0.specs.Fields.{Fits, Valid, marks_ok}
use Rattle.block0.specs.Layout.{slot_count, released_header, no_labels}
use Rattle.block0.proofs.Rules.{none_valid}
use Rattle.fec_index.specs.Entries.{words_beside}
use Rattle.request_ids.specs.Fields.{IdsGood}
use Rattle.request_ids.proofs.Counted.{word_block_good}
use Rattle.label_meaning.proofs.Meaning.{valid_means, means_valid}
use Rattle.label_meaning.proofs.Swept.{sweep_valid}
use Rattle.image.specs.Events.{released_contents, release_of, new_image, broken_contents, break_of}
use Rattle.image.specs.Ring.{ring}
use Rattle.image.specs.Sizes.{image_size, block, block_of, block_count, cleared, further, further_count, request_block, index_block}
use Rattle.image.specs.State.{InRange, decode, stored_ids, stored_index}
use Rattle.image.specs.Verdict.{IsSound}
use Rattle.image.proofs.Cleared.{length-cleared, cleared-before, cleared_at}
use Rattle.image.proofs.Formatted.{block_zeros}
use Rattle.image.proofs.Indexed.{Right, empty_good, right_fewer}
use Rattle.image.proofs.Ranges.{valid_words, open_words}
use Rattle.image.proofs.Requests.{Fewer, ids_fewer, none_once, none_fewer, no_ids}
use Rattle.image.proofs.Sound.{Beside, goods_beside, sound_right, sound-store0, sound_keep, sound_valid, sound-ids, once_fewer}
use Rattle.image.proofs.Stored.{decode-store0, decode_keep, zeroth-other, state_eq}

-- ---- released
fits_released : Fits released_header
fits_released = record {
  released = omega arith;
  issued = omega arith;
  secured = omega arith;
  first = omega arith;
  held = omega arith;
  timeout = omega arith;
  kept = omega arith;
  marks = omega arith;
  keepalive = omega arith;
  maxpdu = omega arith;
}

none_listed : any (has_code request_code) no_labels ≡ false
unfolding any
none_listed = refl

none_asked : (xs : List ℕ) → open_ids no_labels xs ≡ replicate word_count 0
none_asked = no_ids no_labels none_listed word_count (length_zeros word_count)

none_lists : (i : ℕ) → lists_label (get_or no_labels i 0) ≡ false
unfolding lists_label on_side
none_lists i = rw (zeros_at word_count i)

pub none_indexed : (xs : List ℕ) → counting 0 lists_label no_labels xs ≡ replicate word_count 0
none_indexed xs =
    ext_get_or 0 (counting 0 lists_label no_labels xs) (replicate word_count 0) (counting-length 0 lists_label no_labels xs)
    (λ i l. counting_none 0 lists_label no_labels xs i (none_lists i) ∙ sym (zeros_at word_count i))

none_right_all : (ws image : List ℕ) → Right ws image → Right no_labels image
none_right_all ws image = right_fewer no_labels ws image (λ i t. absurd (false≢true (sym (none_lists i) ∙ t)))

words_none : Words word_count no_labels
words_none = none_fit word_count

pub in_range_released : InRange released_contents
in_range_released = record { header = fits_released; labels = words_none; ids = words_none }

pub valid_released : Valid released_header no_labels
unfolding steps_of marks_ok
valid_released = record {
  first = omega arith;
  held = omega arith;
  kept = omega arith;
  marks = refl;
  window = refl;
  labels = none_valid word_count;
  idle = λ k. (refl, refl);
}

module _ (image : List ℕ) (size : length image ≡ image_size) where
  -- a released image stands for the released state
  pub release_decodes : decode (release_of image) ≡ released_contents
  unfolding release_of ring
  release_decodes =
      decode-store0 image size released_header no_labels fits_released words_none ∙ state_eq refl refl (none_asked (stored_ids image)) (none_indexed (stored_index image)) refl

  -- and is sound, where the further blocks are good
  released-sound : Beside no_labels image → IsSound (release_of image)
  unfolding release_of
  released-sound good = sound-store0 image released_header no_labels size fits_released words_none valid_released (λ i l. absurd (omega arith)) good

  -- every other block keeps its bytes
  pub release_other : (c : ℕ) → c ≢ 0 → block (release_of image) c ≡ block image c
  unfolding release_of
  release_other c apart = zeroth-other image size released_header no_labels c apart

pub release-sound : (image : List ℕ) → IsSound image → IsSound (release_of image)
release-sound image s = released-sound image s.size (sound-ids image no_labels s (once_fewer image no_labels s (none_fewer no_labels none_listed (decode image).labels))
    (none_right_all (decode image).labels image (sound_right image s)))

-- ---- a new image: zeros and empty further blocks, released
blank : List ℕ
blank = cleared (replicate image_size 0) further

is_released : new_image ≡ release_of blank
unfolding new_image release_of blank
is_released = refl

long_blank : length blank ≡ image_size
unfolding blank
long_blank = length-cleared further_count request_block (replicate image_size 0) ∙ length_zeros image_size

-- a new image stands for the released state
pub new_decodes : decode new_image ≡ released_contents
new_decodes = rw is_released (release_decodes blank long_blank)

inside_zeros : block_count * block_size ≤ length {A = ℕ} (replicate image_size 0)
inside_zeros = rw (length_zeros image_size) (omega arith)

last_index : (k : ℕ) → k < 2 → block blank (index_block + k) ≡ word_block no_words
unfolding blank
last_index k l =
    let there : index_block + k ≡ request_block + suc k = omega arith in
    rw there (cleared_at further_count request_block (replicate image_size 0) inside_zeros (suc k) (omega arith))

-- and is sound
pub new_sound : IsSound new_image
unfolding blank
new_sound =
    let last : block blank request_block ≡ word_block no_words = cleared_at further_count request_block (replicate image_size 0) inside_zeros 0 (omega arith) in
    let good : IdsGood no_labels (word_block no_words) =
    word_block_good no_words (length_zeros place_count) no_labels (rw (none_asked no_words) words_none.each) (omega (arith, length_zeros word_count)) (none_once no_labels none_listed no_words) in
    rw is_released (released-sound blank long_blank (goods_beside no_labels blank (rw last good) (λ k l. rw (last_index k l) (empty_good (words_beside k no_labels)))))

-- its slots are zeros
pub new_slot : (k : ℕ) → k < slot_count → block new_image (block_of k) ≡ replicate block_size 0
unfolding blank
new_slot k l =
    rw is_released
    (release_other blank long_blank (block_of k) (omega arith)
    ∙ cleared-before further_count request_block (replicate image_size 0) inside_zeros (block_of k) (omega arith)
    ∙ block_zeros image_size (block_of k) (omega arith))

-- ---- as after a break
swept_none : swept_of no_labels AfterBreak ≡ no_labels
unfolding word_swept word_of code_swept
swept_none = refl

-- no other word becomes a Request's
swept_request : (w : ℕ) → is_request (word_swept AfterBreak w) ≡ true → is_request w ≡ true
unfolding word_swept word_of code_swept is_request
swept_request w t =
    by_test (eqb (code_of w) 6)
    (λ six. absurd (false≢true (rw six at t)))
    (λ other. by_test (eqb (code_of w) 0)
    (λ free. absurd (false≢true (rw (other, free) at t)))
    (λ coded. let e : w ≡ request_word = omega (arith, eqb-true (label_of w + label_count * code_of w) request_word (rw (other, coded) at t)) in eq-eqb w request_word e))

swept_lists : (w : ℕ) → lists_label (word_swept AfterBreak w) ≡ true → lists_label w ≡ true
unfolding word_swept word_of code_swept lists_label on_side
swept_lists w t =
    by_test (eqb (code_of w) 6)
    (λ six. absurd (false≢true (rw six at t)))
    (λ other. by_test (eqb (code_of w) 0)
    (λ free. absurd (false≢true (rw (other, free) at t)))
    (λ coded. let e : label_of w + label_count * code_of w ≡ w = omega arith in rw e at (rw (other, coded) at t)))

module _ (image : List ℕ) (s : IsSound image) (range : InRange (decode image)) where
  freed : List ℕ
  freed = swept_of (decode image).labels AfterBreak

  freed_valid : valid_of freed ≡ true
  unfolding freed
  freed_valid = means_valid freed (sweep_valid (decode image).labels (valid_means (decode image).labels (sound_valid image s).labels) AfterBreak)

  freed-words : Words word_count freed
  unfolding freed
  freed-words = valid_words freed (length-map (decode image).labels (word_swept AfterBreak) ∙ range.labels.count) freed_valid

  -- a valid list stays valid, and one of free words stays as it is
  freed_fields : Valid (decode image).header freed
  unfolding freed
  freed_fields =
      let v = sound_valid image s in
      record {
        first = v.first;
        held = v.held;
        kept = v.kept;
        marks = v.marks;
        window = v.window;
        labels = freed_valid;
        idle = λ k. ((v.idle k).0, ap (λ (ls : List ℕ). swept_of ls AfterBreak) (v.idle k).1 ∙ swept_none);
      }

  -- an open Request stays open
  freed_fewer : Fewer freed (decode image).labels
  unfolding freed word_swept word_of code_swept
  freed_fewer i t = swept_request (get_or (decode image).labels i 0) (ap is_request (sym (get_or-map (word_swept AfterBreak) (decode image).labels i 0)) ∙ t)

  -- no other word lists a label
  freed_lists : (i : ℕ) → lists_label (get_or freed i 0) ≡ true → lists_label (get_or (decode image).labels i 0) ≡ true
  unfolding freed word_swept word_of code_swept
  freed_lists i t = swept_lists (get_or (decode image).labels i 0) (ap lists_label (sym (get_or-map (word_swept AfterBreak) (decode image).labels i 0)) ∙ t)

  index-freed : counting 0 lists_label freed (stored_index image) ≡ counting 0 lists_label freed (decode image).index
  unfolding decode
  index-freed = sym (counting-freed 0 lists_label freed (decode image).labels (stored_index image) (freed-words.count ∙ sym range.labels.count) freed_lists)

  -- as after a break only the label words change
  pub break_decodes : decode (break_of image) ≡ broken_contents (decode image)
  unfolding break_of freed
  break_decodes =
      decode_keep image (decode image).header freed s.size range.header freed-words refl refl
      ∙ state_eq refl refl (ids_fewer image freed freed-words.count freed_fewer) index-freed refl

  -- and a sound image is sound
  pub break_sound : IsSound (break_of image)
  unfolding break_of freed
  break_sound = sound_keep image (decode image).header freed s range.header freed-words freed_fields refl refl (once_fewer image freed s freed_fewer)
      (right_fewer freed (decode image).labels image freed_lists (sound_right image s))

  -- its numbers keep their widths
  pub in_range_broken : InRange (broken_contents (decode image))
  unfolding freed
  in_range_broken = record { header = range.header; labels = freed-words; ids = open_words freed (decode image).ids freed-words.count range.ids.each }
