-- An image of an earlier size, extended: its blocks are as they were, so it passes the checks of its version and stands for the same, its labels as of other
-- FECs; and what `extend` answers. Assumes nothing.
use Rattle.std.specs.Prelude.{Ok, Err}
use Prim.Native.Nat.{ℕ, zero, suc, ◌+◌, ◌-◌, ◌*◌, ◌%◌, ◌≤◌, ◌<◌}
use mathlib.Core.Bool.{false}
use mathlib.Core.List.{List}
use mathlib.Core.Logic.{◌≢◌}
use mathlib.Core.Path.{◌≡◌, refl, sym, ap, ◌∙◌}
use native.Mathlib.Omega.{arith}
use lib.Dec.{eqb}
use lib.ListN.{length, get_or, replicate}
use lib.Seq.{ext_get_or}
use borrow.Author.Tests.{eq-eqb, eqb-false, eqb-true, ne_eqb}
use Rattle.octets.proofs.Choice.{by_test, pick_all}
use Rattle.octets.proofs.Fill.{length_zeros, zeros_at}
use Rattle.block.specs.Check.{block_size}
use Rattle.block.proofs.WordRun.{none_fit}
use Rattle.label_list.specs.Counting.{counting}
use Rattle.label_list.specs.Find.{any}
use Rattle.label_list.specs.Requests.{open_ids}
use Rattle.label_list.specs.Word.{lists_label, request_code}
use Rattle.label_list.proofs.Counting.{counting-length}
use Rattle.word_block.specs.Layout.{block_words, no_words, place_count, word_block}
use Rattle.word_block.proofs.Written.{words-word_block}
use Rattle.block0.specs.declared.Header.{Header}
use Rattle.block0.specs.declared.Version.{Version}
use Rattle.block0.specs.declared.Version.TheVariants.{Two}
use Rattle.block0.specs.Coded.{has_code}
use Rattle.block0.specs.Layout.{header_by, labels_by, places}
use Rattle.fec_index.specs.Entries.{words_beside, entries_of, entry_count}
use Rattle.fec_index.proofs.Counted.{listed_at}
use Rattle.fec_index.proofs.Paired.{entry_none}
use Rattle.request_ids.specs.Fields.{IdsGood}
use Rattle.request_ids.proofs.Counted.{word_block_good}
use Rattle.slot.specs.Layout.{slot_message}
use Rattle.image.specs.declared.ImageFault.{ImageFault}
use Rattle.image.specs.Extend.{earlier_size, extended_contents, extended_from, extend_of, extend_verdict, SoundBefore}
use Rattle.image.specs.Ring.{ring}
use Rattle.image.specs.Sizes.{request_block, index_block, block_count, image_size, block, block_of, slot_at}
use Rattle.image.specs.State.{decode_by, entry_block, slots_of, stored_ids, stored_index}
use Rattle.image.specs.Verdict.{IsSoundBy, verdict}
use Rattle.image.proofs.Cleared.{cleared_at, cleared-before, length-cleared}
use Rattle.image.proofs.Entries.{index_at}
use Rattle.image.proofs.Indexed.{empty_good, places-room}
use Rattle.image.proofs.Ranges.{words_count}
use Rattle.image.proofs.Requests.{no_ids, none_once}
use Rattle.image.proofs.Rings.{ring_same}
use Rattle.image.proofs.Sound.{good_ids, goods_beside, parts_sound}
use Rattle.image.proofs.Stored.{state_eq}

-- ---- the blocks from one on are empty, those before it as they were
module _ (image : List ℕ) (size : length image ≡ image_size) (b : ℕ) (few : b ≤ block_count) where
  room : (b + (block_count - b)) * block_size ≤ length image
  room = omega arith

  block_kept : (c : ℕ) → c < b → block (extended_from image b) c ≡ block image c
  block_kept = cleared-before (block_count - b) b image room

  block_added : (c : ℕ) → b ≤ c → c < block_count → block (extended_from image b) c ≡ word_block no_words
  block_added c past inside =
      let there : b + (c - b) ≡ c = omega arith in
      rw there at (cleared_at (block_count - b) b image room (c - b) (omega arith))

-- the first release stored no ID
pub first_ids : (v : Version) (image : List ℕ) → SoundBefore v 0 image → (decode_by v image).ids ≡ replicate (places v) 0
first_ids v image s = no_ids (labels_by v (block image 0)) (s.requests refl) (places v) (words_count v (block image 0)) (stored_ids image)

module _ (v : Version) (n : ℕ) (image : List ℕ) (s : SoundBefore v n image) where
  after : List ℕ
  after = extended_from image (request_block + n)

  low : request_block + n ≤ block_count
  low = omega (arith, s.few)

  kept : (c : ℕ) → c < request_block + n → block after c ≡ block image c
  unfolding after
  kept = block_kept image s.size (request_block + n) low

  added : (c : ℕ) → request_block + n ≤ c → c < block_count → block after c ≡ word_block no_words
  unfolding after
  added = block_added image s.size (request_block + n) low

  zeroth : block after 0 ≡ block image 0
  zeroth = kept 0 (omega arith)

  -- block 65: empty where it was not stored, and then no word is a Request's
  asked : IdsGood (labels_by v (block image 0)) (block after request_block)
  asked =
      by_test (eqb n 0)
      (λ t.
      let first : n ≡ 0 = eqb-true n 0 t in
      let none : any (has_code request_code) (labels_by v (block image 0)) ≡ false = s.requests first in
      let free : open_ids (labels_by v (block image 0)) no_words ≡ replicate (places v) 0 = no_ids (labels_by v (block image 0)) none (places v) (words_count v (block image 0)) no_words in
      rw (added request_block (omega (arith, first)) (omega arith))
      (word_block_good no_words (length_zeros place_count) (labels_by v (block image 0)) (λ i. rw (free, zeros_at (places v) i) (omega arith))
      (omega (arith, words_count v (block image 0), (places-room v).1)) (none_once (labels_by v (block image 0)) none no_words)))
      (λ f.
      let some : n ≢ 0 = eqb-false n 0 f in
      rw (kept request_block (omega arith)) (good_ids (s.further 0 (omega arith))))

  from_sound : IsSoundBy v (extended_from image (request_block + n))
  unfolding after
  from_sound = record {
    size = length-cleared (block_count - (request_block + n)) (request_block + n) image ∙ s.size;
    check = rw zeroth s.check;
    fields = rw zeroth s.fields;
    slots = rw zeroth (λ i l. rw (kept (block_of (slot_at (header_by v (block image 0)).first i)) (omega arith)) (s.slots i l));
    further = rw zeroth (goods_beside (labels_by v (block image 0)) after asked (λ k l.
        rw (added (index_block + k) (omega (arith, s.few)) (omega arith)) (empty_good (words_beside k (labels_by v (block image 0))))));
  }

  -- no entry counts
  no_entry : (i : ℕ) → i < place_count → get_or (stored_index after) i 0 ≡ 0
  no_entry i l =
      index_at after i l
      ∙ ap (λ (x : List ℕ). get_or (entries_of x) (i % entry_count) 0) (added (entry_block i) (omega (arith, s.few)) (omega arith))
      ∙ entry_none (word_block no_words) (words-word_block no_words (none_fit place_count)) (i % entry_count)

  no_entries : counting 0 lists_label (labels_by v (block image 0)) (stored_index after) ≡ replicate (places v) 0
  no_entries =
      let count : length (counting 0 lists_label (labels_by v (block image 0)) (stored_index after)) ≡ places v =
      counting-length 0 lists_label (labels_by v (block image 0)) (stored_index after) ∙ words_count v (block image 0) in
      ext_get_or 0 (counting 0 lists_label (labels_by v (block image 0)) (stored_index after)) (replicate (places v) 0) (count ∙ sym (length_zeros (places v))) (λ i l.
      listed_at (labels_by v (block image 0)) (stored_index after) i
      ∙ rw (no_entry i (omega (arith, count, (places-room v).1))) (pick_all (λ (e : ℕ). e ≡ 0) (lists_label (get_or (labels_by v (block image 0)) i 0)) refl refl)
      ∙ sym (zeros_at (places v) i))

  -- the IDs that count: those of block 65 where it was stored, else none
  ids_kept : open_ids (labels_by v (block image 0)) (stored_ids after) ≡ open_ids (labels_by v (block image 0)) (stored_ids image)
  unfolding stored_ids
  ids_kept =
      by_test (eqb n 0)
      (λ t.
      let none : any (has_code request_code) (labels_by v (block image 0)) ≡ false = s.requests (eqb-true n 0 t) in
      no_ids (labels_by v (block image 0)) none (places v) (words_count v (block image 0)) (stored_ids after)
      ∙ sym (no_ids (labels_by v (block image 0)) none (places v) (words_count v (block image 0)) (stored_ids image)))
      (λ f.
      let some : n ≢ 0 = eqb-false n 0 f in
      ap (λ (b : List ℕ). open_ids (labels_by v (block image 0)) (block_words b)) (kept request_block (omega arith)))

  from_decodes : decode_by v (extended_from image (request_block + n)) ≡ extended_contents v (decode_by v image)
  unfolding after slots_of
  from_decodes =
      let h : Header = header_by v (block image 0) in
      state_eq (ap (header_by v) zeroth) (ap (labels_by v) zeroth)
      (ap (λ (b : List ℕ). open_ids (labels_by v b) (stored_ids after)) zeroth ∙ ids_kept)
      (ap (λ (b : List ℕ). counting 0 lists_label (labels_by v b) (stored_index after)) zeroth ∙ no_entries)
      (ap (λ (b : List ℕ). ring (slots_of after) (header_by v b).first (header_by v b).held) zeroth
      ∙ ring_same (slots_of after) (slots_of image) h.first h.held (λ i l. ap slot_message (kept (block_of (slot_at h.first i)) (omega arith))))

-- ---- what `extend` leaves
extend_is : (image : List ℕ) → length image ≡ image_size → (n : ℕ) → n < 2 → extend_of image (earlier_size n) ≡ extended_from image (request_block + n)
unfolding extend_of
extend_is image size zero l = rw (eq-eqb (length image) image_size size)
extend_is image size (suc zero) l = rw (eq-eqb (length image) image_size size)
extend_is image size (suc (suc n)) l = absurd (omega arith)

module _ (v : Version) (n : ℕ) (image : List ℕ) (s : SoundBefore v n image) where
  -- it passes the checks of its version
  pub extended_sound : IsSoundBy v (extend_of image (earlier_size n))
  extended_sound = rw (extend_is image s.size n s.few) (from_sound v n image s)

  -- the same numbers, words, IDs and queue; its labels count as of other FECs
  pub extended_decodes : decode_by v (extend_of image (earlier_size n)) ≡ extended_contents v (decode_by v image)
  extended_decodes = ap (decode_by v) (extend_is image s.size n s.few) ∙ from_decodes v n image s

-- of an image of version 2 restore's checks are passed
pub extended_passes : (n : ℕ) (image : List ℕ) → SoundBefore Two n image → verdict (extend_of image (earlier_size n)) ≡ Ok tt
extended_passes n image s = parts_sound (extend_of image (earlier_size n)) (extended_sound Two n image s)

-- ---- its answers
module _ (s : List ℕ) (stored : ℕ) where
  pub extend_size : (length s ≡ image_size → ⊥) → ((Err ImageFault.WrongSize) ≡ extend_verdict s stored) × (s ≡ extend_of s stored)
  unfolding extend_verdict extend_of
  extend_size h = simp (ne_eqb (length s) image_size h) (refl, refl)

  module _ (size : length s ≡ image_size) where
    pub extend_first : stored ≡ earlier_size 0 → {t : List ℕ} → t ≡ extended_from s request_block → ((Ok tt) ≡ extend_verdict s stored) × (t ≡ extend_of s stored)
    unfolding extend_verdict extend_of
    extend_first h e = simp (eq-eqb (length s) image_size size, eq-eqb stored (earlier_size 0) h) (refl, e)

    module _ (other : stored ≡ earlier_size 0 → ⊥) where
      pub extend_second : stored ≡ earlier_size 1 → {t : List ℕ} → t ≡ extended_from s index_block → ((Ok tt) ≡ extend_verdict s stored) × (t ≡ extend_of s stored)
      unfolding extend_verdict extend_of
      extend_second h e = simp (eq-eqb (length s) image_size size, ne_eqb stored (earlier_size 0) other, eq-eqb stored (earlier_size 1) h) (refl, e)

      pub extend_stored : (stored ≡ earlier_size 1 → ⊥) → ((Err ImageFault.WrongSize) ≡ extend_verdict s stored) × (s ≡ extend_of s stored)
      unfolding extend_verdict extend_of
      extend_stored h = simp (eq-eqb (length s) image_size size, ne_eqb stored (earlier_size 0) other, ne_eqb stored (earlier_size 1) h) (refl, refl)
