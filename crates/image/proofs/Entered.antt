-- An entry stored at a place where it does not count yet: the image is as sound as before. Assumes nothing.
use Prim.Native.Nat.{ℕ, ◌+◌, ◌<◌}
use mathlib.Core.Bool.{true, false}
use mathlib.Core.List.{List}
use mathlib.Core.Path.{◌≡◌, ap, ◌∙◌}
use native.Mathlib.Omega.{arith}
use lib.Dec.{eqb}
use lib.ListN.{get_or}
use borrow.Author.Tests.{eqb-true, eqb-false}
use Rattle.octets.proofs.Choice.{both_true, by_test}
use Rattle.block.specs.Check.{sound}
use Rattle.label_list.specs.Counting.{counting}
use Rattle.label_list.specs.Word.{lists_label}
use Rattle.word_block.specs.Layout.{place_count, rest_zero}
use Rattle.word_block.proofs.Written.{word_block-rest, word_block-sound}
use Rattle.block0.specs.Layout.{header_of}
use Rattle.fec_index.specs.Entries.{entries_ok, entry_ok}
use Rattle.fec_index.proofs.Counted.{right_width}
use Rattle.image.specs.Sizes.{block, block_of, index_block, request_block, slot_at}
use Rattle.image.specs.State.{decode, entry_block, store_entry, stored_index}
use Rattle.image.specs.Verdict.{IsSound}
use Rattle.image.proofs.Entries.{Wide, entry_other, entry-put, length-store_entry, listed_dead, listed-store_entry}
use Rattle.image.proofs.Indexed.{Right, right_block}
use Rattle.image.proofs.Ranges.{labels-count}
use Rattle.image.proofs.Sound.{goods_beside, sound_entries, sound_requests, sound_right}

-- the entries that count in a sound image have their width
pub sound_wide : (image : List ℕ) → IsSound image → Wide (decode image).index
unfolding decode
sound_wide image s i = right_width (get_or (decode image).index i 0) (sound_right image s i)

module _ (image : List ℕ) (s : IsSound image) (place entry : ℕ) (room : place < place_count) (dead : lists_label (get_or (decode image).labels place 0) ≡ false) where
  right_after : Right (decode image).labels (store_entry image place entry)
  unfolding decode
  right_after i =
      let same : counting 0 lists_label (decode image).labels (stored_index (store_entry image place entry)) ≡ (decode image).index =
      listed-store_entry image s.size place room entry (decode image).labels (omega (arith, labels-count image)) (rw (listed_dead image s.size place room entry dead) (sound_wide image s))
      ∙ listed_dead image s.size place room entry dead in
      ap (λ (xs : List ℕ). entry_ok (get_or xs i 0)) same ∙ sound_right image s i

  -- each of its blocks has its check, and zeros after the places
  whole : (k : ℕ) → k < 2 → (sound (block (store_entry image place entry) (index_block + k)) ≡ true) × (rest_zero (block (store_entry image place entry) (index_block + k)) ≡ true)
  unfolding entries_ok
  whole k l =
      by_test (eqb (index_block + k) (entry_block place))
      (λ t. rw (eqb-true (index_block + k) (entry_block place) t, entry-put image s.size place room entry) (word_block-sound _, word_block-rest _))
      (λ n. rw (entry_other image s.size place room entry (index_block + k) (eqb-false (index_block + k) (entry_block place) n))
      ((sound_entries s k l).check, (both_true (rest_zero (block image (index_block + k))) _ (sound_entries s k l).fields).0))

  pub sound-entry : IsSound (store_entry image place entry)
  unfolding decode
  sound-entry =
      let e : block (store_entry image place entry) 0 ≡ block image 0 = entry_other image s.size place room entry 0 (omega arith) in
      record {
        size = length-store_entry image s.size place room entry;
        check = rw e s.check;
        fields = rw e s.fields;
        slots = rw e (λ i l. rw (entry_other image s.size place room entry (block_of (slot_at (header_of (block image 0)).first i)) (omega arith)) (s.slots i l));
        further = rw e (goods_beside (decode image).labels (store_entry image place entry)
            (rw (entry_other image s.size place room entry request_block (omega arith)) (sound_requests s))
            (λ k l. record { check = (whole k l).0; fields = right_block (decode image).labels (store_entry image place entry) k l (whole k l).1 right_after }));
      }
