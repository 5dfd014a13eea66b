-- Two images that differ in entries that do not count stand for the same, and are judged alike. Assumes nothing.
use Rattle.std.specs.Prelude.{Result, Err}
use Prim.Native.Nat.{ℕ, ◌+◌, ◌-◌, ◌*◌, ◌<◌}
use mathlib.Core.Bool.{Bool, not}
use mathlib.Core.List.{List}
use mathlib.Core.Path.{◌≡◌, sym, ap, ap₂, ◌∙◌}
use native.Mathlib.Omega.{arith}
use lib.Dec.{eqb}
use lib.ListN.{get_or, drop, length-take}
use lib.Seq.{ext_get_or}
use borrow.Author.Tests.{eqb-true, eqb-false, ne_eqb}
use Rattle.octets.specs.Pick.{pick, both}
use Rattle.octets.proofs.Choice.{by_test}
use Rattle.label_list.specs.Counting.{counting}
use Rattle.label_list.specs.Requests.{open_ids}
use Rattle.label_list.specs.Word.{lists_label}
use Rattle.label_list.proofs.Counting.{counting-length}
use Rattle.word_block.specs.Layout.{block_words}
use Rattle.block0.specs.declared.Header.{Header}
use Rattle.block0.specs.declared.Version.{Version}
use Rattle.block0.specs.Layout.{header_by, labels_by}
use Rattle.fec_index.specs.Entries.{all_entries, entries_of, entries_ok, entry_count, words_beside}
use Rattle.fec_index.proofs.Counted.{listed_at}
use Rattle.slot.specs.Layout.{slot_message}
use Rattle.image.specs.declared.ImageFault.{ImageFault}
use Rattle.image.specs.declared.Judgement.{Judgement}
use Rattle.image.specs.CountedAlike.{CountedAlike}
use Rattle.image.specs.Ring.{ring}
use Rattle.image.specs.Sizes.{request_block, index_block, image_size, block, block_of, slot_at}
use Rattle.image.specs.State.{decode_by, slots_of, stored_ids, stored_index}
use Rattle.image.specs.Verdict.{bytes_judged, fields_right, first_fault, further_ok, looked, verdict_by}
use Rattle.image.proofs.Faults.{fault_same}
use Rattle.image.proofs.Indexed.{same_at}
use Rattle.image.proofs.Rings.{ring_same}
use Rattle.image.proofs.Scans.{further_fields, looked-judged}
use Rattle.image.proofs.Stored.{state_eq}

index_fields : (v : Version) (s : List ℕ) (k : ℕ) → fields_right v s (index_block + k) ≡ entries_ok (words_beside k (labels_by v (block s 0))) (block s (index_block + k))
index_fields v s k =
    let which : index_block + k - index_block ≡ k = omega arith in
    let index : further_ok (labels_by v (block s 0)) (index_block + k) (block s (index_block + k)) ≡ entries_ok (words_beside k (labels_by v (block s 0))) (block s (index_block + k)) =
    rw (ne_eqb (index_block + k) request_block (omega arith), which) in
    further_fields v s (index_block + k) (omega arith) ∙ index

module _ (v : Version) (image t : List ℕ) (a : CountedAlike v image t) where
  zeroth : block t 0 ≡ block image 0
  zeroth = a.blocks 0 (omega arith) (omega arith)

  -- the entries that count are the same
  listed_alike : counting 0 lists_label (labels_by v (block image 0)) (stored_index t) ≡ counting 0 lists_label (labels_by v (block image 0)) (stored_index image)
  listed_alike =
      let ws : List ℕ = labels_by v (block image 0) in
      ext_get_or 0 (counting 0 lists_label ws (stored_index t)) (counting 0 lists_label ws (stored_index image))
      (counting-length 0 lists_label ws (stored_index t) ∙ sym (counting-length 0 lists_label ws (stored_index image))) (λ i l.
      listed_at ws (stored_index t) i
      ∙ by_test (lists_label (get_or ws i 0)) (λ y. rw y (a.entries i y)) (λ n. rw n)
      ∙ sym (listed_at ws (stored_index image) i))

  -- so they stand for the same
  pub alike_decodes : decode_by v t ≡ decode_by v image
  unfolding stored_ids slots_of
  alike_decodes =
      let h : Header = header_by v (block image 0) in
      state_eq (ap (header_by v) zeroth) (ap (labels_by v) zeroth)
      (ap₂ (λ (z b : List ℕ). open_ids (labels_by v z) (block_words b)) zeroth (a.blocks request_block (omega arith) (omega arith)))
      (ap (λ (z : List ℕ). counting 0 lists_label (labels_by v z) (stored_index t)) zeroth ∙ listed_alike)
      (ap (λ (z : List ℕ). ring (slots_of t) (header_by v z).first (header_by v z).held) zeroth
      ∙ ring_same (slots_of t) (slots_of image) h.first h.held (λ i l. ap slot_message (a.blocks (block_of (slot_at h.first i)) (omega arith) (omega arith))))

  -- the fields of a block of the index are right alike
  index_alike : (k : ℕ) → k < 2 → entries_ok (words_beside k (labels_by v (block image 0))) (block t (index_block + k))
      ≡ entries_ok (words_beside k (labels_by v (block image 0))) (block image (index_block + k))
  unfolding entries_ok
  index_alike k two =
      let ws : List ℕ = labels_by v (block image 0) in
      let xs : List ℕ = entries_of (block t (index_block + k)) in
      let ys : List ℕ = entries_of (block image (index_block + k)) in
      let same : counting 0 lists_label (words_beside k ws) xs ≡ counting 0 lists_label (words_beside k ws) ys =
      ext_get_or 0 (counting 0 lists_label (words_beside k ws) xs) (counting 0 lists_label (words_beside k ws) ys)
      (counting-length 0 lists_label (words_beside k ws) xs ∙ sym (counting-length 0 lists_label (words_beside k ws) ys)) (λ i l.
      let low : i < entry_count =
      omega (arith, counting-length 0 lists_label (words_beside k ws) xs, length-take (k * entry_count + entry_count - k * entry_count) (drop (k * entry_count) ws)) in
      same_at ws t k i two low
      ∙ ap (λ (zs : List ℕ). get_or zs (k * entry_count + i) 0) listed_alike
      ∙ sym (same_at ws image k i two low)) in
      ap₂ both (a.rests k two) (ap all_entries same)

  -- and each block is judged alike
  judged-index : (k : ℕ) → k < 2 → bytes_judged v t (index_block + k) ≡ bytes_judged v image (index_block + k)
  unfolding bytes_judged
  judged-index k two =
      let fields : fields_right v t (index_block + k) ≡ fields_right v image (index_block + k) =
      index_fields v t k
      ∙ ap (λ (z : List ℕ). entries_ok (words_beside k (labels_by v z)) (block t (index_block + k))) zeroth
      ∙ index_alike k two
      ∙ sym (index_fields v image k) in
      ap₂ (λ (c f : Bool). pick (not c) Judgement.BadCheck (pick (not f) Judgement.BadFields Judgement.Good)) (a.checks k two) fields

  judged_alike : (b : ℕ) → bytes_judged v t b ≡ bytes_judged v image b
  unfolding bytes_judged
  judged_alike b =
      by_test (eqb b index_block)
      (λ y. rw (eqb-true b index_block y) (judged-index 0 (omega arith)))
      (λ n. by_test (eqb b (index_block + 1))
      (λ y. rw (eqb-true b (index_block + 1) y) (judged-index 1 (omega arith)))
      (λ m. rw (zeroth, a.blocks b (eqb-false b index_block n) (eqb-false b (index_block + 1) m))))

  pub alike_judged : verdict_by v t ≡ verdict_by v image
  unfolding verdict_by
  alike_judged =
      ap₂ (λ (n : ℕ) (r : Result Unit ImageFault). pick (not (eqb n image_size)) (Err ImageFault.WrongSize) r) a.size
      (looked-judged v t
      ∙ ap (λ (z : List ℕ). first_fault (bytes_judged v t) (looked (header_by v z))) zeroth
      ∙ fault_same (bytes_judged v t) (bytes_judged v image) (looked (header_by v (block image 0))) (λ b l. judged_alike b)
      ∙ sym (looked-judged v image))
