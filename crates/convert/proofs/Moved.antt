-- A sound image that can be moved: what comes out passes the checks of its version and stands for the same state; moved again it is the same bytes. Assumes nothing.
use Prim.Native.Nat.{ℕ, ◌<◌, ◌≤◌}
use mathlib.Core.Bool.{Bool, true, false, false≢true}
use mathlib.Core.List.{List, ◌++◌}
use mathlib.Core.Logic.{◌≢◌, ⊎_elim}
use mathlib.Core.Path.{◌≡◌, refl, sym, ap, ap₂, ◌∙◌}
use native.Mathlib.Omega.{arith}
use lib.ListN.{length, get_or, drop, get_or-eq_default}
use lib.Seq.{ext_get_or}
use Rattle.octets.specs.Bytes.{Bytes}
use Rattle.octets.specs.Laid.{laid}
use Rattle.octets.proofs.Choice.{below_or_not, by_test}
use Rattle.octets.proofs.Laid.{laid_front, laid-over}
use Rattle.block.specs.Check.{block_size}
use Rattle.block.specs.Run.{Words}
use Rattle.label_list.specs.Counting.{counting}
use Rattle.label_list.specs.Requests.{once_of}
use Rattle.label_list.specs.Valid.{valid_of}
use Rattle.label_list.specs.Word.{word_count, is_request, lists_label}
use Rattle.label_list.proofs.Counting.{counting-at, counting-length, counting_none}
use Rattle.label_list.proofs.OpenIds.{once_freed}
use Rattle.block0.specs.declared.Header.{Header}
use Rattle.block0.specs.declared.Version.{Version}
use Rattle.block0.specs.Fields.{FitsBy, ValidBy}
use Rattle.block0.specs.Layout.{places, header_by, labels_by, block_by, released_header}
use Rattle.block0.specs.Updates.{header_timeout}
use Rattle.block0.proofs.Rules.{fields_valid}
use Rattle.block0.proofs.Same.{block0_same}
use Rattle.block0.proofs.Written.{length-block0}
use Rattle.fec_index.proofs.Counted.{free_lists}
use Rattle.label_meaning.specs.Valid.{IsValid}
use Rattle.label_meaning.proofs.Meaning.{means_valid, valid_means}
use Rattle.image.specs.Sizes.{block, image_size, with_block}
use Rattle.image.specs.State.{Contents, decode_by, store_by, stored_ids, stored_index}
use Rattle.image.specs.Verdict.{IsSoundBy}
use Rattle.image.proofs.Blocks.{length-block, put_same}
use Rattle.image.proofs.Indexed.{Right, right_fewer}
use Rattle.image.proofs.Ranges.{bytes-block, fits_bytes, labels-bytes, words_count}
use Rattle.image.proofs.Sound.{once_by, right_by, sound-ids, sound-store_by}
use Rattle.image.proofs.Stored.{decode-store_by, other-store_by, state_eq}
use Rattle.convert.specs.Move.{header_moved, image_moved, list_moved, movable, other, state_moved}
use Rattle.convert.proofs.Kept.{again-movable, last_free, moved_again, moved_at, moved_length, moved_none, other_twice, timeout_again, timeout_fits, timeout_none}

-- ---- lists with the same at each place
valid_same : (ls ws : List ℕ) → ((i : ℕ) → get_or ls i 0 ≡ get_or ws i 0) → valid_of ws ≡ true → valid_of ls ≡ true
valid_same ls ws same v =
    let m : IsValid ws = valid_means ws v in
    means_valid ls (record {
      each = λ i. rw (same i) (m.each i);
      once = λ side label i j. rw (same i, same j) (m.once side label i j);
    })

free-request : is_request 0 ≡ false
unfolding is_request
free-request = refl

-- what counts beside them: the IDs, and the entries
module _ (counts : ℕ → Bool) (free : counts 0 ≡ false) where
  counts_inside : (ws : List ℕ) (i : ℕ) → counts (get_or ws i 0) ≡ true → i < length ws
  counts_inside ws i t =
      ⊎_elim
      (λ (l : i < length ws). l)
      (λ (past : length ws ≤ i). absurd (false≢true (sym free ∙ ap counts (sym (get_or-eq_default ws 0 {n = i} past)) ∙ t)))
      (below_or_not i (length ws))

  counted_same : (ls ws xs : List ℕ) → ((i : ℕ) → get_or ls i 0 ≡ get_or ws i 0) → (i : ℕ) → get_or (counting 0 counts ls xs) i 0 ≡ get_or (counting 0 counts ws xs) i 0
  counted_same ls ws xs same i =
      by_test (counts (get_or ws i 0))
      (λ t.
      let u : counts (get_or ls i 0) ≡ true = rw (same i) t in
      counting-at 0 counts ls xs i u (counts_inside ls i u) ∙ sym (counting-at 0 counts ws xs i t (counts_inside ws i t)))
      (λ f. counting_none 0 counts ls xs i (rw (same i) f) ∙ sym (counting_none 0 counts ws xs i f))

-- the first block written twice is what was written last
put_twice : (image p q : List ℕ) → length p ≡ block_size → length q ≡ block_size → length image ≡ image_size → with_block (with_block image 0 p) 0 q ≡ with_block image 0 q
put_twice image p q lp lq size =
    ap (λ (l : List ℕ). laid l 0 q) (laid_front image p (omega arith))
    ∙ laid-over p (drop (length p) image) q (omega arith)
    ∙ ap (λ (k : ℕ). q ++ drop k image) (lp ∙ sym lq)
    ∙ sym (laid_front image q (omega arith))

module _ (v : Version) (image : List ℕ) (s : IsSoundBy v image) (byte : Bytes image) (m : movable v (decode_by v image).header (decode_by v image).labels ≡ true) where
  zeroth : List ℕ
  zeroth = block image 0

  byte0 : Bytes zeroth
  unfolding zeroth
  byte0 = bytes-block image 0 byte

  count : length (labels_by v zeroth) ≡ places v
  unfolding zeroth
  count = words_count v (block image 0)

  free : get_or (labels_by v zeroth) word_count 0 ≡ 0
  unfolding zeroth
  free = last_free v (header_by v (block image 0)) (labels_by v (block image 0)) m (words_count v (block image 0))

  -- each place has the word that it had
  pub words_same : (i : ℕ) → get_or (list_moved v (decode_by v image).labels) i 0 ≡ get_or (decode_by v image).labels i 0
  unfolding zeroth
  words_same = moved_at v (labels_by v (block image 0)) count free

  fits : FitsBy (other v) (header_moved v (header_by v zeroth))
  unfolding zeroth
  fits =
      let f : FitsBy v (header_by v (block image 0)) = fits_bytes v (block image 0) byte0 in
      record {
        released = f.released;
        issued = f.issued;
        secured = f.secured;
        first = f.first;
        held = f.held;
        timeout = timeout_fits v (header_by v (block image 0)) (labels_by v (block image 0)) m f.timeout;
        kept = f.kept;
        marks = f.marks;
        keepalive = f.keepalive;
        maxpdu = f.maxpdu;
      }

  words : Words (places (other v)) (list_moved v (labels_by v zeroth))
  unfolding zeroth
  words = record {
    count = moved_length v (labels_by v (block image 0)) count;
    each = λ i. rw (words_same i) ((labels-bytes v (block image 0) byte0).each i);
  }

  valid : ValidBy (other v) (header_moved v (header_by v zeroth)) (list_moved v (labels_by v zeroth))
  unfolding zeroth
  valid =
      let r : ValidBy v (header_by v (block image 0)) (labels_by v (block image 0)) = fields_valid v (block image 0) s.fields in
      record {
        first = r.first;
        held = r.held;
        kept = r.kept;
        marks = r.marks;
        window = r.window;
        labels = valid_same (list_moved v (labels_by v (block image 0))) (labels_by v (block image 0)) words_same r.labels;
        idle = λ k.
            (ap (header_moved v) (r.idle k).0 ∙ ap (header_timeout released_header) (timeout_none v), ap (list_moved v) (r.idle k).1 ∙ moved_none v);
      }

  -- it passes restore's checks of its version
  pub moved_sound : IsSoundBy (other v) (image_moved v image)
  unfolding image_moved zeroth
  moved_sound =
      let ws : List ℕ = labels_by v (block image 0) in
      let once : once_of (list_moved v ws) (stored_ids image) ≡ true =
      once_freed (list_moved v ws) ws (stored_ids image) (λ i t. ap is_request (sym (words_same i)) ∙ t) (once_by image s) in
      let right : Right (list_moved v ws) image =
      right_fewer (list_moved v ws) ws image (λ i t. ap lists_label (sym (words_same i)) ∙ t) (right_by image s) in
      sound-store_by (other v) image (header_moved v (header_by v (block image 0))) (list_moved v ws) s.size fits words valid s.slots (sound-ids image (list_moved v ws) s once right)

  -- the IDs and entries that count are at their places
  beside_same : (counts : ℕ → Bool) → counts 0 ≡ false → (xs : List ℕ) → counting 0 counts (list_moved v (labels_by v zeroth)) xs ≡ list_moved v (counting 0 counts (labels_by v zeroth) xs)
  unfolding zeroth
  beside_same counts none xs =
      let ws : List ℕ = labels_by v (block image 0) in
      let ys : List ℕ = counting 0 counts ws xs in
      let long : length ys ≡ places v = counting-length 0 counts ws xs ∙ count in
      let last : get_or ys word_count 0 ≡ 0 = counting_none 0 counts ws xs word_count (rw free none) in
      ext_get_or 0 (counting 0 counts (list_moved v ws) xs) (list_moved v ys)
      (counting-length 0 counts (list_moved v ws) xs ∙ words.count ∙ sym (moved_length v ys long))
      (λ i l. counted_same counts none (list_moved v ws) ws xs words_same i ∙ sym (moved_at v ys long last i))

  -- it stands for the same state, in its own unit
  pub moved_decodes : decode_by (other v) (image_moved v image) ≡ state_moved v (decode_by v image)
  unfolding image_moved zeroth
  moved_decodes =
      decode-store_by (other v) image s.size (header_moved v (header_by v (block image 0))) (list_moved v (labels_by v (block image 0))) fits words
      ∙ state_eq refl refl (beside_same is_request free-request (stored_ids image)) (beside_same lists_label free_lists (stored_index image)) refl

  -- every other block keeps its bytes
  pub moved_other : (c : ℕ) → c ≢ 0 → block (image_moved v image) c ≡ block image c
  unfolding image_moved
  moved_other = other-store_by (other v) image s.size (header_moved v (header_by v (block image 0))) (list_moved v (labels_by v (block image 0)))

  -- it can be moved again
  pub moved_movable : movable (other v) (decode_by (other v) (image_moved v image)).header (decode_by (other v) (image_moved v image)).labels ≡ true
  unfolding zeroth
  moved_movable =
      ap (λ (t : Contents). movable (other v) t.header t.labels) moved_decodes
      ∙ again-movable v (header_by v (block image 0)) (labels_by v (block image 0)) m count (fits_bytes v (block image 0) byte0).timeout

  -- "back and forth gives the same bytes": moved again it is the image that it was
  pub moved_back : image_moved (other v) (image_moved v image) ≡ image
  unfolding image_moved zeroth
  moved_back =
      let t : List ℕ = image_moved v image in
      let b : List ℕ = block image 0 in
      let header : header_moved (other v) (header_moved v (header_by v b)) ≡ header_by v b = ap (header_timeout (header_by v b)) (timeout_again v (header_by v b) (labels_by v b) m) in
      let labels : list_moved (other v) (list_moved v (labels_by v b)) ≡ labels_by v b = moved_again v (labels_by v b) count free in
      let long : length b ≡ block_size = length-block image 0 (omega (arith, s.size)) in
      ap (λ (x : Contents). store_by (other (other v)) t (header_moved (other v) x.header) (list_moved (other v) x.labels)) moved_decodes
      ∙ ap₂ (λ (x : Header) (l : List ℕ). store_by (other (other v)) t x l) header labels
      ∙ ap (λ (w : Version). store_by w t (header_by v b) (labels_by v b)) (other_twice v)
      ∙ ap (with_block t 0) (block0_same v b long byte0 s.check s.fields)
      ∙ put_twice image (block_by (other v) (header_moved v (header_by v b)) (list_moved v (labels_by v b))) b
      (length-block0 (other v) (header_moved v (header_by v b)) (list_moved v (labels_by v b))) long s.size
      ∙ put_same image 0 (omega (arith, s.size))
