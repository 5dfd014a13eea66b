-- What is stored is what is read again. Assumes nothing.
use Prim.Native.Nat.{ℕ, ◌+◌, ◌-◌, ◌*◌, ◌≤◌, ◌<◌}
use mathlib.Core.Bool.{false}
use mathlib.Core.List.{List, [], ◌∷◌, ◌++◌}
use mathlib.Core.Logic.{◌≢◌}
use mathlib.Core.Path.{◌≡◌, refl, sym, ap, ap₂, ◌∙◌}
use native.Mathlib.Omega.{arith}
use lib.ListN.{length, drop, set, get_or, length-set}
use Rattle.block.specs.Check.{block_size}
use Rattle.block.specs.Run.{Words}
use Rattle.ft_number.specs.declared.MessageId.{MessageId}
use Rattle.label_list.specs.Counting.{counting}
use Rattle.label_list.specs.Requests.{open_ids, once_of}
use Rattle.label_list.specs.Word.{word_count, is_request, lists_label}
use Rattle.label_list.proofs.Counting.{counting_dead}
use Rattle.word_block.specs.Layout.{place_count, block_words, word_block}
use Rattle.word_block.proofs.Written.{length-word_block}
use Rattle.block0.specs.declared.Header.{Header}
use Rattle.block0.specs.declared.Version.{Version}
use Rattle.block0.specs.declared.Version.TheVariants.{Two}
use Rattle.block0.specs.Fields.{FitsBy, Fits}
use Rattle.block0.specs.Layout.{slot_count, places, header_by, labels_by, block_by, header_of, labels_of}
use Rattle.block0.proofs.Written.{length-block0, header_block0, labels-block0}
use Rattle.fec_index.specs.Entries.{entries_of}
use Rattle.message.specs.Storable.{Storable}
use Rattle.request_ids.proofs.Counted.{open_word_block, once_word_block}
use Rattle.slot.specs.Held.{slot_for}
use Rattle.slot.specs.Layout.{slot_message}
use Rattle.slot.proofs.Holding.{length-slot_for, slot_for_message}
use Rattle.image.specs.Ring.{ring}
use Rattle.image.specs.Sizes.{block, block_of, slot_at, image_size, request_block, index_block}
use Rattle.image.specs.State.{NotLive, Contents, slots_of, decode_by, decode, store_slot, store_by, store0, stored_ids, stored_index, store_id}
use Rattle.image.proofs.Blocks.{length-put, block-put, block-other}
use Rattle.image.proofs.Ranges.{stored-count}
use Rattle.image.proofs.Rings.{ring_same, ring_snoc, ring-drop}

pub state_eq : {h h' : Header} {l l' x x' y y' : List ℕ} {q q' : List (List ℕ)} → h ≡ h' → l ≡ l' → x ≡ x' → y ≡ y' → q ≡ q'
    → ◌≡◌ {A = Contents} (record { header = h; labels = l; ids = x; index = y; queue = q }) (record { header = h'; labels = l'; ids = x'; index = y'; queue = q' })
state_eq p q r u t = λ i. record { header = p i; labels = q i; ids = r i; index = u i; queue = t i }

-- an image whose block 0 and live slots are another's, and under whose words the same IDs and entries count, stands for the same
pub decode_same : (t image : List ℕ) → block t 0 ≡ block image 0 → open_ids (decode image).labels (stored_ids t) ≡ (decode image).ids
    → counting 0 lists_label (decode image).labels (stored_index t) ≡ (decode image).index
    → ((i : ℕ) → i < (decode image).header.held → slots_of t (slot_at (decode image).header.first i) ≡ slots_of image (slot_at (decode image).header.first i))
    → decode t ≡ decode image
unfolding decode
decode_same t image zeroth ids index slots =
    let h : Header = header_of (block image 0) in
    state_eq (ap header_of zeroth) (ap labels_of zeroth)
    (ap (λ (b : List ℕ). open_ids (labels_of b) (stored_ids t)) zeroth ∙ ids)
    (ap (λ (b : List ℕ). counting 0 lists_label (labels_of b) (stored_index t)) zeroth ∙ index)
    (ap (λ (b : List ℕ). ring (slots_of t) (header_of b).first (header_of b).held) zeroth ∙ ring_same (slots_of t) (slots_of image) h.first h.held slots)

-- ---- the slot alone
module _ (image : List ℕ) (size : length image ≡ image_size) (k : ℕ) (room : k < slot_count) (m : List ℕ) (s : Storable m) where
  inside : block_of k * block_size + block_size ≤ length image
  inside = omega arith

  written : length (slot_for m) ≡ block_size
  written = length-slot_for m s

  pub length-store_slot : length (store_slot image k m) ≡ image_size
  unfolding store_slot
  length-store_slot = length-put image (block_of k) (slot_for m) ∙ size

  pub slot-put : block (store_slot image k m) (block_of k) ≡ slot_for m
  unfolding store_slot
  slot-put = block-put image (block_of k) (slot_for m) inside written

  -- every other block keeps its bytes
  pub slot-other : (c : ℕ) → c ≢ block_of k → block (store_slot image k m) c ≡ block image c
  unfolding store_slot
  slot-other c apart = block-other image (block_of k) (slot_for m) inside written c apart

  pub slots-put : slots_of (store_slot image k m) k ≡ m
  unfolding slots_of
  slots-put = ap slot_message slot-put ∙ slot_for_message m s

  pub slots-other : (j : ℕ) → j ≢ k → slots_of (store_slot image k m) j ≡ slots_of image j
  unfolding slots_of
  slots-other j apart = ap slot_message (slot-other (block_of j) (omega arith))

  pub ids-store_slot : stored_ids (store_slot image k m) ≡ stored_ids image
  unfolding stored_ids
  ids-store_slot = ap block_words (slot-other request_block (omega arith))

  pub index-store_slot : stored_index (store_slot image k m) ≡ stored_index image
  unfolding stored_index
  index-store_slot = ap₂ (λ (x y : List ℕ). entries_of x ++ entries_of y) (slot-other index_block (omega arith)) (slot-other (index_block + 1) (omega arith))

  -- "With only the slot stored, restore gives the state before the call": the slot is not live
  pub decode-slot : NotLive image k → decode (store_slot image k m) ≡ decode image
  unfolding decode
  decode-slot idle =
      decode_same (store_slot image k m) image (slot-other 0 (omega arith)) (ap (open_ids (decode image).labels) ids-store_slot) (ap (counting 0 lists_label (decode image).labels) index-store_slot)
      (λ i l. slots-other (slot_at (decode image).header.first i) (idle i l))

-- ---- block 65 alone
module _ (image : List ℕ) (size : length image ≡ image_size) (place : ℕ) (id : MessageId) where
  asked : List ℕ
  asked = set (stored_ids image) place id.0

  pub asked-count : length (set (stored_ids image) place id.0) ≡ place_count
  asked-count = length-set (stored_ids image) place id.0 ∙ stored-count image

  inside65 : request_block * block_size + block_size ≤ length image
  inside65 = omega arith

  written65 : length (word_block asked) ≡ block_size
  written65 = length-word_block asked

  pub length-store_id : length (store_id image place id) ≡ image_size
  unfolding store_id asked
  length-store_id = length-put image request_block (word_block asked) ∙ size

  pub id-put : block (store_id image place id) request_block ≡ word_block (set (stored_ids image) place id.0)
  unfolding store_id asked
  id-put = block-put image request_block (word_block asked) inside65 written65

  -- every other block keeps its bytes
  pub id_other : (c : ℕ) → c ≢ request_block → block (store_id image place id) c ≡ block image c
  unfolding store_id asked
  id_other c apart = block-other image request_block (word_block asked) inside65 written65 c apart

  pub slots-store_id : (j : ℕ) → j < slot_count → slots_of (store_id image place id) j ≡ slots_of image j
  unfolding slots_of
  slots-store_id j l = ap slot_message (id_other (block_of j) (omega arith))

  pub index-store_id : stored_index (store_id image place id) ≡ stored_index image
  unfolding stored_index
  index-store_id = ap₂ (λ (x y : List ℕ). entries_of x ++ entries_of y) (id_other index_block (omega arith)) (id_other (index_block + 1) (omega arith))

  -- the IDs that count under some words: those that the block bears and the new one
  module _ (ls : List ℕ) (fits : Words word_count (open_ids ls (set (stored_ids image) place id.0))) where
    pub open_store_id : open_ids ls (stored_ids (store_id image place id)) ≡ open_ids ls (set (stored_ids image) place id.0)
    unfolding stored_ids
    open_store_id = ap (λ (b : List ℕ). open_ids ls (block_words b)) id-put ∙ open_word_block (set (stored_ids image) place id.0) asked-count ls fits.each

    pub once_store_id : length ls ≡ word_count → once_of ls (stored_ids (store_id image place id)) ≡ once_of ls (set (stored_ids image) place id.0)
    unfolding stored_ids
    once_store_id n = ap (λ (b : List ℕ). once_of ls (block_words b)) id-put ∙ once_word_block (set (stored_ids image) place id.0) asked-count ls fits.each (omega arith)

  -- 02: "so a cut leaves the state before": the ID does not count yet
  pub open_dead : is_request (get_or (decode image).labels place 0) ≡ false → open_ids (decode image).labels (set (stored_ids image) place id.0) ≡ (decode image).ids
  unfolding decode
  open_dead dead = counting_dead 0 is_request (decode image).labels (stored_ids image) place id.0 dead

  index_kept : counting 0 lists_label (decode image).labels (stored_index (store_id image place id)) ≡ (decode image).index
  unfolding decode
  index_kept = ap (counting 0 lists_label (decode image).labels) index-store_id

  pub decode-id : Words word_count (decode image).ids → is_request (get_or (decode image).labels place 0) ≡ false → decode (store_id image place id) ≡ decode image
  decode-id fits dead =
      decode_same (store_id image place id) image (id_other 0 (omega arith))
      (open_store_id (decode image).labels (rw (open_dead dead) fits) ∙ open_dead dead) index_kept
      (λ i l. slots-store_id (slot_at (decode image).header.first i) (omega arith))

-- ---- block 0 alone, in either version
module _ (v : Version) (image : List ℕ) (size : length image ≡ image_size) (h : Header) (ls : List ℕ) where
  inside0 : 0 * block_size + block_size ≤ length image
  inside0 = omega arith

  written0 : length (block_by v h ls) ≡ block_size
  written0 = length-block0 v h ls

  pub length-store_by : length (store_by v image h ls) ≡ image_size
  length-store_by = length-put image 0 (block_by v h ls) ∙ size

  pub put-store_by : block (store_by v image h ls) 0 ≡ block_by v h ls
  put-store_by = block-put image 0 (block_by v h ls) inside0 written0

  -- every slot keeps its bytes
  pub other-store_by : (c : ℕ) → c ≢ 0 → block (store_by v image h ls) c ≡ block image c
  other-store_by c apart = block-other image 0 (block_by v h ls) inside0 written0 c apart

  ids-store_by : stored_ids (store_by v image h ls) ≡ stored_ids image
  unfolding stored_ids
  ids-store_by = ap block_words (other-store_by request_block (omega arith))

  index-store_by : stored_index (store_by v image h ls) ≡ stored_index image
  unfolding stored_index
  index-store_by = ap₂ (λ (x y : List ℕ). entries_of x ++ entries_of y) (other-store_by index_block (omega arith)) (other-store_by (index_block + 1) (omega arith))

  slots-store_by : (j : ℕ) → slots_of (store_by v image h ls) j ≡ slots_of image j
  unfolding slots_of
  slots-store_by j = ap slot_message (other-store_by (block_of j) (omega arith))

  module _ (fh : FitsBy v h) (fl : Words (places v) ls) where
    pub header_store_by : header_by v (block (store_by v image h ls) 0) ≡ h
    header_store_by = ap (header_by v) put-store_by ∙ header_block0 v h ls fh fl

    pub labels-store_by : labels_by v (block (store_by v image h ls) 0) ≡ ls
    labels-store_by = ap (labels_by v) put-store_by ∙ labels-block0 v h ls fh fl

    pub decode-store_by : decode_by v (store_by v image h ls)
        ≡ record { header = h; labels = ls; ids = open_ids ls (stored_ids image); index = counting 0 lists_label ls (stored_index image); queue = ring (slots_of image) h.first h.held }
    decode-store_by =
        state_eq header_store_by labels-store_by (ap₂ (λ (x y : List ℕ). open_ids x y) labels-store_by ids-store_by)
        (ap₂ (λ (x y : List ℕ). counting 0 lists_label x y) labels-store_by index-store_by)
        (ap (λ (x : Header). ring (slots_of (store_by v image h ls)) x.first x.held) header_store_by
        ∙ ring_same (slots_of (store_by v image h ls)) (slots_of image) h.first h.held (λ i l. slots-store_by (slot_at h.first i)))

-- as a call stores it
module _ (image : List ℕ) (size : length image ≡ image_size) (h : Header) (ls : List ℕ) where
  pub length-store0 : length (store0 image h ls) ≡ image_size
  unfolding store0
  length-store0 = length-store_by Two image size h ls

  pub zeroth-other : (c : ℕ) → c ≢ 0 → block (store0 image h ls) c ≡ block image c
  unfolding store0
  zeroth-other = other-store_by Two image size h ls

  pub decode-store0 : Fits h → Words word_count ls
      → decode (store0 image h ls) ≡ record { header = h; labels = ls; ids = open_ids ls (stored_ids image); index = counting 0 lists_label ls (stored_index image); queue = ring (slots_of image) h.first h.held }
  unfolding decode store0
  decode-store0 = decode-store_by Two image size h ls

-- ---- the ways in which a call stores; the IDs that count are those under the new words
-- one more held, in the slot after the last: `t` is the image with that slot stored, and perhaps an ID
pub decode-queued : (image t : List ℕ) (h : Header) (ls m : List ℕ) → length t ≡ image_size → Fits h → Words word_count ls
    → h.first ≡ (decode image).header.first → h.held ≡ (decode image).header.held + 1 → (decode image).header.held < slot_count
    → slots_of t (slot_at (decode image).header.first (decode image).header.held) ≡ m
    → ((j : ℕ) → j < slot_count → j ≢ slot_at (decode image).header.first (decode image).header.held → slots_of t j ≡ slots_of image j)
    → decode (store0 t h ls) ≡ record { header = h; labels = ls; ids = open_ids ls (stored_ids t); index = counting 0 lists_label ls (stored_index t); queue = (decode image).queue ++ (m ∷ []) }
unfolding decode
decode-queued image t h ls m size fh fl ef eh room put other =
    let f : ℕ = (header_of (block image 0)).first in
    let n : ℕ = (header_of (block image 0)).held in
    decode-store0 t size h ls fh fl
    ∙ state_eq refl refl refl refl
    (ap (λ (x : ℕ). ring (slots_of t) x h.held) ef
    ∙ ap (λ (x : ℕ). ring (slots_of t) f x) eh
    ∙ ring_snoc (slots_of t) f n
    ∙ ap₂ (λ (x : List (List ℕ)) (y : List ℕ). x ++ (y ∷ []))
    (ring_same (slots_of t) (slots_of image) f n (λ j l. other (slot_at f j) (omega arith) (omega arith)))
    put)

-- the slot, then block 0
pub decode_accept : (image : List ℕ) (h : Header) (ls m : List ℕ) → length image ≡ image_size → Fits h → Words word_count ls → Storable m
    → h.first ≡ (decode image).header.first → h.held ≡ (decode image).header.held + 1 → (decode image).header.held < slot_count
    → decode (store0 (store_slot image (slot_at (decode image).header.first (decode image).header.held) m) h ls)
    ≡ record { header = h; labels = ls; ids = open_ids ls (stored_ids image); index = counting 0 lists_label ls (stored_index image); queue = (decode image).queue ++ (m ∷ []) }
decode_accept image h ls m size fh fl s ef eh room =
    let k : ℕ = slot_at (decode image).header.first (decode image).header.held in
    let low : k < slot_count = omega arith in
    decode-queued image (store_slot image k m) h ls m (length-store_slot image size k low m s) fh fl ef eh room
    (slots-put image size k low m s) (λ j l apart. slots-other image size k low m s j apart)
    ∙ state_eq refl refl (ap (open_ids ls) (ids-store_slot image size k low m s)) (ap (counting 0 lists_label ls) (index-store_slot image size k low m s)) refl

-- a Request: the slot, then its ID, then block 0
pub decode_ask : (image : List ℕ) (h : Header) (ls m : List ℕ) (place : ℕ) (id : MessageId) → length image ≡ image_size → Fits h → Words word_count ls → Storable m
    → Words word_count (open_ids ls (set (stored_ids image) place id.0))
    → h.first ≡ (decode image).header.first → h.held ≡ (decode image).header.held + 1 → (decode image).header.held < slot_count
    → decode (store0 (store_id (store_slot image (slot_at (decode image).header.first (decode image).header.held) m) place id) h ls)
    ≡ record { header = h; labels = ls; ids = open_ids ls (set (stored_ids image) place id.0); index = counting 0 lists_label ls (stored_index image); queue = (decode image).queue ++ (m ∷ []) }
decode_ask image h ls m place id size fh fl s fits ef eh room =
    let k : ℕ = slot_at (decode image).header.first (decode image).header.held in
    let low : k < slot_count = omega arith in
    let slot : List ℕ = store_slot image k m in
    let long : length slot ≡ image_size = length-store_slot image size k low m s in
    let same : stored_ids slot ≡ stored_ids image = ids-store_slot image size k low m s in
    decode-queued image (store_id slot place id) h ls m (length-store_id slot long place id) fh fl ef eh room
    (slots-store_id slot long place id k low ∙ slots-put image size k low m s)
    (λ j l apart. slots-store_id slot long place id j l ∙ slots-other image size k low m s j apart)
    ∙ state_eq refl refl (open_store_id slot long place id ls (rw same fits) ∙ ap (λ (xs : List ℕ). open_ids ls (set xs place id.0)) same)
    (ap (counting 0 lists_label ls) (index-store_id slot long place id ∙ index-store_slot image size k low m s)) refl

-- the n oldest let go: block 0
pub decode-release : (image : List ℕ) (h : Header) (ls : List ℕ) (n : ℕ) → length image ≡ image_size → Fits h → Words word_count ls
    → n ≤ (decode image).header.held → h.first ≡ slot_at (decode image).header.first n → h.held ≡ (decode image).header.held - n
    → decode (store0 image h ls) ≡ record { header = h; labels = ls; ids = open_ids ls (stored_ids image); index = counting 0 lists_label ls (stored_index image); queue = drop n (decode image).queue }
unfolding decode
decode-release image h ls n size fh fl low ef eh =
    decode-store0 image size h ls fh fl
    ∙ state_eq refl refl refl refl
    (ap (λ (x : ℕ). ring (slots_of image) x h.held) ef
    ∙ ap (λ (x : ℕ). ring (slots_of image) (slot_at (header_of (block image 0)).first n) x) eh
    ∙ sym (ring-drop (slots_of image) (header_of (block image 0)).first (header_of (block image 0)).held n low))

-- the queue as it was: block 0
pub decode_keep : (image : List ℕ) (h : Header) (ls : List ℕ) → length image ≡ image_size → Fits h → Words word_count ls
    → h.first ≡ (decode image).header.first → h.held ≡ (decode image).header.held
    → decode (store0 image h ls) ≡ record { header = h; labels = ls; ids = open_ids ls (stored_ids image); index = counting 0 lists_label ls (stored_index image); queue = (decode image).queue }
unfolding decode
decode_keep image h ls size fh fl ef eh =
    decode-store0 image size h ls fh fl
    ∙ state_eq refl refl refl refl (ap₂ (λ (x y : ℕ). ring (slots_of image) x y) ef eh)
