-- A sound image, clause by clause, and what storing leaves of it. Assumes nothing.
use Rattle.std.specs.Prelude.{Result, Ok, Err}
use Prim.Native.Nat.{ℕ, zero, suc, ◌+◌, ◌-◌, ◌≤◌, ◌<◌}
use mathlib.Core.Bool.{Bool, true, false, not}
use mathlib.Core.List.{List}
use mathlib.Core.Logic.{◌≢◌, ⊎_elim}
use mathlib.Core.Path.{◌≡◌, refl, sym, ◌∙◌, ap}
use native.Mathlib.Nat.{eq-or-lt_of_le}
use native.Mathlib.Omega.{arith}
use lib.Dec.{eqb}
use lib.ListN.{length, get_or, set}
use borrow.Author.Tests.{eqb-true, eq-eqb, ne_eqb, not-false}
use Rattle.octets.specs.Pick.{pick}
use Rattle.octets.proofs.Choice.{both_true, cleared, below_or_not}
use Rattle.block.specs.Check.{sound}
use Rattle.block.specs.Run.{Words}
use Rattle.ft_number.specs.declared.MessageId.{MessageId}
use Rattle.label_list.specs.Requests.{once_of, open_ids}
use Rattle.label_list.specs.Word.{word_count, is_request}
use Rattle.label_list.proofs.OpenIds.{once_freed}
use Rattle.word_block.specs.Layout.{rest_zero, word_block}
use Rattle.block0.specs.declared.Header.{Header}
use Rattle.block0.specs.declared.Version.{Version}
use Rattle.block0.specs.declared.Version.TheVariants.{Two}
use Rattle.block0.specs.Fields.{FitsBy, ValidBy, Fits, Valid}
use Rattle.block0.specs.Layout.{slot_count, places, header_by, labels_by, block_by, header_of}
use Rattle.block0.proofs.Rules.{fields_valid, valid_fields}
use Rattle.block0.proofs.Written.{header_block0, block0-sound, labels-block0}
use Rattle.fec_index.specs.Entries.{EntriesGood, entries_ok, words_beside}
use Rattle.message.specs.Storable.{Storable}
use Rattle.request_ids.specs.Fields.{IdsGood}
use Rattle.request_ids.proofs.Counted.{word_block_good}
use Rattle.request_ids.proofs.Good.{good_once, good_beside}
use Rattle.slot.proofs.Holding.{slot_for-sound, slot_for_ok}
use Rattle.image.specs.declared.ImageFault.{ImageFault}
use Rattle.image.specs.declared.Judgement.TheVariants.{Good, BadCheck, BadFields}
use Rattle.image.specs.Sizes.{block, block_of, slot_at, image_size, request_block, index_block, further_count}
use Rattle.image.specs.State.{NotLive, decode, store_slot, store_by, store0, stored_ids, Contents, store_id}
use Rattle.image.specs.Verdict.{verdict_number, looked, fields_right, bytes_judged, verdict_by, IsSoundBy, IsSound, SlotGood, FurtherGood}
use Rattle.image.proofs.Faults.{NoFault, faultless_each, each_faultless}
use Rattle.image.proofs.Indexed.{Right, block_right, places-room, right_block}
use Rattle.image.proofs.Ranges.{labels-count, words_count}
use Rattle.image.proofs.Requests.{Fewer, once_dead}
use Rattle.image.proofs.Scans.{looked-length, looked-slot, looked-judged, slot_fields, looked-further, further_fields}
use Rattle.image.proofs.Stored.{length-store_slot, slot-put, slot-other, length-store_by, put-store_by, other-store_by, decode-slot, id_other, ids-store_slot, decode-id, length-store_id, id-put, open_dead, once_store_id, asked-count, index-store_slot, index-store_id}

-- ---- a verdict and its clauses
bytes_good : (v : Version) (image : List ℕ) (b : ℕ) → NoFault (bytes_judged v image b) → (sound (block image b) ≡ true) × (fields_right v image b ≡ true)
unfolding bytes_judged
bytes_good v image b = by (sound (block image b)) (fields_right v image b)
  where
    by : (c f : Bool) → NoFault (pick (not c) BadCheck (pick (not f) BadFields Good)) → (c ≡ true) × (f ≡ true)
    by true true h = (refl, refl)
    by true false h = absurd h
    by false f h = absurd h

good_bytes : (v : Version) (image : List ℕ) (b : ℕ) → sound (block image b) ≡ true → fields_right v image b ≡ true → NoFault (bytes_judged v image b)
unfolding bytes_judged
good_bytes v image b c f = rw (c, f) tt

wrong : ◌≡◌ {A = Result Unit ImageFault} (Err ImageFault.WrongSize) (Ok tt) → ◌≡◌ {A = ℕ} 0 1
wrong e = let z : ◌≡◌ {A = ℕ} 12 0 = ap verdict_number e in absurd (omega arith)

-- a sound verdict is its clauses
pub sound_parts : {v : Version} (image : List ℕ) → verdict_by v image ≡ Ok tt → IsSoundBy v image
unfolding verdict_by
sound_parts {v} image h =
    let z : Header = header_by v (block image 0) in
    let p = cleared (not (eqb (length image) image_size)) (Err ImageFault.WrongSize) _ (Ok tt) wrong h in
    let each = faultless_each (bytes_judged v image) (looked z) (sym (looked-judged v image) ∙ p.1) in
    let zeroth = bytes_good v image 0 (each 0 (omega (arith, looked-length z))) in
    record {
      size = eqb-true _ _ (not-false _ p.0);
      check = zeroth.0;
      fields = zeroth.1;
      slots = λ i l.
          let k : ℕ = slot_at z.first i in
          let g = bytes_good v image (block_of k) (rw (looked-slot z i l) at (each (suc i) (omega (arith, looked-length z)))) in
          record { check = g.0; fields = sym (slot_fields v image k (omega arith)) ∙ g.1 };
      further = λ k l.
          let g = bytes_good v image (request_block + k) (rw (looked-further z k l) at (each (suc (z.held + k)) (omega (arith, looked-length z)))) in
          record { check = g.0; fields = sym (further_fields v image (request_block + k) (omega arith)) ∙ g.1 };
    }

-- and back
pub parts_sound : {v : Version} (image : List ℕ) → IsSoundBy v image → verdict_by v image ≡ Ok tt
unfolding verdict_by
parts_sound {v} image s = simp (eq-eqb _ _ s.size) (looked-judged v image ∙ each_faultless (bytes_judged v image) (looked (header_by v (block image 0))) each)
  where
    each : (i : ℕ) → i < length (looked (header_by v (block image 0))) → NoFault (bytes_judged v image (get_or (looked (header_by v (block image 0))) i 0))
    each zero l = good_bytes v image 0 s.check s.fields
    each (suc i) l =
        let z : Header = header_by v (block image 0) in
        let k : ℕ = slot_at z.first i in
        ⊎_elim
        (λ (live : i < z.held).
        rw (looked-slot z i live) (good_bytes v image (block_of k) (s.slots i live).check (slot_fields v image k (omega arith) ∙ (s.slots i live).fields)))
        (λ (past : z.held ≤ i).
        let there : i ≡ z.held + (i - z.held) = omega arith in
        let low : i - z.held < further_count = omega (arith, looked-length z) in
        let good = s.further (i - z.held) low in
        rw (there, looked-further z (i - z.held) low)
        (good_bytes v image (request_block + (i - z.held)) good.check (further_fields v image (request_block + (i - z.held)) (omega arith) ∙ good.fields)))
        (below_or_not i z.held)

-- ---- what a sound image tells of its state
pub sound_valid : (image : List ℕ) → IsSound image → Valid (decode image).header (decode image).labels
unfolding decode
sound_valid image s = fields_valid Two (block image 0) s.fields

-- the live slots of a header are good blocks of an image
abbrev pub Live : List ℕ → Header → Type 0
Live image h = (i : ℕ) → i < h.held → SlotGood (block image (block_of (slot_at h.first i)))

pub sound-live : (image : List ℕ) → IsSound image → Live image (decode image).header
unfolding decode
sound-live image s = s.slots

-- block 65 of the further ones
pub good_ids : {words b : List ℕ} → FurtherGood words request_block b → IdsGood words b
good_ids g = record { check = g.check; fields = g.fields }

pub sound_requests : {v : Version} {image : List ℕ} → IsSoundBy v image → IdsGood (labels_by v (block image 0)) (block image request_block)
sound_requests s = good_ids (s.further 0 (omega arith))

-- the further blocks of an image are good beside these words
abbrev pub Beside : List ℕ → List ℕ → Type 0
Beside ls image = (k : ℕ) → k < further_count → FurtherGood ls (request_block + k) (block image (request_block + k))

pub goods_beside : (ls image : List ℕ) → IdsGood ls (block image request_block) → ((k : ℕ) → k < 2 → EntriesGood (words_beside k ls) (block image (index_block + k))) → Beside ls image
goods_beside ls image g e zero l = record { check = g.check; fields = g.fields }
goods_beside ls image g e (suc k) l =
    let there : request_block + suc k ≡ index_block + k = omega arith in
    let which : index_block + k - index_block ≡ k = omega arith in
    let good = e k (omega arith) in
    rw there (record { check = good.check; fields = rw (ne_eqb (index_block + k) request_block (omega arith), which) good.fields })

-- blocks 66 and 67 of the further ones
pub sound_entries : {v : Version} {image : List ℕ} → IsSoundBy v image → (k : ℕ) → k < 2 → EntriesGood (words_beside k (labels_by v (block image 0))) (block image (index_block + k))
sound_entries {v} {image} s k l =
    let there : request_block + suc k ≡ index_block + k = omega arith in
    let which : index_block + k - index_block ≡ k = omega arith in
    let good : FurtherGood (labels_by v (block image 0)) (index_block + k) (block image (index_block + k)) = rw there at (s.further (suc k) (omega arith)) in
    record { check = good.check; fields = rw (ne_eqb (index_block + k) request_block (omega arith), which) at good.fields }

-- every entry that counts is right
pub right_by : {v : Version} (image : List ℕ) → IsSoundBy v image → Right (labels_by v (block image 0)) image
right_by {v} image s = block_right (labels_by v (block image 0)) image (omega (arith, words_count v (block image 0), (places-room v).1)) (λ k l. (sound_entries s k l).fields)

pub sound_right : (image : List ℕ) → IsSound image → Right (decode image).labels image
unfolding decode
sound_right image s = right_by image s

-- no ID that counts stands twice
pub once_by : {v : Version} (image : List ℕ) → IsSoundBy v image → once_of (labels_by v (block image 0)) (stored_ids image) ≡ true
unfolding stored_ids
once_by {v} image s = good_once (labels_by v (block image 0)) (block image request_block) (sound_requests s)

pub sound_once : (image : List ℕ) → IsSound image → once_of (decode image).labels (stored_ids image) ≡ true
unfolding decode
sound_once image s = once_by image s

-- so its further blocks are good beside other words under which none does
pub sound-ids : {v : Version} (image ls : List ℕ) → IsSoundBy v image → once_of ls (stored_ids image) ≡ true → Right ls image → Beside ls image
unfolding stored_ids entries_ok
sound-ids {v} image ls s once right =
    goods_beside ls image (good_beside (labels_by v (block image 0)) (block image request_block) (sound_requests s) ls once) (λ k l.
    let good = sound_entries s k l in
    record { check = good.check; fields = right_block ls image k l (both_true (rest_zero (block image (index_block + k))) _ good.fields).0 right })

-- as under words with fewer Requests
pub once_fewer : (image ls : List ℕ) → IsSound image → Fewer ls (decode image).labels → once_of ls (stored_ids image) ≡ true
once_fewer image ls s f = once_freed ls (decode image).labels (stored_ids image) f (sound_once image s)

-- ---- stored, it is sound again
-- a slot that is not live
pub sound-slot : (image : List ℕ) (k : ℕ) (m : List ℕ) → IsSound image → k < slot_count → Storable m → NotLive image k → IsSound (store_slot image k m)
unfolding decode
sound-slot image k m s room fits idle =
    let e : block (store_slot image k m) 0 ≡ block image 0 = slot-other image s.size k room m fits 0 (omega arith) in
    record {
      size = length-store_slot image s.size k room m fits;
      check = rw e s.check;
      fields = rw e s.fields;
      slots = rw e (λ i l.
          let apart : slot_at (header_of (block image 0)).first i ≢ k = idle i l in
          rw (slot-other image s.size k room m fits (block_of (slot_at (header_of (block image 0)).first i)) (omega arith)) (s.slots i l));
      further = rw e (λ j l. rw (slot-other image s.size k room m fits (request_block + j) (omega arith)) (s.further j l));
    }

-- that slot is then good itself
pub slot_good : (image : List ℕ) (k : ℕ) (m : List ℕ) → length image ≡ image_size → k < slot_count → Storable m → SlotGood (block (store_slot image k m) (block_of k))
slot_good image k m size room s =
    rw (slot-put image size k room m s) (record { check = slot_for-sound m s; fields = slot_for_ok m s })

-- block 65: an ID at a place where it does not count yet
pub sound-id : (image : List ℕ) (place : ℕ) (id : MessageId) → IsSound image → Words word_count (decode image).ids
    → is_request (get_or (decode image).labels place 0) ≡ false → IsSound (store_id image place id)
unfolding decode
sound-id image place id s fits dead =
    let ls : List ℕ = (decode image).labels in
    let xs : List ℕ = set (stored_ids image) place id.0 in
    let e : block (store_id image place id) 0 ≡ block image 0 = id_other image s.size place id 0 (omega arith) in
    let counted : Words word_count (open_ids ls xs) = rw (open_dead image s.size place id dead) fits in
    let good : IdsGood ls (word_block xs) =
    word_block_good xs (asked-count image s.size place id) ls counted.each (omega (arith, labels-count image)) (once_dead image place id dead (sound_once image s)) in
    record {
      size = length-store_id image s.size place id;
      check = rw e s.check;
      fields = rw e s.fields;
      slots = rw e (λ i l.
          rw (id_other image s.size place id (block_of (slot_at (header_of (block image 0)).first i)) (omega arith)) (s.slots i l));
      further = rw e (goods_beside ls (store_id image place id) (rw (id-put image s.size place id) good)
          (λ k l. rw (id_other image s.size place id (index_block + k) (omega arith)) (sound_entries s k l)));
    }

-- block 0, over an image whose live slots and further blocks are good
pub sound-store_by : (v : Version) (image : List ℕ) (h : Header) (ls : List ℕ) → length image ≡ image_size → FitsBy v h → Words (places v) ls → ValidBy v h ls → Live image h
    → Beside ls image → IsSoundBy v (store_by v image h ls)
sound-store_by v image h ls size fh fl r live good =
    let e : block (store_by v image h ls) 0 ≡ block_by v h ls = put-store_by v image size h ls in
    let d : header_by v (block_by v h ls) ≡ h = header_block0 v h ls fh fl in
    let dl : labels_by v (block_by v h ls) ≡ ls = labels-block0 v h ls fh fl in
    record {
      size = length-store_by v image size h ls;
      check = rw e (block0-sound v h ls);
      fields = rw e (valid_fields v h ls fh fl r);
      slots = rw (e, d) (λ i l. rw (other-store_by v image size h ls (block_of (slot_at h.first i)) (omega arith)) (live i l));
      further = rw (e, dl) (λ k l. rw (other-store_by v image size h ls (request_block + k) (omega arith)) (good k l));
    }

pub sound-store0 : (image : List ℕ) (h : Header) (ls : List ℕ) → length image ≡ image_size → Fits h → Words word_count ls → Valid h ls → Live image h
    → Beside ls image → IsSound (store0 image h ls)
unfolding store0
sound-store0 = sound-store_by Two

-- ---- the ways in which a call stores leave a sound image, where no ID that counts under the new words stands twice
-- the slot after the last is not live
pub idle_last : (image : List ℕ) → (decode image).header.held < slot_count → NotLive image (slot_at (decode image).header.first (decode image).header.held)
idle_last image room i l = omega arith

-- one more held, in the slot after the last: `t` is the image with that slot stored, and perhaps an ID
pub sound-queued : (image t : List ℕ) (h : Header) (ls : List ℕ) → IsSound t → Fits h → Words word_count ls → Valid h ls
    → h.first ≡ (decode image).header.first → h.held ≡ (decode image).header.held + 1 → (decode t).header ≡ (decode image).header
    → SlotGood (block t (block_of (slot_at (decode image).header.first (decode image).header.held)))
    → once_of ls (stored_ids t) ≡ true → Right ls t → IsSound (store0 t h ls)
sound-queued image t h ls s fh fl v ef eh same last once right =
    sound-store0 t h ls s.size fh fl v (λ i l.
    rw ef
    (⊎_elim
    (λ (e : i ≡ (decode image).header.held). rw e last)
    (λ (before : i < (decode image).header.held). rw same at (sound-live t s) i before)
    (eq-or-lt_of_le (omega arith))))
    (sound-ids t ls s once right)

-- the slot, then block 0
pub sound_accept : (image : List ℕ) (h : Header) (ls m : List ℕ) → IsSound image → Fits h → Words word_count ls → Valid h ls → Storable m
    → h.first ≡ (decode image).header.first → h.held ≡ (decode image).header.held + 1 → (decode image).header.held < slot_count
    → once_of ls (stored_ids image) ≡ true → Right ls image
    → IsSound (store0 (store_slot image (slot_at (decode image).header.first (decode image).header.held) m) h ls)
sound_accept image h ls m s fh fl v fits ef eh room once right =
    let k : ℕ = slot_at (decode image).header.first (decode image).header.held in
    let low : k < slot_count = omega arith in
    let idle : NotLive image k = idle_last image room in
    sound-queued image (store_slot image k m) h ls (sound-slot image k m s low fits idle) fh fl v ef eh
    (ap (λ (c : Contents). c.header) (decode-slot image s.size k low m fits idle))
    (slot_good image k m s.size low fits) (rw (ids-store_slot image s.size k low m fits) once) (rw (index-store_slot image s.size k low m fits) right)

-- a Request: the slot, then its ID at a place where none counted, then block 0
pub sound_ask : (image : List ℕ) (h : Header) (ls m : List ℕ) (place : ℕ) (id : MessageId) → IsSound image → Fits h → Words word_count ls → Valid h ls → Storable m
    → Words word_count (decode image).ids → is_request (get_or (decode image).labels place 0) ≡ false → Words word_count (open_ids ls (set (stored_ids image) place id.0))
    → h.first ≡ (decode image).header.first → h.held ≡ (decode image).header.held + 1 → (decode image).header.held < slot_count
    → once_of ls (set (stored_ids image) place id.0) ≡ true → Right ls image
    → IsSound (store0 (store_id (store_slot image (slot_at (decode image).header.first (decode image).header.held) m) place id) h ls)
sound_ask image h ls m place id s fh fl v fits ids dead words ef eh room once right =
    let k : ℕ = slot_at (decode image).header.first (decode image).header.held in
    let low : k < slot_count = omega arith in
    let idle : NotLive image k = idle_last image room in
    let t : List ℕ = store_slot image k m in
    let st : IsSound t = sound-slot image k m s low fits idle in
    let same : decode t ≡ decode image = decode-slot image s.size k low m fits idle in
    let kept : stored_ids t ≡ stored_ids image = ids-store_slot image s.size k low m fits in
    let it : Words word_count (decode t).ids = rw same ids in
    let dt : is_request (get_or (decode t).labels place 0) ≡ false = rw same dead in
    sound-queued image (store_id t place id) h ls (sound-id t place id st it dt) fh fl v ef eh
    (ap (λ (c : Contents). c.header) (decode-id t st.size place id it dt ∙ same))
    (rw (id_other t st.size place id (block_of k) (omega arith)) (slot_good image k m s.size low fits))
    (once_store_id t st.size place id ls (rw kept words) fl.count ∙ rw kept once)
    (rw (index-store_id t st.size place id, index-store_slot image s.size k low m fits) right)

-- the oldest let go
pub sound-release : (image : List ℕ) (h : Header) (ls : List ℕ) (n : ℕ) → IsSound image → Fits h → Words word_count ls → Valid h ls
    → n ≤ (decode image).header.held → h.first ≡ slot_at (decode image).header.first n → h.held ≡ (decode image).header.held - n
    → once_of ls (stored_ids image) ≡ true → Right ls image → IsSound (store0 image h ls)
sound-release image h ls n s fh fl v low ef eh once right =
    sound-store0 image h ls s.size fh fl v (λ i l.
    let there : slot_at h.first i ≡ slot_at (decode image).header.first (n + i) = omega arith in
    rw there (sound-live image s (n + i) (omega arith)))
    (sound-ids image ls s once right)

-- block 0 alone
pub sound_keep : (image : List ℕ) (h : Header) (ls : List ℕ) → IsSound image → Fits h → Words word_count ls → Valid h ls
    → h.first ≡ (decode image).header.first → h.held ≡ (decode image).header.held → once_of ls (stored_ids image) ≡ true → Right ls image → IsSound (store0 image h ls)
sound_keep image h ls s fh fl v ef eh once right =
    sound-store0 image h ls s.size fh fl v (λ i l. rw ef (sound-live image s i (omega arith))) (sound-ids image ls s once right)
