-- A state that is stored is read back, from a sound image: once for all calls. Assumes nothing.
use Rattle.std.specs.Prelude.{Option, Some, None}
use Prim.Native.Nat.{ℕ, ◌+◌, ◌-◌, ◌<◌, ◌≤◌}
use mathlib.Core.Bool.{Bool, true, false, false≢true}
use mathlib.Core.List.{List, [], ◌∷◌, ◌++◌}
use mathlib.Core.Logic.{⊎_elim}
use mathlib.Core.Path.{◌≡◌, refl, sym, ap, ◌∙◌, ap₂}
use native.Mathlib.Nat.{eq-or-lt_of_le}
use native.Mathlib.Omega.{arith}
use lib.Dec.{eqb}
use lib.ListN.{length, drop, set, length-append, length-drop, replicate, get_or}
use borrow.Author.Tests.{eq-eqb, le-leb, leb-true}
use Rattle.octets.specs.Pick.{pick}
use Rattle.block.specs.Run.{Words}
use Rattle.ft_number.specs.Circle.{steps_of}
use Rattle.label_list.specs.Counting.{counting}
use Rattle.label_list.specs.Find.{any}
use Rattle.label_list.specs.Requests.{once_of, open_ids}
use Rattle.label_list.specs.Word.{is_request, word_count, lists_label}
use Rattle.label_list.proofs.Counting.{counting_twice, counting-length}
use Rattle.label_list.proofs.OpenIds.{once_counting}
use Rattle.word_block.specs.Layout.{block_words}
use Rattle.block0.specs.declared.Header.{Header}
use Rattle.block0.specs.Fields.{Fits, Valid, at_most}
use Rattle.block0.specs.Layout.{no_labels, released_header, slot_count}
use Rattle.fec_index.specs.Entries.{entries_of, entry_ok}
use Rattle.message.specs.Storable.{Storable}
use Rattle.slot.specs.Layout.{slot_message}
use Rattle.image.specs.Ring.{ring}
use Rattle.image.specs.Sizes.{slot_at, block, block_of, image_size, index_block, request_block}
use Rattle.image.specs.State.{InRange, decode, stored_ids, Contents, slots_of, store0, store_slot, stored_index}
use Rattle.image.specs.Verdict.{IsSound, SlotGood}
use Rattle.image.proofs.Changes.{none_indexed}
use Rattle.image.proofs.Entered.{sound_wide}
use Rattle.image.proofs.Entries.{ids-store_entry, listed-store_entry}
use Rattle.image.proofs.Indexed.{Right}
use Rattle.image.proofs.Queue.{queue_length, queue_storable}
use Rattle.image.proofs.Ranges.{labels-count, stored-count, valid_words}
use Rattle.image.proofs.Requests.{no_ids, once_stored}
use Rattle.image.proofs.Sound.{sound-ids, sound_keep, sound_once, sound-release, sound-store0, sound_valid, parts_sound, sound_parts, sound-queued, slot_good}
use Rattle.image.proofs.Stored.{decode_keep, decode-release, decode-store0, state_eq, decode-queued, index-store_id, open_store_id, slots-other, slots-put}
use Rattle.protocol.specs.Lawful.{Lawful, Window}
use Rattle.protocol.specs.State.{State, held, released_state}
use Rattle.calls.specs.State.{state_of}
use Rattle.calls.specs.Storing.{same, Slots, stay, empty, one_more, fewer, first_after, header_for, stored, Further, put_id, put-entry, further_stored, next_slot, slot_stored}
use Rattle.calls.proofs.Marking.{marks_low, marks_ok_lem, marks_read}
use Rattle.calls.proofs.Slots.{FurtherFits, HasPlace, SlotFits, fits_place, further_high, further-other, slot-length, slot_low, slot_others}
use Rattle.call_meaning.specs.Medium.{Same}
use Rattle.call_meaning.proofs.Slots.{both_same}

-- ---- the state that a sound image stands for
window_of : (n : ℕ) (x : Option ℕ) → at_most n x ≡ true → record { steps : ℕ; reaches : x ≡ Some steps; within : steps ≤ n }
window_of n (Some k) e = record { steps = k; reaches = refl; within = leb-true k n e }
window_of n None e = absurd (false≢true e)

pub image_window : (im : List ℕ) → IsSound im → Window (state_of im)
image_window im s =
    let w = window_of (decode im).header.held (steps_of (decode im).header.released.0 (decode im).header.issued.0) (sound_valid im s).window in
    record { steps = w.steps; reaches = w.reaches; within = rw (queue_length im) w.within }

-- its IDs are those of block 65 that count under its words
pub state_ids : (im : List ℕ) → open_ids (state_of im).table.words (stored_ids im) ≡ (state_of im).table.ids
unfolding decode
state_ids im = refl

-- and its entries those of blocks 66 and 67
pub state_index : (im : List ℕ) → counting 0 lists_label (state_of im).table.words (stored_index im) ≡ (state_of im).table.index
unfolding decode
state_index im = refl

module _ (im : List ℕ) (s : IsSound im) (r : InRange (decode im)) where
  -- kept is 0 or 1
  pub not_kept : eqb (decode im).header.kept 1 ≡ false → (decode im).header.kept ≡ 0
  not_kept f =
      ⊎_elim
      (λ (e : (decode im).header.kept ≡ 1). absurd (false≢true (sym f ∙ eq-eqb (decode im).header.kept 1 e)))
      (λ (z : (decode im).header.kept < 1). omega arith)
      (eq-or-lt_of_le (sound_valid im s).kept)

  -- the IDs that count are those under the words, and none stands twice
  ids_counted : open_ids (decode im).labels (decode im).ids ≡ (decode im).ids
  unfolding decode
  ids_counted = counting_twice 0 is_request (decode im).labels (stored_ids im)

  ids_once : once_of (decode im).labels (decode im).ids ≡ true
  unfolding decode
  ids_once = once_stored im (decode im).labels (labels-count im) ∙ sound_once im s

  idle-ids : (decode im).labels ≡ no_labels → (decode im).ids ≡ replicate word_count 0
  unfolding decode any
  idle-ids e = ap (λ (ls : List ℕ). open_ids ls (stored_ids im)) e ∙ no_ids no_labels refl word_count refl (stored_ids im)

  -- the entries that count are those under the words
  index-length : length (decode im).index ≡ word_count
  unfolding decode
  index-length = counting-length 0 lists_label (decode im).labels (stored_index im) ∙ labels-count im

  index_counted : counting 0 lists_label (decode im).labels (decode im).index ≡ (decode im).index
  unfolding decode
  index_counted = counting_twice 0 lists_label (decode im).labels (stored_index im)

  idle-index : (decode im).labels ≡ no_labels → (decode im).index ≡ replicate word_count 0
  unfolding decode
  idle-index e = ap (λ (ls : List ℕ). counting 0 lists_label ls (stored_index im)) e ∙ none_indexed (stored_index im)

  -- the state of a sound image in range is lawful
  pub lawful_image : Lawful (state_of im)
  lawful_image =
      let v = sound_valid im s in
      record {
        released = r.header.released;
        issued = r.header.issued;
        secured = r.header.secured;
        terms = record { timeout = r.header.timeout; keepalive = r.header.keepalive; maxpdu = r.header.maxpdu };
        few = rw (queue_length im) v.held;
        window = image_window im s;
        words = labels-count im;
        labels = v.labels;
        ids = r.ids.count;
        width = r.ids.each;
        counted = ids_counted;
        once = ids_once;
        index = index-length;
        indexed = index_counted;
        entries = sound_wide im s;
        storable = λ i l. queue_storable im s i (rw (queue_length im) at l);
        idle = λ f. idle_image (v.idle (not_kept f));
      }
    where
      none_held : (decode im).header.held ≡ 0 → (decode im).queue ≡ []
      none_held z = by (decode im).queue (queue_length im ∙ z)
        where
          by : (q : List (List ℕ)) → length q ≡ 0 → q ≡ []
          by [] e = refl
          by (m ∷ ms) e = absurd (omega arith)

      idle_image : ((decode im).header ≡ released_header) × ((decode im).labels ≡ released_state.table.words) → state_of im ≡ released_state
      idle_image e = rw (e.0, idle-ids e.1, idle-index e.1, e.1, none_held (ap (λ (h : Header). h.held) e.0))

-- ---- what becomes of the IDs and of the entries with the further blocks
abbrev pub ids_after : List ℕ → Further → List ℕ
ids_after im same = stored_ids im
ids_after im (put_id place id) = set (stored_ids im) place id.0
ids_after im (put-entry place entry) = stored_ids im

abbrev pub index_after : List ℕ → Further → List ℕ
index_after im same = stored_index im
index_after im (put_id place id) = stored_index im
index_after im (put-entry place entry) = set (stored_index im) place entry

-- ---- what becomes of the queue with the ring of slots
abbrev pub QueueAfter : List ℕ → Slots → List (List ℕ) → Type 0
QueueAfter im stay q = q ≡ (decode im).queue
QueueAfter im empty q = q ≡ []
QueueAfter im (one_more m) q = (q ≡ (decode im).queue ++ (m ∷ [])) × Storable m × ((decode im).header.held < slot_count)
QueueAfter im (fewer k) q = (q ≡ drop k (decode im).queue) × (k ≤ (decode im).header.held)

queue_fits : (im : List ℕ) (slots : Slots) (q : List (List ℕ)) → QueueAfter im slots q → SlotFits im slots
queue_fits im stay q e = tt
queue_fits im empty q e = tt
queue_fits im (one_more m) q e = (e.1, e.2)
queue_fits im (fewer k) q e = tt

-- a state that this ring of slots and these further blocks can hold
pub record Puts (im : List ℕ) (slots : Slots) (f : Further) (s : State) : Type 0 where
  pub lawful : Lawful s
  pub queue : QueueAfter im slots s.queue
  -- where an ID or an entry is put none counts yet; the IDs that count have their width
  pub fits : FurtherFits im f
  pub widths : Words word_count (decode im).ids
  pub ids : open_ids s.table.words (ids_after im f) ≡ s.table.ids
  pub index : counting 0 lists_label s.table.words (index_after im f) ≡ s.table.index
  -- each entry is one: zeros, or a prefix with its length
  pub right : (i : ℕ) → entry_ok (get_or s.table.index i 0) ≡ true
  -- "With kept 0, bytes 4 to 507 are zero."
  pub first : s.kept ≡ false → first_after (decode im).header slots ≡ 0

kept_read : (b : Bool) → eqb (pick b 1 0) 1 ≡ b
kept_read true = refl
kept_read false = refl

kept_low : (b : Bool) → pick b 1 0 ≤ 1
kept_low true = omega arith
kept_low false = omega arith

kept_none : (b : Bool) → ◌≡◌ {A = ℕ} (pick b 1 0) 0 → b ≡ false
kept_none true e = absurd (omega arith)
kept_none false e = refl

-- ---- stored
module _ (im : List ℕ) (sound : IsSound im) (slots : Slots) (f : Further) (s : State) (p : Puts im slots f s) where
  first : ℕ
  first = first_after (decode im).header slots

  h : Header
  h = header_for first s

  first_low : first < slot_count
  unfolding first
  first_low = by slots
    where
      by : (x : Slots) → first_after (decode im).header x < slot_count
      by stay = (sound_valid im sound).first
      by empty = omega arith
      by (one_more m) = (sound_valid im sound).first
      by (fewer k) = omega arith

  numbers_fit : Fits h
  unfolding h
  numbers_fit = record {
    released = p.lawful.released;
    issued = p.lawful.issued;
    secured = p.lawful.secured;
    first = omega (arith, first_low);
    held = omega (arith, p.lawful.few);
    timeout = p.lawful.terms.timeout;
    kept = omega (arith, kept_low s.kept);
    marks = marks_low s.marks;
    keepalive = p.lawful.terms.keepalive;
    maxpdu = p.lawful.terms.maxpdu;
  }

  abbrev words : List ℕ
  words = s.table.words

  words_fit : Words word_count words
  words_fit = valid_words words p.lawful.words p.lawful.labels

  ids_fit : Words word_count s.table.ids
  ids_fit = record { count = p.lawful.ids; each = p.lawful.width }

  numbers_valid : Valid h words
  unfolding h first
  numbers_valid = record {
    first = first_low;
    held = p.lawful.few;
    kept = kept_low s.kept;
    marks = marks_ok_lem s.marks;
    window = rw p.lawful.window.reaches (le-leb p.lawful.window.steps (held s) p.lawful.window.within);
    labels = p.lawful.labels;
    idle = λ z.
        let f : s.kept ≡ false = kept_none s.kept z in
        (rw (p.first f, p.lawful.idle f), rw (p.lawful.idle f));
  }

  -- ---- the image with the slot and the further block stored
  abbrev slotted : List ℕ
  slotted = slot_stored im slots

  abbrev before : List ℕ
  before = further_stored slotted f

  slot_fits : SlotFits im slots
  slot_fits = queue_fits im slots s.queue p.queue

  place : HasPlace f
  place = fits_place im f p.fits

  long : length slotted ≡ image_size
  long = slot-length im sound.size slots slot_fits

  before_same : Same im before
  before_same = both_same im sound p.widths slots f slot_fits p.fits

  before-sound : IsSound before
  before-sound = sound_parts before (before_same.checks ∙ parts_sound im sound)

  before_decodes : decode before ≡ decode im
  before_decodes = before_same.state

  slot-ids : stored_ids slotted ≡ stored_ids im
  unfolding stored_ids
  slot-ids = ap block_words (slot_others im sound.size slots slot_fits request_block (omega (arith, slot_low im sound.size slots)))

  slot-index : stored_index slotted ≡ stored_index im
  unfolding stored_index
  slot-index =
      let low = slot_low im sound.size slots in
      ap₂ (λ (x y : List ℕ). entries_of x ++ entries_of y)
      (slot_others im sound.size slots slot_fits index_block (omega (arith, low))) (slot_others im sound.size slots slot_fits (index_block + 1) (omega (arith, low)))

  -- the IDs that count under the new words, and the entries
  ids-after : open_ids words (stored_ids before) ≡ s.table.ids
  ids-after = by f p.ids place
    where
      by : (x : Further) → open_ids words (ids_after im x) ≡ s.table.ids → HasPlace x → open_ids words (stored_ids (further_stored slotted x)) ≡ s.table.ids
      by same e l = ap (open_ids words) slot-ids ∙ e
      by (put_id place id) e l =
          open_store_id slotted long place id words (rw (slot-ids, e) ids_fit) ∙ ap (λ (xs : List ℕ). open_ids words (set xs place id.0)) slot-ids ∙ e
      by (put-entry place entry) e l = ap (open_ids words) (ids-store_entry slotted long place (omega arith) entry ∙ slot-ids) ∙ e

  index-after : counting 0 lists_label words (stored_index before) ≡ s.table.index
  index-after = by f p.index place
    where
      by : (x : Further) → counting 0 lists_label words (index_after im x) ≡ s.table.index → HasPlace x → counting 0 lists_label words (stored_index (further_stored slotted x)) ≡ s.table.index
      by same e l = ap (counting 0 lists_label words) slot-index ∙ e
      by (put_id place id) e l = ap (counting 0 lists_label words) (index-store_id slotted long place id ∙ slot-index) ∙ e
      by (put-entry place entry) e l =
          listed-store_entry slotted long place (omega arith) entry words (omega (arith, p.lawful.words)) (rw (slot-index, e) p.lawful.entries)
          ∙ ap (λ (xs : List ℕ). counting 0 lists_label words (set xs place entry)) slot-index ∙ e

  -- no ID that counts stands twice, and each entry that counts is right
  once_after : once_of words (stored_ids before) ≡ true
  once_after =
      sym (once_counting words (stored_ids before) (omega (arith, p.lawful.words, stored-count before))) ∙ ap (once_of words) ids-after ∙ p.lawful.once

  right_after : Right words before
  right_after i = rw index-after (p.right i)

  one_held : (m : List ℕ) → s.queue ≡ (decode im).queue ++ (m ∷ []) → held s ≡ (decode im).header.held + 1
  one_held m q = ap length q ∙ length-append (decode im).queue (m ∷ []) ∙ ap (λ (k : ℕ). k + 1) (queue_length im)

  fewer_held : (k : ℕ) → s.queue ≡ drop k (decode im).queue → held s ≡ (decode before).header.held - k
  fewer_held k q =
      ap length q ∙ length-drop k (decode im).queue ∙ ap (λ (j : ℕ). j - k) (queue_length im) ∙ ap (λ (c : Contents). c.header.held - k) (sym before_decodes)

  -- the slots behind block 0, with the further block stored
  slot-block : (j : ℕ) → j < slot_count → block before (block_of j) ≡ block slotted (block_of j)
  slot-block j l = further-other slotted long f place (block_of j) (omega (arith, further_high f))

  slot_message_lem : (j : ℕ) → j < slot_count → slots_of before j ≡ slots_of slotted j
  unfolding slots_of
  slot_message_lem j l = ap slot_message (slot-block j l)

  -- the image says this state, and is sound
  pub put_decodes : decode (stored im slots f s) ≡ record { header = header_for (first_after (decode im).header slots) s; labels = s.table.words; ids = s.table.ids; index = s.table.index; queue = s.queue }
  unfolding h first ring
  put_decodes = by slots refl p.queue numbers_fit
    where
      by : (x : Slots) → slots ≡ x → QueueAfter im x s.queue → Fits (header_for (first_after (decode im).header x) s)
          → decode (store0 before (header_for (first_after (decode im).header x) s) words)
          ≡ record { header = header_for (first_after (decode im).header x) s; labels = words; ids = s.table.ids; index = s.table.index; queue = s.queue }
      by stay is q g =
          let n : held s ≡ (decode before).header.held = ap length q ∙ queue_length im ∙ ap (λ (c : Contents). c.header.held) (sym before_decodes) in
          decode_keep before (header_for (decode im).header.first s) words before-sound.size g words_fit (ap (λ (c : Contents). c.header.first) (sym before_decodes)) n
          ∙ state_eq refl refl ids-after index-after (ap (λ (c : Contents). c.queue) before_decodes ∙ sym q)
      by empty is q g =
          let n : held s ≡ 0 = ap length q in
          decode-store0 before before-sound.size (header_for 0 s) words g words_fit ∙ state_eq refl refl ids-after index-after (rw (n, q))
      by (one_more m) is q g =
          let k : ℕ = next_slot (decode im).header in
          let low : k < slot_count = omega arith in
          let at : slotted ≡ store_slot im k m = ap (slot_stored im) is in
          decode-queued im before (header_for (decode im).header.first s) words m before-sound.size g words_fit refl (one_held m q.0) q.2
          (slot_message_lem k low ∙ ap (λ (t : List ℕ). slots_of t k) at ∙ slots-put im sound.size k low m q.1)
          (λ j l apart. slot_message_lem j l ∙ ap (λ (t : List ℕ). slots_of t j) at ∙ slots-other im sound.size k low m q.1 j apart)
          ∙ state_eq refl refl ids-after index-after (sym q.0)
      by (fewer k) is q g =
          let held-before : k ≤ (decode before).header.held = rw before_decodes q.1 in
          decode-release before (header_for (slot_at (decode im).header.first k) s) words k before-sound.size g words_fit held-before
          (ap (λ (c : Contents). slot_at c.header.first k) (sym before_decodes)) (fewer_held k q.0)
          ∙ state_eq refl refl ids-after index-after (ap (λ (c : Contents). drop k c.queue) before_decodes ∙ sym q.0)

  -- a lawful state whose queue, IDs and index are what becomes of the ring and of the further blocks, stored: the image is sound
  pub put-sound : IsSound (stored im slots f s)
  unfolding h first
  put-sound = by slots refl p.queue numbers_fit numbers_valid
    where
      by : (x : Slots) → slots ≡ x → QueueAfter im x s.queue → Fits (header_for (first_after (decode im).header x) s)
          → Valid (header_for (first_after (decode im).header x) s) words → IsSound (store0 before (header_for (first_after (decode im).header x) s) words)
      by stay is q g v =
          let n : held s ≡ (decode before).header.held = ap length q ∙ queue_length im ∙ ap (λ (c : Contents). c.header.held) (sym before_decodes) in
          sound_keep before (header_for (decode im).header.first s) words before-sound g words_fit v (ap (λ (c : Contents). c.header.first) (sym before_decodes)) n once_after right_after
      by empty is q g v =
          let n : held s ≡ 0 = ap length q in
          sound-store0 before (header_for 0 s) words before-sound.size g words_fit v (λ i l. absurd (omega (arith, n))) (sound-ids before words before-sound once_after right_after)
      by (one_more m) is q g v =
          let k : ℕ = next_slot (decode im).header in
          let low : k < slot_count = omega arith in
          let at : slotted ≡ store_slot im k m = ap (slot_stored im) is in
          let good : SlotGood (block before (block_of k)) = rw (slot-block k low, at) (slot_good im k m sound.size low q.1) in
          sound-queued im before (header_for (decode im).header.first s) words before-sound g words_fit v refl (one_held m q.0)
          (ap (λ (c : Contents). c.header) before_decodes) good once_after right_after
      by (fewer k) is q g v =
          let held-before : k ≤ (decode before).header.held = rw before_decodes q.1 in
          sound-release before (header_for (slot_at (decode im).header.first k) s) words k before-sound g words_fit v held-before
          (ap (λ (c : Contents). slot_at c.header.first k) (sym before_decodes)) (fewer_held k q.0) once_after right_after

  -- the image stands for exactly that state
  pub put_state_lem : state_of (stored im slots f s) ≡ s
  put_state_lem = rw (put_decodes, kept_read s.kept, marks_read s.marks)

  -- and is in range
  pub put_range : InRange (decode (stored im slots f s))
  unfolding h first
  put_range = rw put_decodes (record { header = numbers_fit; labels = words_fit; ids = ids_fit })
