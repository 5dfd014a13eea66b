-- The further block that a call tells, by what stood at its place before. Assumes nothing.
use Rattle.std.specs.Prelude.{Option, Some}
use Prim.Native.Nat.{ℕ, ◌-◌, ◌*◌, ◌%◌, ◌≤◌, ◌<◌}
use mathlib.Core.List.{List}
use mathlib.Core.Logic.{◌≢◌}
use mathlib.Core.Path.{◌≡◌, sym, ap, ◌∙◌}
use native.Mathlib.Omega.{arith}
use lib.Dec.{eqb}
use lib.ListN.{get_or, set}
use borrow.Author.Tests.{eq-eqb, eqb-true, eqb-false, ne_eqb}
use Rattle.octets.specs.Bytes.{Bytes}
use Rattle.octets.specs.Pick.{pick}
use Rattle.octets.proofs.Choice.{by_test}
use Rattle.octets.proofs.Differ.{differ_self}
use Rattle.ft_number.specs.declared.MessageId.{MessageId}
use Rattle.label_list.specs.Find.{FoundIn}
use Rattle.label_list.specs.Word.{word_count}
use Rattle.label_list.proofs.Reached.{found_place}
use Rattle.word_block.specs.Layout.{block_words, word_block}
use Rattle.fec_index.specs.Entries.{entry_count, word_span, pair_put}
use Rattle.image.specs.Sizes.{block, further_count, request_block}
use Rattle.image.specs.State.{decode, entry_block, stored_ids, stored_index}
use Rattle.image.specs.Verdict.{IsSound}
use Rattle.image.proofs.Entries.{entry-put}
use Rattle.image.proofs.EntrySame.{entry-changed, entry_same}
use Rattle.image.proofs.Ranges.{labels-count}
use Rattle.image.proofs.Same.{id-changed, id_same}
use Rattle.image.proofs.Stored.{id-put}
use Rattle.protocol.specs.State.{State}
use Rattle.calls.specs.Further.{bit_at, further_told}
use Rattle.calls.specs.Outcomes.{further_bits, is_other}
use Rattle.calls.specs.Storing.{Further, same, put_id, put-entry, Slots, further_stored, slot_stored, stored}
use Rattle.calls.proofs.FurtherBits.{bits_one}
use Rattle.calls.proofs.Slots.{HasPlace, SlotFits, earlier_blocks, further_high, further_low, further_block, other_blocks, slot-length, slot_low, slot_others}

-- what is put has its width, and a place
abbrev pub HasWidth : Further → Type 0
HasWidth same = Unit {0}
HasWidth (put_id place id) = (place < word_count) × (id.0 < 4294967296)
HasWidth (put-entry place entry) = (place < word_count) × (entry < word_span * word_span)

width_place : (f : Further) → HasWidth f → HasPlace f
width_place same w = tt
width_place (put_id place id) w = tt
width_place (put-entry place entry) w = w.0

module _ (im : List ℕ) (sound : IsSound im) (slots : Slots) (sf : SlotFits im slots) (s : State) where
  -- the further block is written over the image with the slot as over the image without it
  own_block : (f : Further) → HasPlace f → block (further_stored (slot_stored im slots) f) (further_block f) ≡ block (further_stored im f) (further_block f)
  unfolding stored_ids
  own_block same p = slot_others im sound.size slots sf request_block (omega (arith, slot_low im sound.size slots))
  own_block (put_id place id) p =
      let same65 : block (slot_stored im slots) request_block ≡ block im request_block = slot_others im sound.size slots sf request_block (omega (arith, slot_low im sound.size slots)) in
      id-put (slot_stored im slots) (slot-length im sound.size slots sf) place id
      ∙ ap (λ (b : List ℕ). word_block (set (block_words b) place id.0)) same65
      ∙ sym (id-put im sound.size place id)
  own_block (put-entry place entry) p =
      let there : block (slot_stored im slots) (entry_block place) ≡ block im (entry_block place) = slot_others im sound.size slots sf (entry_block place) (omega (arith, slot_low im sound.size slots)) in
      entry-put (slot_stored im slots) (slot-length im sound.size slots sf) place (omega arith) entry
      ∙ ap (λ (b : List ℕ). word_block (pair_put (block_words b) (place % entry_count) entry)) there
      ∙ sym (entry-put im sound.size place (omega arith) entry)

  -- whether it is another
  other_is : (f : Further) → Bytes im → HasWidth f → pick (is_other im (further_stored im f) (further_block f)) (bit_at (further_block f - request_block)) 0 ≡ further_told im f
  other_is same byte w = rw (differ_self (block im request_block))
  other_is (put_id place id) byte w =
      by_test (eqb (get_or (stored_ids im) place 0) id.0)
      (λ t. rw (t, id_same im place id sound byte (eqb-true (get_or (stored_ids im) place 0) id.0 t), differ_self (block im request_block)))
      (λ n. rw (n, ← id-changed im place id sound.size w.0 w.1 (eqb-false (get_or (stored_ids im) place 0) id.0 n)))
  other_is (put-entry place entry) byte w =
      by_test (eqb (get_or (stored_index im) place 0) entry)
      (λ t. rw (t, entry_same im place entry (omega (arith, w.0)) sound byte (eqb-true (get_or (stored_index im) place 0) entry t), differ_self (block im (entry_block place))))
      (λ n. rw (n, ← entry-changed im place entry (omega (arith, w.0)) sound.size w.1 (eqb-false (get_or (stored_index im) place 0) entry n)))

  -- told unless it stood there already
  pub further-told : (f : Further) → Bytes im → HasWidth f → further_bits im (stored im slots f s) ≡ further_told im f
  further-told f byte w =
      let p : HasPlace f = width_place f w in
      let c : ℕ = further_block f in
      let e : block (stored im slots f s) c ≡ block (further_stored im f) c =
      earlier_blocks im sound.size s slots f sf p c (omega (arith, further_high f)) ∙ own_block f p in
      bits_one (is_other im (stored im slots f s)) further_count request_block c (further_high f) (omega (arith, further_low f p))
      (λ k l apart.
      let slot = slot_low im sound.size slots in
      rw (other_blocks im sound.size s slots f sf p k (omega arith) apart (omega (arith, slot)), differ_self (block im k)))
      ∙ rw e (other_is f byte w)

-- ---- as the code tells it: by what was read at the place before
module _ (im : List ℕ) (place : ℕ) (id : MessageId) {before : ℕ} (eb : before ≡ get_or (stored_ids im) place 0) where
  pub id_stood : before ≡ id.0 → 0 ≡ further_told im (put_id place id)
  id_stood e = rw (← eb, eq-eqb before id.0 e)

  pub id_another : before ≢ id.0 → 1 ≡ further_told im (put_id place id)
  id_another n = rw (← eb, ne_eqb before id.0 n)

module _ (im : List ℕ) (place entry : ℕ) {before : ℕ} (eb : before ≡ get_or (stored_index im) place 0) where
  pub entry_stood : before ≡ entry → 0 ≡ further_told im (put-entry place entry)
  entry_stood e = rw (← eb, eq-eqb before entry e)

  pub entry_first : before ≢ entry → place < entry_count → 2 ≡ further_told im (put-entry place entry)
  entry_first n low = let one : entry_block place - request_block ≡ 1 = omega arith in rw (← eb, ne_eqb before entry n, one)

  pub entry_second : before ≢ entry → entry_count ≤ place → place < word_count → 4 ≡ further_told im (put-entry place entry)
  entry_second n high low = let two : entry_block place - request_block ≡ 2 = omega arith in rw (← eb, ne_eqb before entry n, two)

-- a place that was found among the image's words is one of them
pub found_place_in : (im : List ℕ) (f : Option ℕ) (i : ℕ) → FoundIn (decode im).labels f → f ≡ Some i → i < word_count
found_place_in im f i inside e = rw (labels-count im) at (found_place (decode im).labels f i inside e)
