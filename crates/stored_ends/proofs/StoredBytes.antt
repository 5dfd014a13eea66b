-- What is stored in an image of bytes leaves it one of bytes. Assumes nothing.
use Rattle.std.specs.Prelude.{Result}
use Prim.Native.Nat.{ℕ, ◌-◌, ◌*◌, ◌%◌}
use mathlib.Core.List.{List, [], ◌∷◌, ◌++◌}
use native.Mathlib.Omega.{arith}
use lib.ListN.{drop, get_or, length, replicate, set}
use Rattle.octets.specs.Be.{bytes}
use Rattle.octets.specs.Bytes.{Bytes}
use Rattle.octets.proofs.Fill.{zeros_at}
use Rattle.block.specs.Check.{block_size, check_at, check_of, sealed}
use Rattle.block.specs.Run.{spelled, word_bytes}
use Rattle.label_list.specs.Word.{word_count}
use Rattle.word_block.specs.Layout.{block_words, word_block, place_count, words_end, no_words}
use Rattle.block0.specs.declared.Header.{Header}
use Rattle.block0.specs.declared.Version.TheVariants.{Two}
use Rattle.block0.specs.Layout.{block0, block_by, values, widths, released_header, no_labels}
use Rattle.fec_index.specs.Entries.{entry_count, pair_put}
use Rattle.message.specs.declared.Kind.{Kind}
use Rattle.message.specs.declared.SubmissionError.{SubmissionError}
use Rattle.message.specs.Storable.{kind_in, label_in}
use Rattle.message.specs.Submission.{submission_of}
use Rattle.slot.specs.Held.{slot_for}
use Rattle.slot.specs.Layout.{head_widths, message_at, slot_block}
use Rattle.image.specs.Events.{new_image}
use Rattle.image.specs.Sizes.{block, block_of, cleared, further, request_block, image_size, with_block}
use Rattle.image.specs.State.{decode, entry_block, store0, store_entry, store_slot, store_id, stored_ids}
use Rattle.protocol.specs.State.{State}
use Rattle.calls.specs.Storing.{Further, same, put_id, put-entry, Slots, empty, fewer, first_after, further_stored, header_for, next_slot, one_more, slot_stored, stay, stored}
use Rattle.two_ends.proofs.Octets.{append_each, laid_each, number_octets}

-- ---- numbers one after the other, and zeros
bytes-spelled : (ws vs : List ℕ) → Bytes (spelled ws vs)
unfolding spelled
bytes-spelled [] vs = λ i. omega arith
bytes-spelled (w ∷ ws) vs = append_each (bytes w (get_or vs 0 0)) (spelled ws (drop 1 vs)) (number_octets w (get_or vs 0 0)).each (bytes-spelled ws (drop 1 vs))

bytes_zeros : (n : ℕ) → Bytes (replicate n 0)
bytes_zeros n i = rw (zeros_at n i) (omega arith)

-- ---- the blocks
bytes-sealed : (body : List ℕ) → Bytes body → Bytes (sealed body)
unfolding sealed
bytes-sealed body byte = append_each body (bytes 4 (check_of body)) byte (number_octets 4 (check_of body)).each

bytes-block0 : (h : Header) (ls : List ℕ) → Bytes (block0 h ls)
unfolding block_by word_bytes
bytes-block0 h ls =
    bytes-sealed (spelled (widths Two) (values Two h) ++ spelled (replicate word_count 4) ls)
    (append_each (spelled (widths Two) (values Two h)) (spelled (replicate word_count 4) ls) (bytes-spelled (widths Two) (values Two h)) (bytes-spelled (replicate word_count 4) ls))

bytes-slot : (m : List ℕ) (kind label : ℕ) → Bytes m → Bytes (slot_block m kind label)
unfolding slot_block
bytes-slot m kind label letters =
    let vs : List ℕ = length m ∷ kind ∷ 0 ∷ label ∷ [] in
    let n : ℕ = check_at - message_at - length m in
    bytes-sealed (spelled head_widths vs ++ (m ++ replicate n 0))
    (append_each (spelled head_widths vs) (m ++ replicate n 0) (bytes-spelled head_widths vs) (append_each m (replicate n 0) letters (bytes_zeros n)))

-- ---- the image
pub bytes-store0 : (im : List ℕ) (h : Header) (ls : List ℕ) → Bytes im → Bytes (store0 im h ls)
unfolding store0
bytes-store0 im h ls byte = laid_each im 0 (block0 h ls) byte (bytes-block0 h ls)

pub bytes-store_slot : (im : List ℕ) (k : ℕ) (m : List ℕ) → Bytes im → Bytes m → Bytes (store_slot im k m)
unfolding store_slot slot_for
bytes-store_slot im k m byte letters =
    let j : (Result (Kind × ℕ) SubmissionError) = submission_of m in
    laid_each im (block_of k * block_size) (slot_block m (kind_in j) (label_in j)) byte (bytes-slot m (kind_in j) (label_in j) letters)

bytes-words : (words : List ℕ) → Bytes (word_block words)
unfolding word_block word_bytes
bytes-words words =
    bytes-sealed (spelled (replicate place_count 4) words ++ replicate (check_at - words_end) 0)
    (append_each (spelled (replicate place_count 4) words) (replicate (check_at - words_end) 0) (bytes-spelled (replicate place_count 4) words) (bytes_zeros (check_at - words_end)))

-- a new image
bytes-cleared : (im : List ℕ) (bs : List ℕ) → Bytes im → Bytes (cleared im bs)
bytes-cleared im [] byte = byte
bytes-cleared im (b ∷ bs) byte = bytes-cleared (with_block im b (word_block no_words)) bs (laid_each im (b * block_size) (word_block no_words) byte (bytes-words no_words))

pub bytes_new : Bytes new_image
unfolding new_image
bytes_new = bytes-store0 (cleared (replicate image_size 0) further) released_header no_labels (bytes-cleared (replicate image_size 0) further (bytes_zeros image_size))

bytes-further : (im : List ℕ) (f : Further) → Bytes im → Bytes (further_stored im f)
unfolding store_id store_entry
bytes-further im same byte = byte
bytes-further im (put_id place id) byte = laid_each im (request_block * block_size) _ byte (bytes-words (set (stored_ids im) place id.0))
bytes-further im (put-entry place entry) byte =
    laid_each im (entry_block place * block_size) _ byte (bytes-words (pair_put (block_words (block im (entry_block place))) (place % entry_count) entry))

abbrev pub SlotBytes : Slots → Type 0
SlotBytes stay = Unit {0}
SlotBytes empty = Unit {0}
SlotBytes (one_more m) = Bytes m
SlotBytes (fewer k) = Unit {0}

bytes-slotted : (im : List ℕ) (slots : Slots) → Bytes im → SlotBytes slots → Bytes (slot_stored im slots)
bytes-slotted im stay byte letters = byte
bytes-slotted im empty byte letters = byte
bytes-slotted im (one_more m) byte letters = bytes-store_slot im (next_slot (decode im).header) m byte letters
bytes-slotted im (fewer k) byte letters = byte

pub bytes-stored : (im : List ℕ) (slots : Slots) (f : Further) (s : State) → Bytes im → SlotBytes slots → Bytes (stored im slots f s)
bytes-stored im slots f s byte letters =
    bytes-store0 (further_stored (slot_stored im slots) f) (header_for (first_after (decode im).header slots) s) s.table.words
    (bytes-further (slot_stored im slots) f (bytes-slotted im slots byte letters))
