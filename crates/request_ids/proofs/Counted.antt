-- Block 65 that was written, where only some IDs have their width: those are read back, so the ones that count are, and decide. Assumes nothing.
use Prim.Native.Nat.{ℕ, ◌≤◌, ◌<◌}
use mathlib.Core.Bool.{true}
use mathlib.Core.List.{List}
use mathlib.Core.Path.{◌≡◌, sym, ap, ◌∙◌}
use native.Mathlib.Omega.{arith}
use lib.ListN.{length, get_or}
use lib.Seq.{ext_get_or}
use Rattle.octets.proofs.Choice.{by_test}
use Rattle.label_list.specs.Requests.{open_ids, once_of}
use Rattle.label_list.specs.Word.{is_request}
use Rattle.label_list.proofs.Counting.{counting-length, counting-at, counting_none}
use Rattle.label_list.proofs.OpenIds.{request_inside, once_counting}
use Rattle.word_block.specs.Layout.{place_count, block_words, word_block}
use Rattle.word_block.proofs.Lent.{word_word_block}
use Rattle.word_block.proofs.Written.{word_block-sound, word_block-rest, length-words}
use Rattle.request_ids.specs.Fields.{IdsGood, ids_ok}

module _ (ids : List ℕ) (count : length ids ≡ place_count) where
  module _ (ls : List ℕ) (fits : (i : ℕ) → get_or (open_ids ls ids) i 0 < 4294967296) where
    -- so those that count are
    pub open_word_block : open_ids ls (block_words (word_block ids)) ≡ open_ids ls ids
    open_word_block =
        ext_get_or 0 (open_ids ls (block_words (word_block ids))) (open_ids ls ids)
        (counting-length 0 is_request ls (block_words (word_block ids)) ∙ sym (counting-length 0 is_request ls ids)) (λ i l.
        by_test (is_request (get_or ls i 0))
        (λ t.
        let inside : i < length ls = request_inside ls i t in
        let same : get_or (open_ids ls ids) i 0 ≡ get_or ids i 0 = counting-at 0 is_request ls ids i t inside in
        counting-at 0 is_request ls (block_words (word_block ids)) i t inside ∙ word_word_block ids count i (rw same at (fits i)) ∙ sym same)
        (λ f. counting_none 0 is_request ls (block_words (word_block ids)) i f ∙ sym (counting_none 0 is_request ls ids i f)))

    module _ (words : length ls ≤ place_count) where
      pub once_word_block : once_of ls (block_words (word_block ids)) ≡ once_of ls ids
      once_word_block =
          sym (once_counting ls (block_words (word_block ids)) (omega (arith, length-words (word_block ids))))
          ∙ ap (once_of ls) open_word_block
          ∙ once_counting ls ids (omega arith)

      pub word_block_good : once_of ls ids ≡ true → IdsGood ls (word_block ids)
      unfolding ids_ok
      word_block_good once = record { check = word_block-sound ids; fields = rw (word_block-rest ids) (once_word_block ∙ once) }
