-- Blocks 66 and 67: the index of prefixes beside the label words. 02: "an index of IPv4 prefix and length beside the
-- label words, 60 places in each of two further blocks ..: 1, length, two zeros, prefix with zeros past its length;
-- zeros for other FECs and after the places. An entry is looked at only where the word lists a label". 60 entries of
-- eight bytes are 120 words of four.
use Rattle.std.specs.Prelude.{ℕ, ◌+◌, ◌*◌, ◌/◌, ◌%◌, Bool, true, List, [], ◌∷◌, ◌≡◌, eqb, leb, set}
use Rattle.octets.specs.Part.{part}
use Rattle.octets.specs.Pick.{pick, both}
use Rattle.block.specs.Check.{sound}
use Rattle.label_list.specs.Counting.{counting}
use Rattle.label_list.specs.Word.{lists_label}
use Rattle.tlv.specs.Element.{masked_to}
use Rattle.word_block.specs.Layout.{block_words, rest_zero}

-- the places of entries in a block
abbrev pub entry_count : ℕ
entry_count = 60

-- the numbers of 32 bits
abbrev pub word_span : ℕ
word_span = 4294967296

-- two words, one entry, the upper half first; a word without a second is none
unfoldable pub pair_joined : List ℕ → List ℕ
pair_joined [] = []
pair_joined (x ∷ []) = []
pair_joined (x ∷ y ∷ ws) = (x * word_span + y % word_span) ∷ pair_joined ws

-- the entries of a block, those that count and those that do not
unfoldable pub entries_of : List ℕ → List ℕ
entries_of b = pair_joined (block_words b)

-- the words with the entry at a place another
abbrev pub pair_put : List ℕ → ℕ → ℕ → List ℕ
pair_put ws place entry = set (set ws (place * 2) (entry / word_span)) (place * 2 + 1) (entry % word_span)

-- ---- the fields of an entry: zeros, or 1, the length, two zeros, and the prefix with zeros past its length
abbrev pub length_in : ℕ → ℕ
length_in entry = entry / word_span / 65536 % 256

unfoldable pub is_entry : ℕ → Bool
is_entry entry =
    both (eqb (entry / word_span / 16777216) 1)
    (both (leb (length_in entry) 32)
    (both (eqb (entry / word_span % 65536) 0) (eqb (masked_to (length_in entry) (entry % word_span)) (entry % word_span))))

unfoldable pub entry_ok : ℕ → Bool
entry_ok entry = pick (eqb entry 0) true (is_entry entry)

unfoldable pub all_entries : List ℕ → Bool
all_entries [] = true
all_entries (e ∷ es) = both (entry_ok e) (all_entries es)

-- the label words beside the places of the k-th block
abbrev pub words_beside : ℕ → List ℕ → List ℕ
words_beside k words = part words (k * entry_count) (k * entry_count + entry_count)

-- a block's fields beside these label words: zeros after the places, and each entry that counts is right
unfoldable pub entries_ok : List ℕ → List ℕ → Bool
entries_ok words b = both (rest_zero b) (all_entries (counting 0 lists_label words (entries_of b)))

-- a block that passes
pub record EntriesGood (words b : List ℕ) : Type 0 where
  pub check : sound b ≡ true
  pub fields : entries_ok words b ≡ true
