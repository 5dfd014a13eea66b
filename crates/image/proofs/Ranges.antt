-- The numbers that an image of bytes holds have their widths, and so have valid label words. Assumes nothing.
use Prim.Native.Nat.{ℕ, ◌+◌, ◌*◌, ◌≤◌, ◌<◌}
use mathlib.Core.Bool.{true}
use mathlib.Core.List.{List}
use mathlib.Core.Logic.{⊎_elim}
use mathlib.Core.Path.{◌≡◌, ◌∙◌}
use native.Mathlib.Omega.{arith}
use lib.ListN.{length, get_or-eq_default, get_or}
use Rattle.octets.specs.Bytes.{Bytes}
use Rattle.octets.proofs.Be.{be_at-lt}
use Rattle.octets.proofs.Choice.{below_or_not, by_test}
use Rattle.octets.proofs.Part.{part-at, part_inside}
use Rattle.block.specs.Check.{block_size}
use Rattle.block.specs.Run.{Words}
use Rattle.block.proofs.WordRun.{length-words_at}
use Rattle.label_list.specs.Requests.{open_ids}
use Rattle.label_list.specs.Valid.{valid_of}
use Rattle.label_list.specs.Word.{word_count, is_request}
use Rattle.label_list.proofs.Counting.{counting-length, counting-at, counting_none}
use Rattle.label_list.proofs.OpenIds.{request_inside}
use Rattle.word_block.specs.Layout.{place_count, block_words}
use Rattle.word_block.proofs.Wide.{words-bytes}
use Rattle.word_block.proofs.Written.{length-words}
use Rattle.block0.specs.declared.Version.{Version}
use Rattle.block0.specs.declared.Version.TheVariants.{One, Two}
use Rattle.block0.specs.Fields.{timeout_end, FitsBy}
use Rattle.block0.specs.Layout.{labels_at, places, header_by, labels_by}
use Rattle.label_meaning.proofs.Meaning.{valid_means, valid_range}
use Rattle.image.specs.Sizes.{block, request_block}
use Rattle.image.specs.State.{decode, InRange, stored_ids}

pub bytes-block : (image : List ℕ) (b : ℕ) → Bytes image → Bytes (block image b)
bytes-block image b byte i =
    ⊎_elim
    (λ (l : i < length (block image b)).
    rw (part-at image (b * block_size) (b * block_size + block_size) i (part_inside image (b * block_size) (b * block_size + block_size) i l)) (byte (b * block_size + i)))
    (λ (l : length (block image b) ≤ i). rw (get_or-eq_default (block image b) 0 {n = i} l) (omega arith))
    (below_or_not i (length (block image b)))

timeout_bytes : (v : Version) (b : List ℕ) → Bytes b → (header_by v b).timeout < timeout_end v
unfolding header_by
timeout_bytes One b byte = be_at-lt 2 b 20 byte
timeout_bytes Two b byte = be_at-lt 4 b 28 byte

pub fits_bytes : (v : Version) (b : List ℕ) → Bytes b → FitsBy v (header_by v b)
unfolding header_by
fits_bytes v b byte = record {
  released = be_at-lt 4 b 4 byte;
  issued = be_at-lt 4 b 8 byte;
  secured = be_at-lt 4 b 12 byte;
  first = be_at-lt 2 b 16 byte;
  held = be_at-lt 2 b 18 byte;
  timeout = timeout_bytes v b byte;
  kept = be_at-lt 1 b 22 byte;
  marks = be_at-lt 1 b 23 byte;
  keepalive = be_at-lt 2 b 24 byte;
  maxpdu = be_at-lt 2 b 26 byte;
}

pub labels-bytes : (v : Version) (b : List ℕ) → Bytes b → Words (places v) (labels_by v b)
unfolding labels_by
labels-bytes v b byte = words-bytes (places v) b (labels_at v) byte

-- ---- the IDs that block 65 bears
pub stored-count : (image : List ℕ) → length (stored_ids image) ≡ place_count
unfolding stored_ids
stored-count image = length-words (block image request_block)

pub stored-words : (image : List ℕ) → Bytes image → Words place_count (stored_ids image)
unfolding stored_ids block_words
stored-words image byte = words-bytes place_count (block image request_block) 0 (bytes-block image request_block byte)

-- those that count
pub open_words : {k : ℕ} (ws xs : List ℕ) → length ws ≡ k → ((i : ℕ) → get_or xs i 0 < 4294967296) → Words k (open_ids ws xs)
open_words ws xs n each = record {
  count = counting-length 0 is_request ws xs ∙ n;
  each = λ i.
      by_test (is_request (get_or ws i 0))
      (λ t. rw (counting-at 0 is_request ws xs i t (request_inside ws i t)) (each i))
      (λ f. rw (counting_none 0 is_request ws xs i f) (omega arith));
}

-- ---- the numbers in an image of bytes have their widths
-- the label words of any image are as many as its version has
pub words_count : (v : Version) (b : List ℕ) → length (labels_by v b) ≡ places v
unfolding labels_by
words_count v b = length-words_at (places v) b (labels_at v)

pub labels-count : (image : List ℕ) → length (decode image).labels ≡ word_count
unfolding decode
labels-count image = words_count Two (block image 0)

pub bytes_in_range : (image : List ℕ) → Bytes image → InRange (decode image)
unfolding decode
bytes_in_range image byte = record {
  header = fits_bytes Two (block image 0) (bytes-block image 0 byte);
  labels = labels-bytes Two (block image 0) (bytes-block image 0 byte);
  ids = open_words (decode image).labels (stored_ids image) (labels-count image) (stored-words image byte).each;
}

-- valid label words have their width too
pub valid_words : (ls : List ℕ) → length ls ≡ word_count → valid_of ls ≡ true → Words word_count ls
valid_words ls n v = record { count = n; each = λ i. omega (arith, valid_range (valid_means ls v) i) }
