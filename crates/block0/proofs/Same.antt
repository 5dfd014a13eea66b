-- Block 0 written, in either version, without a look at every label word: with those that it has, with one of them changed, or with none left; and with its own numbers
-- too, it is the same. Assumes nothing.
use Prim.Native.Nat.{ℕ, ◌+◌, ◌*◌, ◌<◌}
use mathlib.Core.Bool.{true}
use mathlib.Core.List.{List, ◌++◌, append_assoc}
use mathlib.Core.Path.{◌≡◌, refl, sym, ap, ap₂, ◌∙◌}
use native.Mathlib.Omega.{arith}
use lib.ListN.{length, set, take, drop, replicate, length-append, take-append-drop}
use lib.Seq.{take-add, take_at}
use borrow.Author.Tests.{eqb-true}
use Rattle.octets.specs.Be.{be_at, bytes}
use Rattle.octets.specs.Bytes.{Bytes}
use Rattle.octets.specs.Laid.{laid}
use Rattle.octets.proofs.Fill.{length_zeros}
use Rattle.octets.proofs.Laid.{length-laid, laid_then, laid_front, take-laid, laid_behind, laid-before}
use Rattle.block.specs.Check.{block_size, check_at, sound, sealed}
use Rattle.block.specs.Run.{get_run, spelled, words_at, word_bytes}
use Rattle.block.proofs.Same.{spelled-get_run, words_same, sealed_same}
use Rattle.block.proofs.WordRun.{length-word_bytes, length-words_at, word_put, zero-words}
use Rattle.block0.specs.declared.Header.{Header}
use Rattle.block0.specs.declared.Version.{Version}
use Rattle.block0.specs.declared.Version.TheVariants.{One, Two}
use Rattle.block0.specs.Fields.{early_ok, fields_by}
use Rattle.block0.specs.Layout.{early_timeout, late_timeout, late_widths, widths, labels_at, places, values, header_by, labels_by, block_by, no_labels_by}
use Rattle.block0.proofs.Rules.{fields_version, fields_early}
use Rattle.block0.proofs.Written.{fields_end, words_end_lem, length_fields}

-- `n` is a block with the fields written
module _ (v : Version) (b : List ℕ) (long : length b ≡ block_size) (h : Header) {n : List ℕ} (e : n ≡ laid b 0 (spelled (widths v) (values v h))) where
  fields : List ℕ
  fields = spelled (widths v) (values v h)

  long_fields : length fields ≡ labels_at v
  unfolding fields
  long_fields = length_fields v h

  -- every label word is written
  words-put : (p : List ℕ) {z : List ℕ} → length p ≡ places v * 4 → z ≡ laid n (labels_at v) p → take check_at z ≡ fields ++ p
  unfolding fields
  words-put p {z} size ez =
      let body : List ℕ = spelled (widths v) (values v h) ++ p in
      let whole : length body ≡ check_at = length-append (spelled (widths v) (values v h)) p ∙ omega (arith, length_fields v h, words_end_lem v) in
      let put : z ≡ laid b 0 body = ez ∙ rw e (laid_then b 0 (spelled (widths v) (values v h)) p (labels_at v) (omega (arith, length_fields v h))) in
      ap (take check_at) put
      ∙ ap (λ (k : ℕ). take k (laid b 0 body)) (sym whole)
      ∙ take-laid b body (omega (arith, words_end_lem v))

  pub labels-put : (ls : List ℕ) {z x : List ℕ} → length ls ≡ places v → z ≡ laid n (labels_at v) (word_bytes (length ls) ls) → x ≡ sealed (take check_at z) → x ≡ block_by v h ls
  unfolding block_by fields
  labels-put ls count ez p =
      p ∙ ap sealed (words-put (word_bytes (places v) ls) (length-word_bytes (places v) ls) (ez ∙ ap (λ (k : ℕ). laid n (labels_at v) (word_bytes k ls)) count))

  -- no label word is left
  pub labels-cleared : {z x : List ℕ} → z ≡ laid n (labels_at v) (replicate (places v * 4) 0) → x ≡ sealed (take check_at z) → x ≡ block_by v h (no_labels_by v)
  unfolding block_by fields
  labels-cleared ez p =
      p ∙ ap sealed (words-put (replicate (places v * 4) 0) (length_zeros (places v * 4)) ez ∙ ap (λ (l : List ℕ). spelled (widths v) (values v h) ++ l) (sym (zero-words (places v))))

  -- ---- where the other label words stay
  module _ (byte : Bytes b) where
    words : List ℕ
    words = word_bytes (places v) (labels_by v b)

    long_words : length words ≡ places v * 4
    unfolding words
    long_words = length-word_bytes (places v) (labels_by v b)

    rest : List ℕ
    rest = drop (places v * 4) (drop (labels_at v) b)

    words_stay : n ≡ fields ++ (words ++ rest)
    unfolding fields words rest labels_by
    words_stay =
        e
        ∙ laid_front b (spelled (widths v) (values v h)) (omega (arith, length_fields v h, words_end_lem v))
        ∙ ap (λ (k : ℕ). spelled (widths v) (values v h) ++ drop k b) (length_fields v h)
        ∙ ap (λ (l : List ℕ). spelled (widths v) (values v h) ++ l)
        (sym (take-append-drop (places v * 4) (drop (labels_at v) b)) ∙ ap (λ (l : List ℕ). l ++ drop (places v * 4) (drop (labels_at v) b)) (sym (words_same (places v) b (labels_at v) byte (omega (arith, words_end_lem v)))))

    -- what stands before the check, whatever the bytes of the words are
    before_check : (p : List ℕ) → length p ≡ places v * 4 → take check_at (fields ++ (p ++ rest)) ≡ fields ++ p
    before_check p size =
        ap (take check_at) (sym (append_assoc fields p rest)) ∙ take_at (fields ++ p) rest check_at (length-append fields p ∙ omega (arith, long_fields, words_end_lem v))

    pub labels_kept : {x : List ℕ} → x ≡ sealed (take check_at n) → x ≡ block_by v h (labels_by v b)
    unfolding block_by fields words
    labels_kept p = p ∙ ap sealed (ap (take check_at) words_stay ∙ before_check words long_words)

    -- one label word is another
    pub label_put : (i w : ℕ) {o x : List ℕ} → i < places v → o ≡ laid n (labels_at v + i * 4) (bytes 4 w) → x ≡ sealed (take check_at o)
        → x ≡ block_by v h (set (labels_by v b) i w)
    unfolding block_by fields words labels_by
    label_put i w {o} l eo p =
        let there : labels_at v + i * 4 ≡ length fields + i * 4 = omega (arith, long_fields) in
        let one : laid (words ++ rest) (i * 4) (bytes 4 w) ≡ laid words (i * 4) (bytes 4 w) ++ rest =
        laid-before words rest (i * 4) (bytes 4 w) (omega (arith, long_words)) in
        let put : o ≡ fields ++ (laid words (i * 4) (bytes 4 w) ++ rest) =
        eo
        ∙ ap₂ (λ (s : List ℕ) (k : ℕ). laid s k (bytes 4 w)) words_stay there
        ∙ laid_behind fields (words ++ rest) (i * 4) (bytes 4 w)
        ∙ ap (λ (s : List ℕ). fields ++ s) one in
        let count : length (words_at (places v) b (labels_at v)) ≡ places v = length-words_at (places v) b (labels_at v) in
        p
        ∙ ap sealed
        (ap (take check_at) put
        ∙ before_check (laid words (i * 4) (bytes 4 w)) (length-laid words (i * 4) (bytes 4 w) ∙ long_words)
        ∙ ap (λ (s : List ℕ). fields ++ s) (sym (word_put (places v) (words_at (places v) b (labels_at v)) i w l (omega arith))))

-- ---- with its own numbers too
-- the version is the one that is written, and bytes 20 and 21 are zero where nothing is written there
early_same : (v : Version) (b : List ℕ) → early_ok v b ≡ true → early_timeout v (header_by v b).timeout ≡ be_at 2 b 20
unfolding header_by
early_same One b e = refl
early_same Two b e = sym (eqb-true (be_at 2 b 20) 0 e)

late_same : (v : Version) (b : List ℕ) → late_timeout v (header_by v b).timeout ≡ get_run (late_widths v) b 28
unfolding header_by
late_same One b = refl
late_same Two b = refl

values_same : (v : Version) (b : List ℕ) → fields_by v b ≡ true → values v (header_by v b) ≡ get_run (widths v) b 0
unfolding header_by
values_same v b f = rw (early_same v b (fields_early v b f), late_same v b, ← fields_version v b f)

pub block0_same : (v : Version) (b : List ℕ) → length b ≡ block_size → Bytes b → sound b ≡ true → fields_by v b ≡ true → block_by v (header_by v b) (labels_by v b) ≡ b
unfolding block_by labels_by
block0_same v b long byte s f =
    let fields : spelled (widths v) (values v (header_by v b)) ≡ take (labels_at v) b =
    ap (spelled (widths v)) (values_same v b f)
    ∙ spelled-get_run (widths v) b 0 byte (omega (arith, fields_end v, words_end_lem v))
    ∙ ap (λ (k : ℕ). take k b) (fields_end v) in
    ap sealed (ap₂ (λ (x y : List ℕ). x ++ y) fields (words_same (places v) b (labels_at v) byte (omega (arith, words_end_lem v))) ∙ sym (take-add (labels_at v) (places v * 4) b) ∙ ap (λ (k : ℕ). take k b) (words_end_lem v))
    ∙ sealed_same b long byte s
