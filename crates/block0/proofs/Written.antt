-- Block 0 that was written, in either version: it is sound, and is read back. Assumes nothing.
use Prim.Native.Nat.{ℕ, ◌+◌, ◌*◌, ◌^◌, ◌/◌, ◌%◌, ◌<◌}
use mathlib.Core.Bool.{true}
use mathlib.Core.List.{List, [], ◌∷◌, ◌++◌, append_assoc}
use mathlib.Core.Path.{◌≡◌, refl, sym, ap, ap₂, ◌∙◌}
use native.Mathlib.Omega.{arith}
use lib.ListN.{length, length-append}
use Rattle.octets.specs.Be.{bytes}
use Rattle.octets.specs.Laid.{laid}
use Rattle.octets.proofs.Laid.{laid_then}
use Rattle.block.specs.Check.{block_size, check_at, check_of, sealed, sound}
use Rattle.block.specs.Run.{get_run, spelled, run_size, words_at, word_bytes, Words}
use Rattle.block.proofs.Run.{Fit, none, one, length-spelled, get_run-spelled}
use Rattle.block.proofs.Sealed.{length-sealed, sealed-sound}
use Rattle.block.proofs.WordRun.{length-word_bytes, words-spelled}
use Rattle.block0.specs.declared.Header.{Header}
use Rattle.block0.specs.declared.Version.{Version}
use Rattle.block0.specs.declared.Version.TheVariants.{One, Two}
use Rattle.block0.specs.Fields.{timeout_end, FitsBy}
use Rattle.block0.specs.Layout.{version_number, early_timeout, late_timeout, number_widths, number_values, rest_widths, rest_values, late_widths, labels_at, places, widths, values, from_values, header_by, labels_by, block_by}

-- ---- either version
-- the label words stand between the fields and the check
pub fields_end : (v : Version) → run_size (widths v) ≡ labels_at v
fields_end One = refl
fields_end Two = refl

pub words_end_lem : (v : Version) → labels_at v + places v * 4 ≡ check_at
words_end_lem One = refl
words_end_lem Two = refl

-- what is written is what is read
from_values_lem : (v : Version) (h : Header) → from_values v (values v h) ≡ h
from_values_lem One h = refl
from_values_lem Two h = refl

-- each number has its width
number_fits : (v : Version) → version_number v < 256 ^ 4
number_fits One = omega arith
number_fits Two = omega arith

early_fits : (v : Version) (timeout : ℕ) → timeout < timeout_end v → early_timeout v timeout < 65536
early_fits One timeout l = l
early_fits Two timeout l = omega arith

late_fits : (v : Version) (timeout : ℕ) → timeout < timeout_end v → Fit (late_widths v) (late_timeout v timeout)
late_fits One timeout l = none
late_fits Two timeout l = one l none

fits : (v : Version) (h : Header) → FitsBy v h → Fit (widths v) (values v h)
fits v h f =
    one (number_fits v) (one f.released (one f.issued (one f.secured (one f.first (one f.held (one (early_fits v h.timeout f.timeout) (one f.kept (one f.marks (one f.keepalive (one f.maxpdu (late_fits v h.timeout f.timeout)))))))))))

-- ---- the bytes of the fields
pub length_fields : (v : Version) (h : Header) → length (spelled (widths v) (values v h)) ≡ labels_at v
length_fields v h = length-spelled (widths v) (values v h) ∙ fields_end v

-- two bytes bear the low 16 bits
low_bytes : (n : ℕ) → bytes 2 (n % 65536) ≡ bytes 2 n
low_bytes n =
    let a : n % 65536 / 256 % 256 ≡ n / 256 % 256 = omega arith in
    let b : n % 65536 % 256 ≡ n % 256 = omega arith in
    rw (a, b)

-- they are stored in three runs
pub fields_put : (v : Version) (b : List ℕ) (h : Header) {in20 : ℕ} {n m x : List ℕ} → in20 ≡ early_timeout v h.timeout % 65536
    → n ≡ laid b 0 (spelled number_widths (number_values v h)) → m ≡ laid n 16 (spelled rest_widths (rest_values h in20))
    → x ≡ laid m 28 (spelled (late_widths v) (late_timeout v h.timeout)) → x ≡ laid b 0 (spelled (widths v) (values v h))
unfolding spelled
fields_put v b h {in20} e e₁ e₂ e₃ =
    let p : List ℕ = spelled number_widths (number_values v h) in
    let q : List ℕ = spelled rest_widths (rest_values h (early_timeout v h.timeout)) in
    let behind : List ℕ = spelled (1 ∷ 1 ∷ 2 ∷ 2 ∷ []) (h.kept ∷ h.marks ∷ h.keepalive ∷ h.maxpdu ∷ []) in
    let low : spelled rest_widths (rest_values h in20) ≡ q =
    ap (λ (l : List ℕ). bytes 2 h.first ++ (bytes 2 h.held ++ (l ++ behind))) (ap (bytes 2) e ∙ low_bytes (early_timeout v h.timeout)) in
    e₃ ∙ rw (e₂, low, e₁, laid_then b 0 p q 16 refl) (laid_then b 0 (p ++ q) (spelled (late_widths v) (late_timeout v h.timeout)) 28 refl)

-- the bytes before the check
pub length_body : (v : Version) (h : Header) (ls : List ℕ) → length (spelled (widths v) (values v h) ++ word_bytes (places v) ls) ≡ check_at
length_body v h ls =
    length-append (spelled (widths v) (values v h)) (word_bytes (places v) ls)
    ∙ ap₂ (λ (x y : ℕ). x + y) (length_fields v h) (length-word_bytes (places v) ls)
    ∙ words_end_lem v

-- ---- whatever is written, it is whole and has its check
module _ (v : Version) (h : Header) (ls : List ℕ) where
  fields : List ℕ
  fields = spelled (widths v) (values v h)

  words : List ℕ
  words = word_bytes (places v) ls

  check : List ℕ
  check = bytes 4 (check_of (fields ++ words))

  in_parts : block_by v h ls ≡ fields ++ (words ++ check)
  unfolding block_by sealed fields words check
  in_parts = append_assoc fields words check

  pub length-block0 : length (block_by v h ls) ≡ block_size
  unfolding block_by
  length-block0 = length-sealed (spelled (widths v) (values v h) ++ word_bytes (places v) ls) (length_body v h ls)

  -- a block 0 that was written has its check
  pub block0-sound : sound (block_by v h ls) ≡ true
  unfolding block_by
  block0-sound = sealed-sound (spelled (widths v) (values v h) ++ word_bytes (places v) ls) (length_body v h ls)

  -- with each number in its width it is read back
  module _ (fh : FitsBy v h) (fl : Words (places v) ls) where
    -- the fields, one after the other
    pub run-block0 : get_run (widths v) (block_by v h ls) 0 ≡ values v h
    unfolding fields
    run-block0 =
        ap (λ (b : List ℕ). get_run (widths v) b 0) in_parts ∙ get_run-spelled (widths v) (values v h) [] (words ++ check) 0 refl (fits v h fh)

    -- the numbers that were written are read back, where each has its width
    pub header_block0 : header_by v (block_by v h ls) ≡ h
    unfolding header_by
    header_block0 = ap (from_values v) run-block0 ∙ from_values_lem v h

    -- so are the label words
    pub labels-block0 : labels_by v (block_by v h ls) ≡ ls
    unfolding labels_by fields words
    labels-block0 =
        ap (λ (b : List ℕ). words_at (places v) b (labels_at v)) in_parts ∙ words-spelled (places v) ls fields check (labels_at v) (sym (length_fields v h)) fl
