-- Block 0's fields, in either version: the test and its clauses. Assumes nothing.
use Prim.Native.Nat.{ℕ, zero, suc, ◌+◌, ◌-◌, ◌*◌, ◌≤◌, ◌<◌}
use mathlib.Core.Bool.{true}
use mathlib.Core.List.{List, ◌∷◌}
use mathlib.Core.Logic.{⊎_elim}
use mathlib.Core.Path.{◌≡◌, refl, sym, ap, ◌∙◌}
use native.Mathlib.Nat.{eq-zero-or-pos}
use native.Mathlib.Omega.{arith}
use lib.Dec.{eqb}
use lib.ListN.{length, get_or, drop, replicate}
use borrow.Author.Tests.{eq-eqb, ne_eqb, eqb-true, ltb-true, leb-true, lt-ltb, le-leb}
use Rattle.octets.specs.Be.{be_at}
use Rattle.octets.specs.Part.{part}
use Rattle.octets.specs.Pick.{pick, both}
use Rattle.octets.proofs.Choice.{both_true, below_or_not}
use Rattle.octets.proofs.Part.{part-at, part_inside}
use Rattle.block.specs.Check.{check_at}
use Rattle.block.specs.Run.{get_run, Words}
use Rattle.block.specs.Zeros.{all_zero}
use Rattle.block.proofs.Run.{zeros_get_run, get_run_zeros}
use Rattle.block.proofs.WordRun.{zeros_words, words_zeros}
use Rattle.block.proofs.ZeroBytes.{zero-bytes, bytes-zero}
use Rattle.ft_number.specs.Circle.{steps_of}
use Rattle.label_list.specs.Valid.{valid_of, valid_word}
use Rattle.label_list.specs.Word.{is_free}
use Rattle.block0.specs.declared.Header.{Header}
use Rattle.block0.specs.declared.Version.{Version}
use Rattle.block0.specs.declared.Version.TheVariants.{One, Two}
use Rattle.block0.specs.Fields.{at_most, marks_ok, header_ok, early_ok, body_of, fields_by, FitsBy, ValidBy}
use Rattle.block0.specs.Layout.{version_number, labels_at, places, widths, values, from_values, header_by, labels_by, block_by, released_header, no_labels_by}
use Rattle.block0.proofs.Written.{fields_end, words_end_lem, length-block0, run-block0, header_block0, labels-block0}

-- ---- zeros
pub none_valid : (n : ℕ) → valid_of (replicate n 0) ≡ true
unfolding valid_of valid_word is_free
none_valid zero = refl
none_valid (suc n) = none_valid n

-- the fields behind the version
abbrev no_numbers : Version → List ℕ
no_numbers v = replicate (length (drop 1 (widths v))) 0

zero-values : (v : Version) (n : ℕ) → from_values v (n ∷ no_numbers v) ≡ released_header
zero-values One n = refl
zero-values Two n = refl

values-zero : (v : Version) → drop 1 (values v released_header) ≡ no_numbers v
values-zero One = refl
values-zero Two = refl

-- bytes 20 and 21 of what is written
early_written : (v : Version) (b : List ℕ) (h : Header) → get_run (widths v) b 0 ≡ values v h → early_ok v b ≡ true
early_written One b h run = refl
early_written Two b h run = eq-eqb (be_at 2 b 20) 0 (ap (λ (l : List ℕ). get_or l 6 0) run)

module _ (v : Version) (b : List ℕ) where
  -- no label stands in zeros
  free-labels : ((k : ℕ) → k < places v * 4 → get_or b (labels_at v + k) 0 ≡ 0) → labels_by v b ≡ no_labels_by v
  unfolding labels_by
  free-labels z = zeros_words (places v) b (labels_at v) z

  pub free-words : {start : ℕ} → start ≡ labels_at v → all_zero (part b start check_at) ≡ true → labels_by v b ≡ no_labels_by v
  free-words {start} es none =
      free-labels (λ k l. rw (← es) (sym (part-at b start check_at k (omega (arith, es, words_end_lem v))) ∙ zero-bytes (part b start check_at) none k))

  pub free_valid : {start : ℕ} → start ≡ labels_at v → all_zero (part b start check_at) ≡ true → valid_of (labels_by v b) ≡ true
  free_valid es none = ap valid_of (free-words es none) ∙ none_valid (places v)

  -- with kept 0
  module _ (none : all_zero (body_of b) ≡ true) where
    byte : (i : ℕ) → i < 504 → get_or b (4 + i) 0 ≡ 0
    byte i l = sym (part-at b 4 check_at i l) ∙ zero-bytes (body_of b) none i

    pub zero_header : header_by v b ≡ released_header
    unfolding header_by
    zero_header =
        ap (λ (l : List ℕ). from_values v (be_at 4 b 0 ∷ l)) (zeros_get_run (drop 1 (widths v)) b 4 (λ k l. byte k (omega (arith, fields_end v, words_end_lem v))))
        ∙ zero-values v (be_at 4 b 0)

    pub zero-labels : labels_by v b ≡ no_labels_by v
    zero-labels =
        free-labels (λ k l.
        let e : labels_at v + k ≡ 4 + (labels_at v + k - 4) = omega (arith, fields_end v) in
        rw e (byte (labels_at v + k - 4) (omega (arith, fields_end v, words_end_lem v))))

    pub zero_valid : valid_of (labels_by v b) ≡ true
    zero_valid = ap valid_of zero-labels ∙ none_valid (places v)

  -- and the other way round
  zero_body : length b ≡ 512 → get_run (drop 1 (widths v)) b 4 ≡ no_numbers v → labels_by v b ≡ no_labels_by v → all_zero (body_of b) ≡ true
  unfolding labels_by
  zero_body long numbers labels =
      bytes-zero (body_of b) (λ i hi.
      let l : i < 504 = part_inside b 4 check_at i hi in
      part-at b 4 check_at i l
      ∙ ⊎_elim
      (λ (low : 4 + i < labels_at v). get_run_zeros (drop 1 (widths v)) b 4 numbers i (omega (arith, fields_end v)))
      (λ (high : labels_at v ≤ 4 + i).
      let e : labels_at v + (4 + i - labels_at v) ≡ 4 + i = omega arith in
      rw e at (words_zeros (places v) b (labels_at v) labels (4 + i - labels_at v) (omega (arith, words_end_lem v))))
      (below_or_not (4 + i) (labels_at v)))

-- ---- the test and its clauses
pub header_parts : (h : Header) → header_ok h ≡ true → (h.first < 64) × (h.held ≤ 64) × (h.kept ≤ 1) × (marks_ok h.marks ≡ true) × (at_most h.held (steps_of h.released.0 h.issued.0) ≡ true)
unfolding header_ok
header_parts h e =
    let p = both_true _ _ e in
    let q = both_true _ _ p.1 in
    let r = both_true _ _ q.1 in
    let s = both_true _ _ r.1 in
    (ltb-true _ _ p.0, leb-true _ _ q.0, leb-true _ _ r.0, s.0, s.1)

module _ (v : Version) (b : List ℕ) (e : fields_by v b ≡ true) where
  pub fields_version : be_at 4 b 0 ≡ version_number v
  unfolding fields_by
  fields_version = eqb-true (be_at 4 b 0) (version_number v) (both_true (eqb (be_at 4 b 0) (version_number v)) _ e).0

  behind_version : both (early_ok v b) (both (header_ok (header_by v b)) (both (pick (eqb (header_by v b).kept 0) (all_zero (body_of b)) true) (valid_of (labels_by v b)))) ≡ true
  unfolding fields_by
  behind_version = (both_true (eqb (be_at 4 b 0) (version_number v)) _ e).1

  pub fields_early : early_ok v b ≡ true
  fields_early = (both_true (early_ok v b) _ behind_version).0

  -- right fields are the rules, clause by clause
  pub fields_valid : ValidBy v (header_by v b) (labels_by v b)
  fields_valid =
      let q = both_true (header_ok (header_by v b)) _ (both_true (early_ok v b) _ behind_version).1 in
      let r = both_true (pick (eqb (header_by v b).kept 0) (all_zero (body_of b)) true) _ q.1 in
      let h = header_parts (header_by v b) q.0 in
      record {
        first = h.0;
        held = h.1;
        kept = h.2;
        marks = h.3;
        window = h.4;
        labels = r.1;
        idle = λ k.
            let z : all_zero (body_of b) ≡ true = rw (eq-eqb _ _ k) at r.0 in
            (zero_header v b z, zero-labels v b z);
      }

pub parts_header : (v : Version) (h : Header) (ls : List ℕ) → ValidBy v h ls → header_ok h ≡ true
unfolding header_ok
parts_header v h ls r = simp (lt-ltb _ _ r.first, le-leb _ _ r.held, le-leb _ _ r.kept, r.marks, r.window)

-- block 0 as it was written has right fields
pub valid_fields : (v : Version) (h : Header) (ls : List ℕ) → FitsBy v h → Words (places v) ls → ValidBy v h ls → fields_by v (block_by v h ls) ≡ true
unfolding fields_by
valid_fields v h ls fh fl r =
    let t : List ℕ = block_by v h ls in
    let run : get_run (widths v) t 0 ≡ values v h = run-block0 v h ls fh fl in
    let version : be_at 4 t 0 ≡ version_number v = ap (λ (l : List ℕ). get_or l 0 0) run in
    let eh : header_by v t ≡ h = header_block0 v h ls fh fl in
    let el : labels_by v t ≡ ls = labels-block0 v h ls fh fl in
    let idle : pick (eqb h.kept 0) (all_zero (body_of t)) true ≡ true =
    ⊎_elim
    (λ (z : h.kept ≡ 0).
    let numbers : get_run (drop 1 (widths v)) t 4 ≡ no_numbers v = ap (drop 1) run ∙ ap (λ (x : Header). drop 1 (values v x)) (r.idle z).0 ∙ values-zero v in
    simp (eq-eqb _ _ z, zero_body v t (length-block0 v h ls) numbers (el ∙ (r.idle z).1)))
    (λ (p : 0 < h.kept). let apart : h.kept ≡ 0 → ⊥ = λ e. omega arith in simp (ne_eqb h.kept 0 apart))
    (eq-zero-or-pos h.kept) in
    simp (eq-eqb _ _ version, early_written v t h run, eh, parts_header v h ls r, idle, el, r.labels)
