-- "Fields: the ranges above; R to I no longer than held, and I not zero unless R is; label words by the rules below."
-- "With kept 0, bytes 4 to 507 are zero."
use Rattle.std.specs.Prelude.{Option, Some, None, ℕ, ◌%◌, ◌≤◌, ◌<◌, Bool, true, false, List, ◌≡◌, leb, ltb, eqb}
use Rattle.octets.specs.Be.{be_at}
use Rattle.octets.specs.Part.{part}
use Rattle.octets.specs.Pick.{pick, both}
use Rattle.block.specs.Check.{check_at}
use Rattle.block.specs.Zeros.{all_zero}
use Rattle.ft_number.specs.Circle.{steps_of}
use Rattle.label_list.specs.Valid.{valid_of}
use Rattle.block0.specs.declared.Header.{Header}
use Rattle.block0.specs.declared.Version.{Version}
use Rattle.block0.specs.declared.Version.TheVariants.{One, Two}
use Rattle.block0.specs.Layout.{slot_count, version_number, header_by, labels_by, released_header, no_labels_by}

-- no more than n steps; where nothing leads from R to I, I is zero and R is not
abbrev pub at_most : ℕ → Option ℕ → Bool
at_most n (Some k) = leb k n
at_most n None = false

-- byte 23 bears 2 and 4, each or none, and no other bit
unfoldable pub marks_ok : ℕ → Bool
marks_ok marks = both (ltb marks 8) (eqb (marks % 2) 0)

unfoldable pub header_ok : Header → Bool
header_ok h =
    both (ltb h.first slot_count)
    (both (leb h.held slot_count) (both (leb h.kept 1) (both (marks_ok h.marks) (at_most h.held (steps_of h.released.0 h.issued.0)))))

-- 02: "(20 and 21 zero)" in version 2; in version 1 any two bytes are a timeout
abbrev pub early_ok : Version → List ℕ → Bool
early_ok One b = true
early_ok Two b = eqb (be_at 2 b 20) 0

-- the bytes that are zero with kept 0
abbrev pub body_of : List ℕ → List ℕ
body_of b = part b 4 check_at

unfoldable pub fields_by : Version → List ℕ → Bool
fields_by v b =
    both (eqb (be_at 4 b 0) (version_number v))
    (both (early_ok v b)
    (both (header_ok (header_by v b)) (both (pick (eqb (header_by v b).kept 0) (all_zero (body_of b)) true) (valid_of (labels_by v b)))))

-- ---- each number has its width
-- the timeout's: seconds in 16 bits, milliseconds in 32
abbrev pub timeout_end : Version → ℕ
timeout_end One = 65536
timeout_end Two = 4294967296

pub record FitsBy (v : Version) (h : Header) : Type 0 where
  pub released : h.released.0 < 4294967296
  pub issued : h.issued.0 < 4294967296
  pub secured : h.secured.0 < 4294967296
  pub first : h.first < 65536
  pub held : h.held < 65536
  pub timeout : h.timeout < timeout_end v
  pub kept : h.kept < 256
  pub marks : h.marks < 256
  pub keepalive : h.keepalive < 65536
  pub maxpdu : h.maxpdu < 65536

-- ---- the rules of block 0's fields, clause by clause
pub record ValidBy (v : Version) (h : Header) (ls : List ℕ) : Type 0 where
  pub first : h.first < slot_count
  pub held : h.held ≤ slot_count
  pub kept : h.kept ≤ 1
  pub marks : marks_ok h.marks ≡ true
  pub window : at_most h.held (steps_of h.released.0 h.issued.0) ≡ true
  pub labels : valid_of ls ≡ true
  pub idle : h.kept ≡ 0 → (h ≡ released_header) × (ls ≡ no_labels_by v)

-- ---- version 2
abbrev pub fields_ok : List ℕ → Bool
fields_ok b = fields_by Two b

abbrev pub Fits : Header → Type 0
Fits h = FitsBy Two h

abbrev pub Valid : Header → List ℕ → Type 0
Valid h ls = ValidBy Two h ls
