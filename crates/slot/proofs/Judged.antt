-- The answers of `bears` and `slot_ok`, by the tests that lead to each. Assumes nothing.
use Rattle.std.specs.Prelude.{Result, Ok, Err}
use Prim.Native.Nat.{ℕ, ◌+◌, ◌≤◌, ◌<◌}
use mathlib.Core.Bool.{Bool, true, false, not}
use mathlib.Core.List.{List}
use mathlib.Core.Path.{◌≡◌, refl, sym, ap, ◌∙◌}
use lib.Dec.{eqb}
use borrow.Author.Tests.{le-leb, lt-leb, eq-eqb, ne_eqb, not-true, not-false}
use Rattle.octets.specs.Be.{be_at}
use Rattle.octets.specs.Part.{part}
use Rattle.octets.specs.Pick.{both}
use Rattle.block.specs.Check.{check_at, sound}
use Rattle.block.specs.Zeros.{all_zero}
use Rattle.message.specs.declared.Kind.{Kind}
use Rattle.message.specs.declared.SubmissionError.{SubmissionError}
use Rattle.message.specs.Kinds.{kind_number, last_kind}
use Rattle.message.specs.Storable.{shortest, longest, bears}
use Rattle.message.specs.Submission.{submission_of}
use Rattle.slot.specs.declared.SlotFault.{SlotFault}
use Rattle.slot.specs.Fields.{slot_ok, Padded, slot_verdict}
use Rattle.slot.specs.Layout.{slot_length, slot_kind, slot_label, message_at, slot_message, slot_padding}

module _ (j : Result (Kind × ℕ) SubmissionError) (k : Kind) (l : ℕ) (ej : j ≡ Ok (k, l)) (n kind : ℕ) (en : n ≡ kind_number k) where
  pub bears_kind : (label : ℕ) → n ≡ kind → eqb l label ≡ bears j kind label
  bears_kind label e = simp (ej, ← en, eq-eqb n kind e)

  pub bears-other : (label : ℕ) → (n ≡ kind → ⊥) → eqb n kind ≡ bears j kind label
  bears-other label d = simp (ej, ← en, ne_eqb n kind d)

pub ruleset bearing = (bears_kind, bears-other)

-- ---- a slot whose length is out of range, or whose padding is not zero
module _ (b : List ℕ) {n : ℕ} (en : n ≡ slot_length b) where
  pub too_short : n < shortest → false ≡ slot_ok b
  unfolding slot_ok
  too_short h = simp (← en, lt-leb 8 n h)

  module _ (low : shortest ≤ n) where
    pub too_long : longest < n → false ≡ slot_ok b
    unfolding slot_ok
    too_long h = simp (← en, le-leb 8 n low, lt-leb n 480 h)

    module _ (high : n ≤ longest) {t : Bool} (et : t ≡ all_zero (part b (message_at + n) check_at)) where
      pub padding_set : not t ≡ true → false ≡ slot_ok b
      unfolding slot_ok slot_padding
      padding_set h = simp (← en, ← et, not-true t h, nothing)
        where
          nothing : (x : Bool) → both x false ≡ false
          nothing true = refl
          nothing false = refl

      pub padding_zero : not t ≡ false → all_zero (part b (message_at + n) check_at) ≡ true
      padding_zero h = sym et ∙ not-false t h

      pub padded : not t ≡ false → Padded b (message_at + n)
      unfolding slot_padding
      padded h = record {
        low = rw en at low;
        high = rw en at high;
        ends = ap (◌+◌ message_at) en;
        zeros = rw en at (padding_zero h);
      }

-- ---- the fields of one whose length and padding are right
module _ (b : List ℕ) (end : ℕ) (p : Padded b end) {k : ℕ} (ek : k ≡ slot_kind b) where
  pub no_kind : k < 1 → false ≡ slot_ok b
  unfolding slot_ok
  no_kind h = simp (le-leb _ _ p.low, le-leb _ _ p.high, ← ek, lt-leb 1 k h)

  module _ (some : 1 ≤ k) where
    pub high_kind : last_kind < k → false ≡ slot_ok b
    unfolding slot_ok
    high_kind h = simp (le-leb _ _ p.low, le-leb _ _ p.high, ← ek, le-leb 1 k some, lt-leb k last_kind h)

    module _ (kinds : k ≤ last_kind) {z : ℕ} (ez : z ≡ be_at 1 b 3) where
      pub spare_set : (z ≡ 0 → ⊥) → false ≡ slot_ok b
      unfolding slot_ok
      spare_set h = simp (le-leb _ _ p.low, le-leb _ _ p.high, ← ek, le-leb 1 k some, le-leb k last_kind kinds, ← ez, ne_eqb z 0 h)

      pub message_judged : z ≡ 0 → {l : ℕ} → l ≡ slot_label b → {j : Result (Kind × ℕ) SubmissionError} → j ≡ submission_of (part b message_at end)
          → {r : Bool} → r ≡ bears j k l → r ≡ slot_ok b
      unfolding slot_ok slot_message
      message_judged zero {l} el {j} ej er =
          let e : part b message_at end ≡ part b message_at (message_at + slot_length b) = ap (part b message_at) p.ends in
          er
          ∙ sym
          (simp (le-leb _ _ p.low, le-leb _ _ p.high, ← ek, le-leb 1 k some, le-leb k last_kind kinds, ← ez, eq-eqb z 0 zero, p.zeros, ← e, ← ej, ← el))

-- ---- the check first
module _ (b : List ℕ) {t : Bool} (et : t ≡ sound b) where
  pub wrong_sound : false ≡ slot_ok b → t ≡ true → (Err SlotFault.BadFields) ≡ slot_verdict b
  unfolding slot_verdict
  wrong_sound f h = simp (← et, h, ← f)

  pub wrong_check : t ≡ false → (Err SlotFault.BadCheck) ≡ slot_verdict b
  unfolding slot_verdict
  wrong_check h = simp (← et, h)

  pub slot_check : not t ≡ true → (Err SlotFault.BadCheck) ≡ slot_verdict b
  slot_check h = wrong_check (not-true t h)

  module _ (fine : not t ≡ false) {u : Bool} (eu : u ≡ slot_ok b) where
    pub slot_fields : not u ≡ true → (Err SlotFault.BadFields) ≡ slot_verdict b
    unfolding slot_verdict
    slot_fields h = simp (← et, not-false t fine, ← eu, not-true u h)

    pub slot_right : not u ≡ false → (Ok tt) ≡ slot_verdict b
    unfolding slot_verdict
    slot_right h = simp (← et, not-false t fine, ← eu, not-false u h)

pub ruleset judged = (too_short, too_long, padding_set, padding_zero, padded, no_kind, high_kind, spare_set, message_judged, wrong_sound, wrong_check, slot_check, slot_fields, slot_right)
