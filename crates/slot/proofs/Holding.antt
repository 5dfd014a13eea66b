-- A slot with right fields, clause by clause. Assumes nothing.
use Rattle.std.specs.Prelude.{Result, Ok, Err}
use Prim.Native.Nat.{ℕ, ◌+◌, ◌≤◌, ◌<◌}
use mathlib.Core.Bool.{true}
use mathlib.Core.List.{List}
use mathlib.Core.Logic.{⊎_elim}
use mathlib.Core.Path.{◌≡◌, refl, sym, ◌∙◌}
use native.Mathlib.Omega.{arith}
use lib.Dec.{leb, eqb}
use lib.ListN.{length}
use borrow.Author.Tests.{leb-true, eqb-true, le-leb, eq-eqb}
use Rattle.octets.specs.Be.{be_at}
use Rattle.octets.proofs.Choice.{no, both_true, below_or_not}
use Rattle.octets.proofs.Part.{length_part}
use Rattle.block.specs.Check.{block_size, sound}
use Rattle.block.specs.Zeros.{all_zero}
use Rattle.tlv.specs.Tlv.{largest_label}
use Rattle.message.specs.declared.Kind.{Kind}
use Rattle.message.specs.declared.SubmissionError.{SubmissionError}
use Rattle.message.specs.Kinds.{kind_number, last_kind}
use Rattle.message.specs.Storable.{shortest, longest, bears, Storable, kind_in, label_in}
use Rattle.message.specs.Submission.{no_label, submission_of}
use Rattle.message.proofs.Laws.{accepted, whole_label}
use Rattle.slot.specs.Fields.{slot_ok}
use Rattle.slot.specs.Held.{slot_for}
use Rattle.slot.specs.Layout.{slot_length, slot_kind, slot_label, slot_message, slot_padding, slot_block}
use Rattle.slot.proofs.Written.{length-slot, slot-sound, slot-length, slot_kind_lem, slot_spare, slot_label_lem, message_slot, padding_slot}

-- the length lies within its range
pub low_length : (b : List ℕ) → slot_ok b ≡ true → shortest ≤ slot_length b
unfolding slot_ok
low_length b ok = leb-true _ _ (both_true (leb 8 (slot_length b)) _ ok).0

pub high_length : (b : List ℕ) → slot_ok b ≡ true → slot_length b ≤ longest
unfolding slot_ok
high_length b ok = leb-true _ _ (both_true (leb (slot_length b) 480) _ (both_true (leb 8 (slot_length b)) _ ok).1).0

pub length_message : (b : List ℕ) → length b ≡ block_size → slot_ok b ≡ true → length (slot_message b) ≡ slot_length b
unfolding slot_message
length_message b long ok =
    let high : slot_length b ≤ 480 = high_length b ok in
    length_part b 8 (8 + slot_length b) (omega arith) ∙ omega arith

-- what a slot with right fields holds: a message that Submit takes, with the slot's kind and label
pub record Holds (b : List ℕ) : Type 0 where
  pub kind : Kind
  pub label : ℕ
  pub accepted : submission_of (slot_message b) ≡ Ok (kind, label)
  pub kinded : kind_number kind ≡ slot_kind b
  pub labelled : label ≡ slot_label b

borne : (b : List ℕ) (j : Result (Kind × ℕ) SubmissionError) → submission_of (slot_message b) ≡ j → bears j (slot_kind b) (slot_label b) ≡ true → Holds b
borne b (Err SubmissionError.Malformed) e h = let z : ◌≡◌ {A = ℕ} 0 1 = cc in no z
borne b (Err SubmissionError.Refused) e h = let z : ◌≡◌ {A = ℕ} 0 1 = cc in no z
borne b (Ok (k, l)) e h =
    let p = both_true (eqb (kind_number k) (slot_kind b)) (eqb l (slot_label b)) h in
    record { kind = k; label = l; accepted = e; kinded = eqb-true _ _ p.0; labelled = eqb-true _ _ p.1 }

-- a slot with right fields holds a message that Submit takes
pub slot_holds : (b : List ℕ) → slot_ok b ≡ true → Holds b
unfolding slot_ok
slot_holds b ok =
    let p₁ = both_true (leb 8 (slot_length b)) _ ok in
    let p₂ = both_true (leb (slot_length b) 480) _ p₁.1 in
    let p₃ = both_true (leb 1 (slot_kind b)) _ p₂.1 in
    let p₄ = both_true (leb (slot_kind b) last_kind) _ p₃.1 in
    let p₅ = both_true (eqb (be_at 1 b 3) 0) _ p₄.1 in
    let p₆ = both_true (all_zero (slot_padding b)) _ p₅.1 in
    borne b (submission_of (slot_message b)) refl p₆.1

-- so the slot's kind and label are those of its message
pub holds_kind : (b : List ℕ) → slot_ok b ≡ true → slot_kind b ≡ kind_in (submission_of (slot_message b))
holds_kind b ok = let h = slot_holds b ok in rw h.accepted (sym h.kinded)

-- and so is its label
pub holds_label : (b : List ℕ) → slot_ok b ≡ true → slot_label b ≡ label_in (submission_of (slot_message b))
holds_label b ok = let h = slot_holds b ok in rw h.accepted (sym h.labelled)

-- the message of a slot with right fields may be held again
pub holds_storable : (b : List ℕ) → length b ≡ block_size → slot_ok b ≡ true → Storable (slot_message b)
holds_storable b long ok =
    let h = slot_holds b ok in
    let n : length (slot_message b) ≡ slot_length b = length_message b long ok in
    record {
      low = rw n (low_length b ok);
      short = rw n (high_length b ok);
      kind = h.kind;
      label = h.label;
      accepted = h.accepted;
    }

-- ---- the slot for a message
-- a label that Submit takes has 32 bits, and its kind is one of the six
label_small : (m : List ℕ) (k : Kind) (l : ℕ) → submission_of m ≡ Ok (k, l) → l < 4294967296
label_small m k l e =
    let a = accepted m k l e in
    ⊎_elim
    (λ (h : kind_number k < 4).
    let low : l ≤ largest_label = whole_label m a.message a.reading l (a.labelled.label (omega arith)) in
    omega arith)
    (λ (h : 4 ≤ kind_number k).
    let none : l ≡ no_label = a.labelled.none (omega arith) in
    omega arith)
    (below_or_not (kind_number k) 4)

module _ (m : List ℕ) (s : Storable m) where
  n : ℕ
  n = kind_number s.kind

  some : 1 ≤ n
  unfolding n
  some = (accepted m s.kind s.label s.accepted).labelled.some

  kinds : n ≤ last_kind
  unfolding n
  kinds = (accepted m s.kind s.label s.accepted).labelled.kinds

  fk : n < 256
  fk = omega (arith, kinds)

  fl : s.label < 4294967296
  fl = label_small m s.kind s.label s.accepted

  is_slot : slot_for m ≡ slot_block m n s.label
  unfolding slot_for n
  is_slot = rw s.accepted

  pub length-slot_for : length (slot_for m) ≡ block_size
  length-slot_for = rw is_slot (length-slot m n s.label s.short)

  -- a slot that was written has its check
  pub slot_for-sound : sound (slot_for m) ≡ true
  slot_for-sound = rw is_slot (slot-sound m n s.label s.short)

  -- what was stored is held
  pub slot_for_message : slot_message (slot_for m) ≡ m
  slot_for_message = rw is_slot (message_slot m n s.label s.short fk fl)

  -- its fields are right
  pub slot_for_ok : slot_ok (slot_for m) ≡ true
  unfolding slot_ok n
  slot_for_ok =
      rw is_slot
      (simp (
        slot-length m n s.label s.short fk fl,
        le-leb _ _ s.low,
        le-leb _ _ s.short,
        slot_kind_lem m n s.label s.short fk fl,
        le-leb _ _ some,
        le-leb _ _ kinds,
        eq-eqb _ _ (slot_spare m n s.label s.short fk fl),
        padding_slot m n s.label s.short fk fl,
        message_slot m n s.label s.short fk fl,
        s.accepted,
        slot_label_lem m n s.label s.short fk fl,
        eq-eqb n n refl,
        eq-eqb s.label s.label refl,
      ))
