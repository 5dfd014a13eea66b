-- The blocks that restore looks at, and the clauses of `verdict` by the tests that lead to each answer. Assumes nothing.
use Rattle.std.specs.Prelude.{Result, Ok, Err}
use Prim.Native.Nat.{ℕ, zero, suc, ◌+◌, ◌-◌, ◌%◌, ◌≤◌, ◌<◌}
use mathlib.Core.Bool.{Bool, true, false, not}
use mathlib.Core.List.{List, [], ◌∷◌, ◌++◌}
use mathlib.Core.Logic.{◌≢◌, ⊎_elim}
use mathlib.Core.Path.{◌≡◌, refl, sym, ap, ◌∙◌}
use native.Mathlib.Omega.{arith}
use lib.Dec.{eqb}
use lib.ListN.{length, get_or, length-append, get_or-append}
use borrow.Author.Tests.{eq-eqb, ne_eqb, le-leb, lt-leb, not-true, not-false}
use Rattle.octets.specs.Pick.{pick, both}
use Rattle.octets.proofs.Choice.{pick_all, both_true, denied, below_or_not}
use Rattle.block.specs.Check.{sound}
use Rattle.label_list.specs.Find.{any}
use Rattle.label_list.specs.Word.{request_code}
use Rattle.label_list.proofs.Sought.{any_cons}
use Rattle.word_block.specs.Layout.{block_words, is_empty, rest_zero}
use Rattle.block0.specs.declared.Header.{Header}
use Rattle.block0.specs.declared.Version.{Version}
use Rattle.block0.specs.declared.Version.TheVariants.{Two}
use Rattle.block0.specs.Coded.{has_code}
use Rattle.block0.specs.Fields.{fields_by}
use Rattle.block0.specs.Layout.{slot_count, header_by, header_of, labels_by}
use Rattle.block0.proofs.Judged.{header_either}
use Rattle.fec_index.specs.Entries.{words_beside}
use Rattle.fec_index.proofs.Counted.{empty_right}
use Rattle.request_ids.specs.Fields.{ids_ok}
use Rattle.slot.specs.declared.SlotFault.{SlotFault}
use Rattle.slot.specs.Fields.{slot_ok, slot_verdict, slot_verdict_number}
use Rattle.image.specs.declared.ImageFault.{ImageFault}
use Rattle.image.specs.declared.Judgement.{Judgement}
use Rattle.image.specs.Ring.{ring}
use Rattle.image.specs.Sizes.{request_block, index_block, further, further_count, block_count, image_size, block, blocks_from, block_of, slot_at}
use Rattle.image.specs.State.{decode, NotLive}
use Rattle.image.specs.Verdict.{looked, further_ok, fields_right, bytes_judged, slot_judged, block_judged, fault_then, first_fault, verdict_by, verdict, verdict_number, verdict_block, judgement_number}
use Rattle.image.proofs.Cleared.{from_at}
use Rattle.image.proofs.Faults.{fault_same, fault_then_lem, verdict_then, fault_append, named_below}
use Rattle.image.proofs.Requests.{none_once}
use Rattle.image.proofs.Rings.{ring-length, ring-at}

-- ---- the blocks that are looked at
not-zeroth : (k : ℕ) → eqb (block_of k) 0 ≡ false
not-zeroth k = ne_eqb (block_of k) 0 (omega arith)

-- a slot's block is none of the further ones
not-further : (k : ℕ) → k < slot_count → (b n : ℕ) → slot_count < b → any (eqb (block_of k)) (blocks_from b n) ≡ false
unfolding any
not-further k room b zero past = refl
not-further k room b (suc n) past =
    any_cons (eqb (block_of k)) b (blocks_from (b + 1) n) (ne_eqb (block_of k) b (omega arith)) ∙ not-further k room (b + 1) n (omega arith)

-- what stands behind a list
pub behind : (xs ys : List ℕ) (k : ℕ) → get_or (xs ++ ys) (length xs + k) 0 ≡ get_or ys k 0
behind [] ys k = ap (λ (n : ℕ). get_or ys n 0) (omega arith)
behind (x ∷ xs) ys k =
    let e : suc (length xs) + k ≡ suc (length xs + k) = omega arith in
    rw e (behind xs ys k)

module _ (h : Header) where
  live : List ℕ
  live = ring block_of h.first h.held

  live-length : length live ≡ h.held
  unfolding live
  live-length = ring-length block_of h.first h.held

  pub looked-length : length (looked h) ≡ suc (h.held + further_count)
  unfolding live
  looked-length = ap suc (length-append live further ∙ ap (λ (n : ℕ). n + further_count) live-length)

  pub looked-slot : (i : ℕ) → i < h.held → get_or (looked h) (suc i) 0 ≡ block_of (slot_at h.first i)
  unfolding live
  looked-slot i l = get_or-append live further 0 i (rw live-length l) ∙ ring-at block_of 0 h.first h.held i l

  -- then the further ones
  pub looked-further : (k : ℕ) → k < further_count → get_or (looked h) (suc (h.held + k)) 0 ≡ request_block + k
  unfolding live
  looked-further k l =
      ap (λ (n : ℕ). get_or (live ++ further) (n + k) 0) (sym live-length) ∙ behind live further k ∙ from_at request_block further_count k l

  looked_below : (i : ℕ) → i < length (looked h) → get_or (looked h) i 0 < block_count
  looked_below zero l = omega arith
  looked_below (suc i) l =
      ⊎_elim
      (λ (before : i < h.held). rw (looked-slot i before) (omega arith))
      (λ (past : h.held ≤ i).
      let there : i ≡ h.held + (i - h.held) = omega arith in
      rw (there, looked-further (i - h.held) (omega (arith, looked-length))) (omega (arith, looked-length)))
      (below_or_not i h.held)

module _ (v : Version) (image : List ℕ) where
  -- none of these is idle
  live-judged : (b : ℕ) → any (eqb b) (looked (header_by v (block image 0))) ≡ true → block_judged v image b ≡ bytes_judged v image b
  unfolding block_judged
  live-judged b l = rw l

  pub looked-judged : first_fault (block_judged v image) (looked (header_by v (block image 0))) ≡ first_fault (bytes_judged v image) (looked (header_by v (block image 0)))
  looked-judged = fault_same (block_judged v image) (bytes_judged v image) (looked (header_by v (block image 0))) live-judged

  -- the block that restore's checks name is a block of the image
  pub named_block : verdict_block (verdict_by v image) < block_count
  unfolding verdict_by
  named_block =
      pick_all (λ v. verdict_block v < block_count) (not (eqb (length image) image_size)) (omega arith)
      (named_below (block_judged v image) (looked (header_by v (block image 0))) block_count (omega arith) (looked_below (header_by v (block image 0))))

pub verdict_below : (image : List ℕ) → verdict_block (verdict image) < block_count
verdict_below = named_block Two

-- a slot that is not live is idle
pub idle-judged : (image : List ℕ) (k : ℕ) → k < slot_count → NotLive image k → block_judged Two image (block_of k) ≡ Judgement.Idle
unfolding block_judged any decode ring
idle-judged image k room idle = rw (not-zeroth k, none (header_by Two (block image 0)).first (header_by Two (block image 0)).held idle)
  where
    none : (f n : ℕ) → ((i : ℕ) → i < n → slot_at f i ≢ k) → any (eqb (block_of k)) (ring block_of f n ++ further) ≡ false
    none f zero apart = not-further k room request_block further_count (omega arith)
    none f (suc n) apart =
        let e : f + 0 ≡ f = omega arith in
        let first : f % slot_count ≢ k = rw e at (apart 0 (omega arith)) in
        any_cons (eqb (block_of k)) (block_of (f % slot_count)) (ring block_of (f + 1) n ++ further) (ne_eqb (block_of k) (block_of (f % slot_count)) (λ same. first (omega arith)))
        ∙ none (f + 1) n (λ i l. let e : f + suc i ≡ f + 1 + i = omega arith in rw e at (apart (suc i) (omega arith)))

-- ---- the live slots, in a loop that has come to slot i
-- what is said of a slot's bytes
abbrev verdict_judged : Result Unit SlotFault → Judgement
verdict_judged (Ok tt) = Judgement.Good
verdict_judged (Err SlotFault.BadCheck) = Judgement.BadCheck
verdict_judged (Err SlotFault.BadFields) = Judgement.BadFields

pub slot_fields : (v : Version) (s : List ℕ) (k : ℕ) → k < slot_count → fields_right v s (block_of k) ≡ slot_ok (block s (block_of k))
slot_fields v s k room = rw (not-zeroth k, le-leb (block_of k) slot_count (omega arith))

pub further_fields : (v : Version) (s : List ℕ) (b : ℕ) → slot_count < b → fields_right v s b ≡ further_ok (labels_by v (block s 0)) b (block s b)
further_fields v s b past = rw (ne_eqb b 0 (omega arith), lt-leb b slot_count past)

slot-bytes : (v : Version) (s : List ℕ) (k : ℕ) → k < slot_count → bytes_judged v s (block_of k) ≡ slot_judged s (block_of k)
unfolding bytes_judged slot_judged
slot-bytes v s k room = rw (slot_fields v s k room)

slots-bytes : (v : Version) (s : List ℕ) (f n : ℕ) → first_fault (slot_judged s) (ring block_of f n) ≡ first_fault (bytes_judged v s) (ring block_of f n)
unfolding first_fault ring
slots-bytes v s f zero = refl
slots-bytes v s f (suc n) = rw (slot-bytes v s (f % slot_count) (omega arith), slots-bytes v s (f + 1) n)

slot-judged : (s : List ℕ) (b : ℕ) → slot_judged s b ≡ verdict_judged (slot_verdict (block s b))
unfolding slot_judged slot_verdict
slot-judged s b = by (sound (block s b)) (slot_ok (block s b))
  where
    by : (c f : Bool)
        → pick (not c) Judgement.BadCheck (pick (not f) Judgement.BadFields Judgement.Good)
        ≡ verdict_judged (pick (not c) (Err SlotFault.BadCheck) (pick (not f) (Err SlotFault.BadFields) (Ok tt)))
    by true true = refl
    by true false = refl
    by false f = refl

-- the numbers agree: of a slot's verdict and the judgement of its block, and of a judgement that is a fault and the image's verdict
pub slot-numbered : (v : Version) (s : List ℕ) (k : ℕ) → k < slot_count → judgement_number (bytes_judged v s (block_of k)) ≡ slot_verdict_number (slot_verdict (block s (block_of k)))
slot-numbered v s k room = rw (slot-bytes v s k room, slot-judged s (block_of k)) (by (slot_verdict (block s (block_of k))))
  where
    by : (j : Result Unit SlotFault) → judgement_number (verdict_judged j) ≡ slot_verdict_number j
    by (Ok tt) = refl
    by (Err SlotFault.BadCheck) = refl
    by (Err SlotFault.BadFields) = refl

pub fault_numbered : (j : Judgement) (b : ℕ) (rest : Result Unit ImageFault) → judgement_number j ≢ 0 → verdict_number (fault_then j b rest) ≡ judgement_number j
fault_numbered Judgement.Good b rest bad = absurd (bad refl)
fault_numbered Judgement.BadCheck b rest bad = refl
fault_numbered Judgement.BadFields b rest bad = refl
fault_numbered Judgement.Idle b rest bad = absurd (bad refl)

module _ (s : List ℕ) (f n : ℕ) where
  pub scan_start : first_fault (slot_judged s) (ring block_of (f + 0) (n - 0)) ≡ first_fault (slot_judged s) (ring block_of f n)
  scan_start =
      let e : f + 0 ≡ f = omega arith in
      let g : n - 0 ≡ n = omega arith in
      rw (e, g)

  module _ (i : ℕ) (all : Result Unit ImageFault) where
    pub scan_end : n ≤ i → first_fault (slot_judged s) (ring block_of (f + i) (n - i)) ≡ all → (Ok tt) ≡ all
    unfolding first_fault ring
    scan_end l inv =
        let none : n - i ≡ 0 = omega arith in
        rw none at inv

    module _ (left : i < n) (inv : first_fault (slot_judged s) (ring block_of (f + i) (n - i)) ≡ all)
        {b : List ℕ} (eb : b ≡ block s ((f + i) % slot_count + 1)) {v : Result Unit SlotFault} (ev : v ≡ slot_verdict b) where
      -- slot i, and then the rest
      turned : fault_then (verdict_judged v) ((f + i) % slot_count + 1) (first_fault (slot_judged s) (ring block_of (f + (i + 1)) (n - (i + 1)))) ≡ all
      unfolding first_fault ring
      turned =
          let more : n - i ≡ suc (n - (i + 1)) = omega arith in
          let next : f + i + 1 ≡ f + (i + 1) = omega arith in
          rw (ev, eb, ← slot-judged s ((f + i) % slot_count + 1)) (rw (more, next) at inv)

      pub scan_check : v ≡ Err SlotFault.BadCheck → (Err (ImageFault.BadBlock ((f + i) % slot_count + 1))) ≡ all
      scan_check h = rw h at turned

      pub scan_fields : v ≡ Err SlotFault.BadFields → (Err (ImageFault.BadField ((f + i) % slot_count + 1))) ≡ all
      scan_fields h = rw h at turned

      pub scan_next : v ≡ Ok tt → first_fault (slot_judged s) (ring block_of (f + (i + 1)) (n - (i + 1))) ≡ all
      scan_next h = rw h at turned

-- ---- block 65
both_yes : (t : Bool) → t ≡ both t true
both_yes true = refl
both_yes false = refl

-- where no word has a Request's code, zeros behind the IDs are enough
pub unasked : (v : Version) (z b : List ℕ) {t : Bool} → t ≡ any (has_code request_code) (labels_by v z) → not t ≡ true → {r : Bool} → r ≡ rest_zero b → r ≡ ids_ok (labels_by v z) b
unfolding ids_ok
unasked v z b et none er = er ∙ rw (none_once (labels_by v z) (denied et none) (block_words b)) (both_yes (rest_zero b))

-- ---- one of the further blocks
module _ (v : Version) (s : List ℕ) (n : ℕ) (past : slot_count < n) {b : List ℕ} (eb : b ≡ block s n) where
  one_judged : {t : Bool} → t ≡ sound b
      → pick (not t) (Err (ImageFault.BadBlock n)) (pick (not (further_ok (labels_by v (block s 0)) n (block s n))) (Err (ImageFault.BadField n)) (Ok tt)) ≡ fault_then (bytes_judged v s n) n (Ok tt)
  unfolding bytes_judged
  one_judged {t} et = rw (further_fields v s n past, ← eb, ← et) (by t (further_ok (labels_by v (block s 0)) n b))
    where
      by : (c f : Bool) → pick (not c) (Err (ImageFault.BadBlock n)) (pick (not f) (Err (ImageFault.BadField n)) (Ok tt)) ≡ fault_then (pick (not c) Judgement.BadCheck (pick (not f) Judgement.BadFields Judgement.Good)) n (Ok tt)
      by true true = refl
      by true false = refl
      by false f = refl

  module _ {t : Bool} (et : t ≡ sound b) where
    pub one_check : not t ≡ true → (Err (ImageFault.BadBlock n)) ≡ fault_then (bytes_judged v s n) n (Ok tt)
    one_check h = rw h at (one_judged et)

    module _ (fine : not t ≡ false) {u : Bool} (eu : u ≡ further_ok (labels_by v (block s 0)) n (block s n)) where
      pub one_fields : not u ≡ true → (Err (ImageFault.BadField n)) ≡ fault_then (bytes_judged v s n) n (Ok tt)
      one_fields h = rw (fine, ← eu, h) at (one_judged et)

      pub one_right : not u ≡ false → (Ok tt) ≡ fault_then (bytes_judged v s n) n (Ok tt)
      one_right h = rw (fine, ← eu, h) at (one_judged et)

  -- one of the index that is empty
  pub one_empty : request_block < n → {e : Bool} → e ≡ is_empty b → e ≡ true → (Ok tt) ≡ fault_then (bytes_judged v s n) n (Ok tt)
  unfolding is_empty
  one_empty index ee t =
      let empty : is_empty b ≡ true = sym ee ∙ t in
      let right : further_ok (labels_by v (block s 0)) n (block s n) ≡ true =
      rw (ne_eqb n request_block (omega arith), ← eb) (empty_right b empty (words_beside (n - index_block) (labels_by v (block s 0)))) in
      rw right at (one_judged (sym (both_true (sound b) _ empty).0))

-- ---- the further blocks, in a loop that has come to block b
module _ (v : Version) (s : List ℕ) (b : ℕ) {all : Result Unit ImageFault} (inv : first_fault (bytes_judged v s) (blocks_from b (block_count - b)) ≡ all) where
  pub further_end : block_count ≤ b → (Ok tt) ≡ all
  unfolding first_fault
  further_end past =
      let none : block_count - b ≡ 0 = omega arith in
      rw none at inv

  module _ (left : b < block_count) {r : Result Unit ImageFault} (er : r ≡ fault_then (bytes_judged v s b) b (Ok tt)) where
    -- block b, and then the rest
    further_turned : verdict_then r (first_fault (bytes_judged v s) (blocks_from (b + 1) (block_count - (b + 1)))) ≡ all
    unfolding first_fault
    further_turned =
        let more : block_count - b ≡ suc (block_count - (b + 1)) = omega arith in
        ap (λ (x : Result Unit ImageFault). verdict_then x (first_fault (bytes_judged v s) (blocks_from (b + 1) (block_count - (b + 1))))) er
        ∙ sym (fault_then_lem (bytes_judged v s b) b (Ok tt) (first_fault (bytes_judged v s) (blocks_from (b + 1) (block_count - (b + 1)))))
        ∙ (rw more at inv)

    pub further_fault : {fault : ImageFault} → r ≡ Err fault → (Err fault) ≡ all
    further_fault e = rw e at further_turned

    pub further-next : r ≡ Ok tt → first_fault (bytes_judged v s) (blocks_from (b + 1) (block_count - (b + 1))) ≡ all
    further-next e = rw e at further_turned

-- ---- restore's checks
module _ (v : Version) (s : List ℕ) where
  pub wrong_size : (length s ≡ image_size → ⊥) → (Err ImageFault.WrongSize) ≡ verdict_by v s
  unfolding verdict_by
  wrong_size h = simp (ne_eqb (length s) image_size h)

  module _ (size : length s ≡ image_size) where
    -- block 0, then the live slots, then the further blocks
    sized : fault_then (bytes_judged v s 0) 0
        (verdict_then (first_fault (bytes_judged v s) (ring block_of (header_by v (block s 0)).first (header_by v (block s 0)).held)) (first_fault (bytes_judged v s) further)) ≡ verdict_by v s
    unfolding verdict_by first_fault
    sized =
        simp (eq-eqb (length s) image_size size)
        (ap (fault_then (bytes_judged v s 0) 0) (sym (fault_append (bytes_judged v s) (ring block_of (header_by v (block s 0)).first (header_by v (block s 0)).held) further))
        ∙ sym (looked-judged v s))

    module _ {b : List ℕ} (eb : b ≡ block s 0) {t : Bool} (et : t ≡ sound b) where
      pub zeroth_check : not t ≡ true → (Err (ImageFault.BadBlock 0)) ≡ verdict_by v s
      unfolding bytes_judged
      zeroth_check h = simp (← eb, ← et, not-true t h) at sized

      module _ (fine : not t ≡ false) {u : Bool} (eu : u ≡ fields_by v b) where
        pub zeroth_fields : not u ≡ true → (Err (ImageFault.BadField 0)) ≡ verdict_by v s
        unfolding bytes_judged
        zeroth_fields h = simp (← eb, ← et, not-false t fine, ← eu, not-true u h) at sized

        module _ (hu : not u ≡ false) {h : Header} (eh : h ≡ header_of b) {f n : ℕ} (ef : f ≡ h.first) (en : n ≡ h.held)
            {r : Result Unit ImageFault} (er : r ≡ first_fault (slot_judged s) (ring block_of f n)) where
          slots-judged : verdict_then r (first_fault (bytes_judged v s) further) ≡ verdict_by v s
          unfolding bytes_judged
          slots-judged =
              ap (λ (x : Result Unit ImageFault). verdict_then x (first_fault (bytes_judged v s) further)) (er ∙ slots-bytes v s f n)
              ∙ (simp (← eb, ← et, not-false t fine, ← eu, not-false u hu, header_either v b, ← eh, ← ef, ← en) at sized)

          -- a fault of a slot is the verdict, else the further blocks decide
          pub slots-sound : r ≡ Ok tt → {q : Result Unit ImageFault} → q ≡ first_fault (bytes_judged v s) further → q ≡ verdict_by v s
          slots-sound e eq = eq ∙ (rw e at slots-judged)

          pub slots_fault : {fault : ImageFault} → r ≡ Err fault → (Err fault) ≡ verdict_by v s
          slots_fault e = rw e at slots-judged

-- a verdict whose number is 0
pub number-sound : (v : Result Unit ImageFault) → verdict_number v ≡ 0 → v ≡ Ok tt
number-sound (Ok tt) e = refl
number-sound (Err ImageFault.WrongSize) e = absurd (omega arith)
number-sound (Err (ImageFault.BadBlock b)) e = absurd (omega arith)
number-sound (Err (ImageFault.BadField b)) e = absurd (omega arith)

-- the image passes where the number that was answered is 0
pub number-passes : (s : List ℕ) {v : Result Unit ImageFault} {n : ℕ} → v ≡ verdict s → n ≡ verdict_number v → n ≡ 0 → verdict s ≡ Ok tt
number-passes s {v} e en z = sym e ∙ number-sound v (sym en ∙ z)
