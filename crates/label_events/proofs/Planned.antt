-- The ways through the definitions of a change, of a message accepted, acknowledged and received. Assumes nothing.
use Rattle.std.specs.Prelude.{Option, Some, None}
use Prim.Native.Nat.{ℕ, ◌≤◌, ◌<◌}
use mathlib.Core.Bool.{Bool, true, false, not}
use mathlib.Core.List.{List}
use mathlib.Core.Logic.{◌≢◌}
use mathlib.Core.Path.{◌≡◌, refl, sym, ◌∙◌}
use native.Mathlib.Omega.{arith}
use lib.ListN.{get_or, set}
use borrow.Author.Tests.{eq-eqb, ne_eqb}
use Rattle.octets.proofs.Choice.{by_test, pick_all}
use Rattle.label_list.specs.declared.LabelMessage.{LabelMessage}
use Rattle.label_list.specs.declared.Protection.{Protection}
use Rattle.label_list.specs.declared.Side.{Side}
use Rattle.label_list.specs.Find.{find_of, FoundIn}
use Rattle.label_list.specs.Protection.{code_protection}
use Rattle.label_list.specs.Rules.{sent_side, received_side, code_accepted, code_acked, code_received}
use Rattle.label_list.specs.Word.{label_count, code_of, word_of, is_free, listable, stands_for}
use Rattle.label_list.proofs.Reached.{found_in_lem, found_passes}
use Rattle.label_list.proofs.Standing.{within_in, within_below, within_above, stands_parts}
use Rattle.label_events.specs.declared.Acceptance.{Acceptance}
use Rattle.label_events.specs.declared.Acceptance.TheVariants.{NotAllowed}
use Rattle.label_events.specs.declared.Change.{Change}
use Rattle.label_events.specs.declared.Change.TheVariants.{Keep, Put, NoRoom}
use Rattle.label_events.specs.declared.Touched.{Touched}
use Rattle.label_events.specs.Accept.{plan_by, plan_of, acceptance_of, accepted_of, plan_change, accepted_by}
use Rattle.label_events.specs.Ack.{acked_at, acked_of}
use Rattle.label_events.specs.Change.{ChangeIn, code_in, code_at, take_free, change_at, move_to, placed_at, changed}
use Rattle.label_events.specs.Protect.{protection_of, protection_beside}
use Rattle.label_events.specs.Receive.{received_place, moves_by, received_change}
use Rattle.label_events.proofs.Written.{change_of_in}

-- A change, by what the two searches found.
module _ (label code : ℕ) (f g : Option ℕ) where
  pub change_found : {w : ℕ} (i : ℕ) → w ≡ word_of label code → f ≡ Some i → Put i w ≡ change_at f g label code
  unfolding change_at
  change_found i e p = rw (p, e)

  module _ (p : f ≡ None) where
    pub change_none : code ≡ 0 → Keep ≡ change_at f g label code
    unfolding change_at
    change_none z = rw (p, eq-eqb code 0 z)

    module _ (z : code ≢ 0) where
      pub change-taken : {x : Change} {w : ℕ} {h : Option ℕ} → w ≡ word_of label code → h ≡ g → x ≡ take_free h w → x ≡ change_at f g label code
      unfolding change_at
      change-taken e r q = q ∙ rw (p, ne_eqb code 0 z, e, r)

      pub change-free : {w : ℕ} {h : Option ℕ} (i : ℕ) → w ≡ word_of label code → h ≡ g → h ≡ Some i → Put i w ≡ change_at f g label code
      unfolding change_at
      change-free i e q r = rw (p, ne_eqb code 0 z, ← q, r, e)

      pub change-full : {h : Option ℕ} → h ≡ g → h ≡ None → NoRoom ≡ change_at f g label code
      unfolding change_at
      change-full q r = rw (p, ne_eqb code 0 z, ← q, r)

listable_yes : (label : ℕ) → 16 ≤ label → label < label_count → listable label ≡ true
listable_yes label l h = sym (within_in 16 1048575 label l (omega arith))

listable_low : (label : ℕ) → label < 16 → listable label ≡ false
listable_low label h = sym (within_below 16 1048575 label h)

listable_high : (label : ℕ) → label_count ≤ label → listable label ≡ false
listable_high label h = sym (within_above 16 1048575 label (omega arith) (omega arith))

-- A plan writes inside the list; so does the change told of it, which makes the list afterwards.
abbrev pub PlanIn : List ℕ → Option Change → Type 0
PlanIn words (Some change) = ChangeIn words change
PlanIn words None = Unit {0}

pub told : (words : List ℕ) (p : Option Change) → PlanIn words p → ((accepted_by words p).1 ≡ changed words (plan_change p)) × ChangeIn words (plan_change p)
unfolding changed
told words (Some change) h = (refl, h)
told words None h = (refl, tt)

-- A message of ours: its plan, and what becomes of it.
module _ (words : List ℕ) (message : LabelMessage) (label : ℕ) where
  pub plan_low : label < 16 → None ≡ plan_of words message label
  unfolding plan_of
  plan_low h = rw (listable_low label h)

  pub plan_high : label_count ≤ label → None ≡ plan_of words message label
  unfolding plan_of
  plan_high h = rw (listable_high label h)

  module _ (low : 16 ≤ label) (high : label < label_count) {s : Side} {f : Option ℕ} {c : ℕ} {n : Option ℕ}
      (es : s ≡ sent_side message) (ef : f ≡ find_of (stands_for s label) words) (ec : c ≡ code_in words f) (en : n ≡ code_accepted message c) where
    plan_is : plan_by n words s label ≡ plan_of words message label
    unfolding plan_of
    plan_is = rw (listable_yes label low high, en, ec, ef, es)

    pub plan_allowed : {code : ℕ} {change : Change} → n ≡ Some code → change ≡ change_at f (find_of is_free words) label code → Some change ≡ plan_of words message label
    plan_allowed e ex = rw (ex, ef) (rw e at plan_is)

    pub plan_refused : n ≡ None → None ≡ plan_of words message label
    plan_refused e = rw e at plan_is

  by_in : (n : Option ℕ) (s : Side) → PlanIn words (plan_by n words s label)
  by_in (Some code) s = change_of_in words s label code
  by_in None s = tt

  plan_inside : PlanIn words (plan_of words message label)
  unfolding plan_of
  plan_inside = pick_all (PlanIn words) (not (listable label)) tt (by_in (code_accepted message (code_at words (sent_side message) label)) (sent_side message))

  pub plan_in : {p : Option Change} {change : Change} → p ≡ plan_of words message label → p ≡ Some change → ChangeIn words change
  plan_in {p} {change} e g = let inside : PlanIn words p = rw e plan_inside in rw g at inside

  -- the answer, the change told and the list afterwards
  pub accepted_is : {p : Option Change} {change : Change} {a : Acceptance} {after : List ℕ}
      → p ≡ plan_of words message label → p ≡ Some change → a ≡ acceptance_of change → after ≡ changed words change
      → (a ≡ (accepted_of words message label).0) × (change ≡ plan_change (plan_of words message label)) × (after ≡ (accepted_of words message label).1)
  unfolding accepted_of
  accepted_is e g ea el = (rw (← e, g) ea, rw (← e, g), rw (← e, g) el)

  pub refused_is : {p : Option Change} → p ≡ plan_of words message label → p ≡ None
      → (NotAllowed ≡ (accepted_of words message label).0) × (Keep ≡ plan_change (plan_of words message label)) × (words ≡ (accepted_of words message label).1)
  unfolding accepted_of
  refused_is e g = (rw (← e, g), rw (← e, g), rw (← e, g))

  pub told-change : {change : Change} → change ≡ plan_change (plan_of words message label) → ((accepted_of words message label).1 ≡ changed words change) × ChangeIn words change
  unfolding accepted_of
  told-change e = rw e (told words (plan_of words message label) plan_inside)

  -- an ACK of it
  module _ {s : Side} {f : Option ℕ} (es : s ≡ sent_side message) (ef : f ≡ find_of (stands_for s label) words) where
    pub acked-small_label : (i : ℕ) → f ≡ Some i → label < label_count
    acked-small_label i g = omega (arith, (stands_parts s label (get_or words i 0) (found_passes (stands_for s label) words i ef g)).1)

    pub acked_found : (i : ℕ) {n w : ℕ} → f ≡ Some i → n ≡ code_acked message (code_of (get_or words i 0)) → w ≡ word_of label n → set words i w ≡ acked_of words message label
    unfolding acked_at
    acked_found i g en ew = rw (← es, ← ef, g, ew, en)

    pub acked-absent : f ≡ None → words ≡ acked_of words message label
    unfolding acked_at
    acked-absent g = rw (← es, ← ef, g)

-- A message of the peer's: its place, its change, and what becomes of it.
pub place_in : (words : List ℕ) (message : LabelMessage) (t : Touched) {f : Option ℕ} → f ≡ received_place words message t → FoundIn words f
unfolding received_place
place_in words message (Touched.Label label) e = found_in_lem (stands_for (received_side message) label) words e
place_in words message Touched.Every e = rw e tt
place_in words message (Touched.Prefix entry) e = rw e tt
place_in words message Touched.Nothing e = rw e tt

pub protection_label : (words entries : List ℕ) (message : LabelMessage) (protected : Bool) (label : ℕ) {t : Touched} {f : Option ℕ} {c : ℕ} {p : Protection}
    → t ≡ Touched.Label label → f ≡ received_place words message t → c ≡ code_in words f → p ≡ code_protection message protected c → p ≡ protection_beside words entries message protected t
unfolding received_place protection_of protection_beside
protection_label words entries message protected label et ef ec ep = ep ∙ rw (ec, ef, et)

module _ (words : List ℕ) (room : Option ℕ) (another : Bool) (message : LabelMessage) (protected : Bool) (label : ℕ) where
  pub received_low : label < 16 → Keep ≡ received_change words room another message protected label
  unfolding received_change
  received_low h = rw (listable_low label h)

  pub received_high : label_count ≤ label → Keep ≡ received_change words room another message protected label
  unfolding received_change
  received_high h = rw (listable_high label h)

  pub received_is : 16 ≤ label → label < label_count → {f g : Option ℕ} {c n : ℕ} {b : Bool}
      → f ≡ received_place words message (Touched.Label label) → c ≡ code_in words f → n ≡ code_received message protected c → g ≡ room → b ≡ moves_by message another
      → placed_at b f g label n ≡ received_change words room another message protected label
  unfolding received_change received_place
  received_is l h ef ec en eg eb = rw (listable_yes label l h, en, ec, ef, eg, eb)

-- The change that places a label, by what was found.
module _ (b : Bool) (label code : ℕ) (f g : Option ℕ) where
  pub placed_moved : {x : Change} {w : ℕ} (i : ℕ) → b ≡ true → w ≡ word_of label code → x ≡ move_to i g w → f ≡ Some i → x ≡ placed_at b f g label code
  unfolding placed_at
  placed_moved i eb ew ex ef = ex ∙ rw (eb, ef, ew)

  pub placed_stays : {w : ℕ} (i : ℕ) → b ≡ false → w ≡ word_of label code → f ≡ Some i → Put i w ≡ placed_at b f g label code
  unfolding placed_at change_at
  placed_stays i eb ew ef = rw (eb, ef, ew)

  pub placed_new : {x : Change} → x ≡ change_at f g label code → f ≡ None → x ≡ placed_at b f g label code
  unfolding placed_at
  placed_new ex ef = ex ∙ rw ef (by_test b (λ t. rw t) (λ n. rw n))
