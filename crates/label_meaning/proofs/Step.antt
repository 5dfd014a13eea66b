-- Each event changes one label's code by its rule, or takes every label through a rule; a valid list stays valid. Assumes nothing.
use Rattle.std.specs.Prelude.{Option, Some, None}
use Prim.Native.Nat.{ℕ, ◌≤◌, ◌<◌}
use mathlib.Core.Bool.{Bool, true, false}
use mathlib.Core.List.{List}
use mathlib.Core.Logic.{◌≢◌, ◌⊎◌, inl, inr, ⊎_elim}
use mathlib.Core.Path.{◌≡◌, refl, sym}
use native.Mathlib.Omega.{arith}
use lib.Dec.{ltb, eqb}
use lib.ListN.{length, get_or, set, length-set}
use lib.Seq.{get_or-set_same}
use borrow.Author.Tests.{ltb-true, eqb-true}
use Rattle.octets.specs.Pick.{both}
use Rattle.octets.proofs.Choice.{by_test, no, both_true}
use Rattle.label_list.specs.declared.LabelMessage.{LabelMessage}
use Rattle.label_list.specs.declared.LabelMessage.TheVariants.{Mapping, Withdraw, Release}
use Rattle.label_list.specs.declared.Side.{Side}
use Rattle.label_list.specs.declared.SweepRule.TheVariants.{WithdrawAll, ReleaseAll, AfterBreak}
use Rattle.label_list.specs.Find.{find_of}
use Rattle.label_list.specs.Rules.{sent_side, received_side, code_accepted, code_acked, code_received}
use Rattle.label_list.specs.Valid.{valid_of}
use Rattle.label_list.specs.Word.{label_count, label_of, code_of, word_of, is_free, is_request, listable, on_side, stands_for}
use Rattle.label_list.proofs.OpenIds.{request_inside}
use Rattle.label_list.proofs.Reached.{found_passes}
use Rattle.label_list.proofs.Standing.{within_in, within_range, stands_parts}
use Rattle.label_events.specs.declared.Acceptance.{Acceptance}
use Rattle.label_events.specs.declared.Change.{Change}
use Rattle.label_events.specs.declared.Change.TheVariants.{Keep, Put, NoRoom, Move}
use Rattle.label_events.specs.declared.Meets.{Meets}
use Rattle.label_events.specs.declared.Reception.{Reception}
use Rattle.label_events.specs.Accept.{plan_by, plan_of, accepted_by, acceptance_of, accepted_of}
use Rattle.label_events.specs.Ack.{acked_at, acked_of}
use Rattle.label_events.specs.Change.{code_in, code_at, change_at, change_with, changed, change_of, placed_at}
use Rattle.label_events.specs.Reach.{Reach, Those, Label, Nothing}
use Rattle.label_events.specs.Receive.{received_change, every_received, received_with, received_of, moves_by, reception_of}
use Rattle.label_events.specs.Requests.{ended_at, room_at, where_free}
use Rattle.label_meaning.specs.Event.{LabelEvent, Accepted, Acked, Received, Asked, Ended, Broken, after_event}
use Rattle.label_meaning.specs.Valid.{WordInRange, IsValid}
use Rattle.label_meaning.specs.View.{CodeIs, listed, absent, Effect}
use Rattle.label_meaning.proofs.Effect.{FreeAt, free_first, keep_effect, effect_found, change_effect, effect_placed}
use Rattle.label_meaning.proofs.Meaning.{stands_range, valid_means, means_valid}
use Rattle.label_meaning.proofs.Proper.{Proper, accepted_proper, acked_proper, received_proper}
use Rattle.label_meaning.proofs.Swept.{sweep_valid, reach_valid}
use Rattle.label_meaning.proofs.Unlisted.{LabelsStay, stay_code, stay_effect, ended_stays, asked_stays}
use Rattle.label_meaning.proofs.View.{found_none, code_is}

-- The code of a label on a side is 0 or one of that side.
is_proper : {words : List ℕ} {s : Side} {l c : ℕ} → CodeIs words s l c → Proper s c
is_proper {words} {s} {l} (listed i p) = inr (stands_parts s l (get_or words i 0) p).0
is_proper (absent p) = inl refl

pub code_proper : (words : List ℕ) (s : Side) (l : ℕ) → Proper s (code_at words s l)
code_proper words s l = is_proper (code_is words s l)

room : (x : Change) → (x ≡ NoRoom) ⊎ (x ≢ NoRoom)
room Keep = inr (λ e. let z : ◌≡◌ {A = ℕ} 0 1 = cc in omega arith)
room (Put i w) = inr (λ e. let z : ◌≡◌ {A = ℕ} 0 1 = cc in omega arith)
room (Move i j w) = inr (λ e. let z : ◌≡◌ {A = ℕ} 0 1 = cc in omega arith)
room NoRoom = inl refl

has_room : (x : Change) → acceptance_of x ≡ Acceptance.Taken → x ≢ NoRoom
has_room Keep e z = no cc
has_room (Put i w) e z = no cc
has_room (Move i j w) e z = no cc
has_room NoRoom e z = no cc

-- A message of ours that is allowed, with room for it.
pub record Accepts (words : List ℕ) (m : LabelMessage) (l : ℕ) (after : List ℕ) : Type 0 where
  pub code : ℕ
  pub rule : code_accepted m (code_at words (sent_side m) l) ≡ Some code
  pub effect : Effect words after (sent_side m) l code

module _ (words : List ℕ) (v : IsValid words) where
  -- a change to a proper code, where the label may be listed
  change_outcome : (place : Option ℕ) → FreeAt words place → (s : Side) (l c : ℕ) → listable l ≡ true → Proper s c
      → (changed words (change_with words place s l c) ≡ words) ⊎ Effect words (changed words (change_with words place s l c)) s l c
  unfolding changed
  change_outcome place free s l c may proper =
      let range : (16 ≤ l) × (l ≤ 1048575) = within_range 16 1048575 l may in
      ⊎_elim
      (λ (full : change_with words place s l c ≡ NoRoom). inl (rw full))
      (λ (there : change_with words place s l c ≢ NoRoom). inr (change_effect words v s l c range.0 (omega arith) proper place free there))
      (room (change_with words place s l c))

  -- a message of ours: refused, or its label's code becomes what the rule says
  module _ (m : LabelMessage) (l : ℕ) where
    next_outcome : listable l ≡ true → (n : Option ℕ) → code_accepted m (code_at words (sent_side m) l) ≡ n
        → ((accepted_by words (plan_by n words (sent_side m) l)).1 ≡ words) ⊎ Accepts words m l (accepted_by words (plan_by n words (sent_side m) l)).1
    next_outcome may (Some c) e =
        ⊎_elim
        inl
        (λ (x : Effect words (changed words (change_of words (sent_side m) l c)) (sent_side m) l c). inr (record { code = c; rule = e; effect = x }))
        (change_outcome (find_of is_free words) (free_first words (find_of is_free words) refl) (sent_side m) l c may (accepted_proper m (code_at words (sent_side m) l) c e))
    next_outcome may None e = inl refl

    pub accepted_outcome : ((accepted_of words m l).1 ≡ words) ⊎ Accepts words m l (accepted_of words m l).1
    unfolding accepted_of plan_of
    accepted_outcome =
        by_test
        (listable l)
        (λ may. rw may (next_outcome may (code_accepted m (code_at words (sent_side m) l)) refl))
        (λ may. inl (rw may))

    -- where it is taken its code is what the rule says
    next-taken : listable l ≡ true → (n : Option ℕ) → code_accepted m (code_at words (sent_side m) l) ≡ n → (accepted_by words (plan_by n words (sent_side m) l)).0 ≡ Acceptance.Taken
        → Accepts words m l (accepted_by words (plan_by n words (sent_side m) l)).1
    next-taken may (Some c) e taken =
        let range : (16 ≤ l) × (l ≤ 1048575) = within_range 16 1048575 l may in
        let first : (Option ℕ) = find_of is_free words in
        record {
          code = c;
          rule = e;
          effect = change_effect words v (sent_side m) l c range.0 (omega arith) (accepted_proper m (code_at words (sent_side m) l) c e) first (free_first words first refl) (has_room (change_of words (sent_side m) l c) taken);
        }
    next-taken may None e taken = no cc

    pub accepted_taken : (accepted_of words m l).0 ≡ Acceptance.Taken → Accepts words m l (accepted_of words m l).1
    unfolding accepted_of plan_of
    accepted_taken taken =
        by_test
        (listable l)
        (λ may. rw may (next-taken may (code_accepted m (code_at words (sent_side m) l)) refl (rw may at taken)))
        (λ may. no (cc (rw may at taken)))

  -- a label that is listed may be listed, and its change needs no free word
  listed_label : (s : Side) (l i : ℕ) → stands_for s l (get_or words i 0) ≡ true → (16 ≤ l) × (l < label_count)
  listed_label s l i p =
      let label : label_of (get_or words i 0) ≡ l = (stands_parts s l (get_or words i 0) p).1 in
      let range : WordInRange (get_or words i 0) = stands_range v s l i p in
      (omega (arith, range.label), omega arith)

  module _ (s : Side) (l n : ℕ) (proper : Proper s n) where
    found_effect : (i : ℕ) → Some i ≡ find_of (stands_for s l) words → Effect words (set words i (word_of l n)) s l n
    unfolding change_at changed
    found_effect i e =
        let range : (16 ≤ l) × (l < label_count) = listed_label s l i (found_passes (stands_for s l) words i e refl) in
        effect_found words v s l n range.0 range.1 proper (Some i) None e tt (λ z. let z : ◌≡◌ {A = ℕ} 0 1 = cc in omega arith)

    listed_found : (f place : Option ℕ) → f ≡ find_of (stands_for s l) words → code_in words f ≢ 0 → (listable l ≡ true) × Effect words (changed words (change_at f place l n)) s l n
    unfolding code_in change_at changed
    listed_found (Some i) place e h =
        let range : (16 ≤ l) × (l < label_count) = listed_label s l i (found_passes (stands_for s l) words i e refl) in
        (sym (within_in 16 1048575 l range.0 (omega arith)), found_effect i e)
    listed_found None place e h = absurd (h refl)

    listed_effect : (place : Option ℕ) → code_at words s l ≢ 0 → (listable l ≡ true) × Effect words (changed words (change_with words place s l n)) s l n
    listed_effect place = listed_found (find_of (stands_for s l) words) place refl

  pub listed_may : (s : Side) (l : ℕ) → code_at words s l ≢ 0 → listable l ≡ true
  listed_may s l h = (listed_effect s l 0 (inl refl) None h).0

  pub accepted_listed : (m : LabelMessage) (l n : ℕ) → code_at words (sent_side m) l ≢ 0 → code_accepted m (code_at words (sent_side m) l) ≡ Some n → Effect words (accepted_of words m l).1 (sent_side m) l n
  unfolding accepted_of plan_of
  accepted_listed m l n h e =
      let listed-l = listed_effect (sent_side m) l n (accepted_proper m (code_at words (sent_side m) l) n e) (find_of is_free words) h in
      rw (listed-l.0, e) listed-l.1

  -- an ACK
  acked_none : (m : LabelMessage) → code_acked m 0 ≡ 0
  unfolding code_acked
  acked_none Mapping = refl
  acked_none Withdraw = refl
  acked_none Release = refl

  acked-at : (m : LabelMessage) (l : ℕ) (f : Option ℕ) → f ≡ find_of (stands_for (sent_side m) l) words → Effect words (acked_at f words m l) (sent_side m) l (code_acked m (code_in words f))
  unfolding acked_at code_in
  acked-at m l (Some i) e =
      let on : on_side (sent_side m) (code_of (get_or words i 0)) ≡ true = (stands_parts (sent_side m) l (get_or words i 0) (found_passes (stands_for (sent_side m) l) words i e refl)).0 in
      found_effect (sent_side m) l (code_acked m (code_of (get_or words i 0))) (acked_proper m (code_of (get_or words i 0)) (inr on)) i e
  acked-at m l None e = keep_effect words v (sent_side m) l (code_acked m 0) (found_none words (sent_side m) l (sym e)) (acked_none m)

  pub acked_effect : (m : LabelMessage) (l : ℕ) → Effect words (acked_of words m l) (sent_side m) l (code_acked m (code_at words (sent_side m) l))
  acked_effect m l = acked-at m l (find_of (stands_for (sent_side m) l) words) refl

  -- a message of the peer's that names its label, where `place` is that of a free word
  module _ (place : Option ℕ) (another : Bool) (m : LabelMessage) (p : Bool) (l : ℕ) where
    proper_received : Proper (received_side m) (code_received m p (code_at words (received_side m) l))
    proper_received = received_proper m p (code_at words (received_side m) l) (code_proper words (received_side m) l)

    -- of a label that stays where it is no room is asked
    listed-with : code_at words (received_side m) l ≢ 0 → moves_by m another ≡ false
        → Effect words (received_with words place another m p (Label l)).1 (received_side m) l (code_received m p (code_at words (received_side m) l))
    unfolding received_with received_change placed_at
    listed-with h stays =
        let listed-l = listed_effect (received_side m) l (code_received m p (code_at words (received_side m) l)) proper_received place h in
        rw (listed-l.0, stays) listed-l.1

    outcome_with : FreeAt words place → ((received_with words place another m p (Label l)).1 ≡ words)
        ⊎ Effect words (received_with words place another m p (Label l)).1 (received_side m) l (code_received m p (code_at words (received_side m) l))
    unfolding received_with received_change changed
    outcome_with free =
        by_test
        (listable l)
        (λ may.
        let range : (16 ≤ l) × (l ≤ 1048575) = within_range 16 1048575 l may in
        let code : ℕ = code_received m p (code_at words (received_side m) l) in
        let there : (Option ℕ) = find_of (stands_for (received_side m) l) words in
        rw may
        (⊎_elim
        (λ (full : placed_at (moves_by m another) there place l code ≡ NoRoom). inl (rw full))
        (λ (has : placed_at (moves_by m another) there place l code ≢ NoRoom).
        inr (effect_placed words v (received_side m) l code range.0 (omega arith) proper_received (moves_by m another) there place refl free has))
        (room (placed_at (moves_by m another) there place l code))))
        (λ may. inl (rw may))

    -- where it is taken its code is what the rule says
    taken-with : listable l ≡ true → FreeAt words place → (received_with words place another m p (Label l)).0 ≡ Reception.Taken
        → Effect words (received_with words place another m p (Label l)).1 (received_side m) l (code_received m p (code_at words (received_side m) l))
    unfolding received_with received_change changed
    taken-with may free done =
        let range : (16 ≤ l) × (l ≤ 1048575) = within_range 16 1048575 l may in
        let code : ℕ = code_received m p (code_at words (received_side m) l) in
        let there : (Option ℕ) = find_of (stands_for (received_side m) l) words in
        let told : reception_of (placed_at (moves_by m another) there place l code) ≡ Reception.Taken = rw may at done in
        rw may
        (effect_placed words v (received_side m) l code range.0 (omega arith) proper_received (moves_by m another) there place refl free
        (λ (full : placed_at (moves_by m another) there place l code ≡ NoRoom). let z : Reception.NoRoom ≡ Reception.Taken = rw full at told in no cc))

  every_valid : (m : LabelMessage) (reached : ℕ → Bool) → IsValid (every_received m reached words)
  unfolding every_received
  every_valid Mapping reached = v
  every_valid Withdraw reached = reach_valid words v reached WithdrawAll
  every_valid Release reached = reach_valid words v reached ReleaseAll

-- A spare place that counts is one of a free word.
spare_is_free : (spare : Option ℕ) (words : List ℕ) → FreeAt words (where_free spare words)
unfolding is_free
spare_is_free (Some i) words =
    by_test
    (both (ltb i (length words)) (eqb (get_or words i 0) 0))
    (λ t.
    let parts = both_true (ltb i (length words)) (eqb (get_or words i 0) 0) t in
    rw t (ltb-true i (length words) parts.0, eqb-true (get_or words i 0) 0 parts.1))
    (λ f. rw f tt)
spare_is_free None words = tt

-- The place that a message of the peer's is given for a new label is one of a free word.
pub room_is_free : (request spare : Option ℕ) (words : List ℕ) → FreeAt (ended_at request words) (room_at request spare words)
unfolding ended_at room_at
room_is_free (Some i) spare words =
    by_test
    (is_request (get_or words i 0))
    (λ t.
    let inside : i < length words = request_inside words i t in
    rw t (rw (length-set words i 0) inside, get_or-set_same words i 0 0 inside))
    (λ f. rw f (spare_is_free spare words))
room_is_free None spare words = spare_is_free spare words

-- A message of the peer's, with what it meets.
module _ (words : List ℕ) (v : IsValid words) (x : Meets) where
  stays : LabelsStay words (ended_at x.request words)
  stays = ended_stays words v x.request

  pub received-listed : (m : LabelMessage) (p : Bool) (l : ℕ) → code_at words (received_side m) l ≢ 0 → moves_by m x.another ≡ false
      → Effect words (received_of words x m p (Label l)).1 (received_side m) l (code_received m p (code_at words (received_side m) l))
  received-listed m p l h still =
      let same : code_at (ended_at x.request words) (received_side m) l ≡ code_at words (received_side m) l = stay_code stays (received_side m) l in
      rw (← same) (stay_effect stays (listed-with (ended_at x.request words) stays.valid (room_at x.request x.spare words) x.another m p l (rw same h) still))

  pub received_outcome : (m : LabelMessage) (p : Bool) (l : ℕ) → ((received_of words x m p (Label l)).1 ≡ ended_at x.request words)
      ⊎ Effect words (received_of words x m p (Label l)).1 (received_side m) l (code_received m p (code_at words (received_side m) l))
  received_outcome m p l =
      let same : code_at (ended_at x.request words) (received_side m) l ≡ code_at words (received_side m) l = stay_code stays (received_side m) l in
      ⊎_elim
      inl
      (λ (e : Effect (ended_at x.request words) (received_of words x m p (Label l)).1 (received_side m) l (code_received m p (code_at (ended_at x.request words) (received_side m) l))).
      inr (rw (← same) (stay_effect stays e)))
      (outcome_with (ended_at x.request words) stays.valid (room_at x.request x.spare words) x.another m p l (room_is_free x.request x.spare words))

  pub received-taken : (m : LabelMessage) (p : Bool) (l : ℕ) → listable l ≡ true → (received_of words x m p (Label l)).0 ≡ Reception.Taken
      → Effect words (received_of words x m p (Label l)).1 (received_side m) l (code_received m p (code_at words (received_side m) l))
  received-taken m p l may done =
      let same : code_at (ended_at x.request words) (received_side m) l ≡ code_at words (received_side m) l = stay_code stays (received_side m) l in
      rw (← same)
      (stay_effect stays
      (taken-with (ended_at x.request words) stays.valid (room_at x.request x.spare words) x.another m p l may (room_is_free x.request x.spare words) done))

  received_valid : (m : LabelMessage) (p : Bool) (t : Reach) → IsValid (received_of words x m p t).1
  unfolding received_with
  received_valid m p (Label l) =
      ⊎_elim
      (λ (same : (received_of words x m p (Label l)).1 ≡ ended_at x.request words). rw same stays.valid)
      (λ (e : Effect words (received_of words x m p (Label l)).1 (received_side m) l (code_received m p (code_at words (received_side m) l))). e.valid)
      (received_outcome m p l)
  received_valid m p (Those reached) = every_valid (ended_at x.request words) stays.valid m reached
  received_valid m p Nothing = stays.valid

pub step_is_valid : (words : List ℕ) → IsValid words → (e : LabelEvent) → IsValid (after_event words e)
unfolding after_event
step_is_valid words v (Accepted m l) =
    ⊎_elim
    (λ (same : (accepted_of words m l).1 ≡ words). rw same v)
    (λ (x : Accepts words m l (accepted_of words m l).1). x.effect.valid)
    (accepted_outcome words v m l)
step_is_valid words v (Acked m l) = (acked_effect words v m l).valid
step_is_valid words v (Received request m p t) = received_valid words v request m p t
step_is_valid words v Asked = (asked_stays words v).valid
step_is_valid words v (Ended request) = (ended_stays words v request).valid
step_is_valid words v Broken = sweep_valid words v AfterBreak

-- Every event leaves a valid list valid.
pub step_valid : (words : List ℕ) (e : LabelEvent) → valid_of words ≡ true → valid_of (after_event words e) ≡ true
step_valid words e valid = means_valid (after_event words e) (step_is_valid words (valid_means words valid) e)
