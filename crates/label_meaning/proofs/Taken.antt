-- The word that a Mapping takes: a free one, or that of the Request which it answers; and whose entry a label has after an event. Assumes nothing.
use Rattle.std.specs.Prelude.{Option, Some, None}
use Prim.Native.Nat.{ℕ, ◌≤◌, ◌<◌}
use mathlib.Core.Bool.{Bool, true, false, true≢false}
use mathlib.Core.List.{List}
use mathlib.Core.Logic.{◌≢◌, ◌⊎◌, inl, inr, ⊎_elim}
use mathlib.Core.Path.{◌≡◌, refl, sym, ◌∙◌}
use native.Mathlib.Omega.{arith}
use lib.Dec.{eqb, ltb}
use lib.ListN.{length, get_or, set, length-set}
use lib.Seq.{get_or-set_same}
use borrow.Author.Tests.{eqb-true, eqb-false, eq-eqb, ltb-true, ltb-false}
use Rattle.octets.specs.Pick.{both}
use Rattle.octets.proofs.Choice.{by_test, no, both_true}
use Rattle.label_list.specs.declared.LabelMessage.{LabelMessage}
use Rattle.label_list.specs.declared.LabelMessage.TheVariants.{Mapping, Withdraw, Release}
use Rattle.label_list.specs.declared.Side.{Side}
use Rattle.label_list.specs.declared.Side.TheVariants.{Given, Used}
use Rattle.label_list.specs.Beside.{entry_on}
use Rattle.label_list.specs.Counting.{counting}
use Rattle.label_list.specs.Find.{find_of}
use Rattle.label_list.specs.Rules.{sent_side, received_side, code_accepted, code_received}
use Rattle.label_list.specs.Word.{word_of, is_free, is_request, lists_label, listable, stands_for}
use Rattle.label_list.proofs.OpenIds.{past_end}
use Rattle.label_list.proofs.Reached.{found_passes}
use Rattle.label_list.proofs.Standing.{within_range, free_stands}
use Rattle.label_events.specs.declared.Meets.{Meets}
use Rattle.label_events.specs.declared.Touched.{Touched}
use Rattle.label_events.specs.Accept.{plan_by, plan_of, plan_change, accepted_by, accepted_of}
use Rattle.label_events.specs.Change.{code_in, code_at, changed, take_free, change_at, placed_at, taken_at, put_at}
use Rattle.label_events.specs.Reach.{Label, Those, Nothing}
use Rattle.label_events.specs.Receive.{received_place, moves_by, received_change, takes_at, received_with, received_of}
use Rattle.label_events.specs.Requests.{ended_at, where_free, room_at}
use Rattle.label_events.proofs.Received.{received_same}
use Rattle.label_meaning.specs.Entries.{TakesWord, ours, its_request, spare_word, EntryAfter, stays, set_by}
use Rattle.label_meaning.specs.Event.{LabelEvent, Accepted, Acked, Received, Asked, Ended, Broken, after_event}
use Rattle.label_meaning.specs.Keep.{accepted_takes, taken_by, StandsOld}
use Rattle.label_meaning.specs.Valid.{IsValid}
use Rattle.label_meaning.specs.Withdrawal.{is_mapping}
use Rattle.label_meaning.proofs.Effect.{FreeAt, free_first, free_word, absent_means}
use Rattle.label_meaning.proofs.Entries.{entry_counted, entry_kept, entry-taken}
use Rattle.label_meaning.proofs.Kept.{step-length}
use Rattle.label_meaning.proofs.Listed.{word_only, event-old}
use Rattle.label_meaning.proofs.Proper.{accepted_proper, received_proper}
use Rattle.label_meaning.proofs.Step.{step_is_valid, code_proper, room_is_free}
use Rattle.label_meaning.proofs.View.{code_is}

-- ---- a label that takes a word takes the room,
take-room : (g : Option ℕ) (w j : ℕ) → taken_at None (take_free g w) ≡ Some j → g ≡ Some j
take-room (Some i) w j e = e
take-room None w j e = no cc

new_room : (g : Option ℕ) (k c j : ℕ) → taken_at None (change_at None g k c) ≡ Some j → g ≡ Some j
unfolding change_at
new_room g k c j e =
    by_test (eqb c 0) (λ t. let z : None ≡ Some j = rw t at e in no cc) (λ f. take-room g (word_of k c) j (rw f at e))

placed_room : (b : Bool) (f g : Option ℕ) (k c j : ℕ) → taken_at f (placed_at b f g k c) ≡ Some j → g ≡ Some j
unfolding placed_at change_at
placed_room true (Some i) (Some n) k c j e = e
placed_room true (Some i) None k c j e = no cc
placed_room true None g k c j e = new_room g k c j e
placed_room false (Some i) g k c j e = no cc
placed_room false None g k c j e = new_room g k c j e

-- and there it stands
module _ (words : List ℕ) (k c j : ℕ) where
  take_word : (g : Option ℕ) → FreeAt words g → taken_at None (take_free g (word_of k c)) ≡ Some j → get_or (changed words (take_free g (word_of k c))) j 0 ≡ word_of k c
  unfolding changed
  take_word (Some i) free e = let same : i ≡ j = cc in rw (← same) (get_or-set_same words i (word_of k c) 0 free.0)
  take_word None free e = no cc

  new_word : (g : Option ℕ) → FreeAt words g → taken_at None (change_at None g k c) ≡ Some j → get_or (changed words (change_at None g k c)) j 0 ≡ word_of k c
  unfolding change_at
  new_word g free e =
      by_test (eqb c 0) (λ t. let z : None ≡ Some j = rw t at e in no cc) (λ f. rw f (take_word g free (rw f at e)))

  pub placed_word : (b : Bool) (f g : Option ℕ) → FreeAt words g → taken_at f (placed_at b f g k c) ≡ Some j → get_or (changed words (placed_at b f g k c)) j 0 ≡ word_of k c
  unfolding placed_at change_at changed
  placed_word true (Some i) (Some n) free e =
      let same : n ≡ j = cc in
      rw (← same) (get_or-set_same (set words i 0) n (word_of k c) 0 (rw (length-set words i 0) free.0))
  placed_word true (Some i) None free e = no cc
  placed_word true None g free e = new_word g free e
  placed_word false (Some i) g free e = no cc
  placed_word false None g free e = new_word g free e

-- ---- the room is a Request's word or a spare one
spare_room : (spare : Option ℕ) (words : List ℕ) (j : ℕ) → where_free spare words ≡ Some j → (spare ≡ Some j) × (get_or words j 0 ≡ 0)
unfolding is_free
spare_room (Some i) words j e =
    by_test
    (both (ltb i (length words)) (eqb (get_or words i 0) 0))
    (λ t.
    let same : Some i ≡ Some j = rw t at e in
    let at : i ≡ j = cc in
    (same, rw (← at) (eqb-true (get_or words i 0) 0 (both_true (ltb i (length words)) (eqb (get_or words i 0) 0) t).1)))
    (λ f. let z : None ≡ Some j = rw f at e in no cc)
spare_room None words j e = no cc

pub room_of : (request spare : Option ℕ) (words : List ℕ) (j : ℕ) → room_at request spare words ≡ Some j
    → ((request ≡ Some j) × (is_request (get_or words j 0) ≡ true)) ⊎ ((spare ≡ Some j) × (get_or words j 0 ≡ 0))
unfolding room_at
room_of (Some i) spare words j e =
    by_test
    (is_request (get_or words i 0))
    (λ t. let same : Some i ≡ Some j = rw t at e in let at : i ≡ j = cc in inl (same, rw (← at) t))
    (λ f. inr (spare_room spare words j (rw f at e)))
room_of None spare words j e = inr (spare_room spare words j e)

-- ---- only a Mapping takes a word
-- it alone lists a label that is absent, or moves one
pub absent-rule : (m : LabelMessage) (p : Bool) → is_mapping m ≡ false → code_received m p 0 ≡ 0
unfolding code_received
absent-rule Mapping p other = absurd (true≢false other)
absent-rule Withdraw p other = refl
absent-rule Release p other = refl

pub stays_where : (m : LabelMessage) (another : Bool) → is_mapping m ≡ false → moves_by m another ≡ false
stays_where Mapping another other = absurd (true≢false other)
stays_where Withdraw another other = refl
stays_where Release another other = refl

place_none : (f g : Option ℕ) (l n : ℕ) → (f ≡ None → n ≡ 0) → taken_at f (placed_at false f g l n) ≡ None
unfolding placed_at change_at
place_none (Some i) g l n z = refl
place_none None g l n z = rw (eq-eqb n 0 (z refl))

pub only_mapping : (words : List ℕ) (x : Meets) (m : LabelMessage) (p : Bool) → is_mapping m ≡ false → (t : Touched) → takes_at words x m p t ≡ None
unfolding received_change received_place code_in
only_mapping words x m p other (Touched.Label l) =
    by_test (listable l)
    (λ may. rw (may, stays_where m x.another other)
    (place_none (find_of (stands_for (received_side m) l) words) (room_at x.request x.spare words) l (code_received m p (code_at words (received_side m) l))
    (λ z. rw z (absent-rule m p other))))
    (λ may. rw may)
only_mapping words x m p other Touched.Every = refl
only_mapping words x m p other (Touched.Prefix entry) = refl
only_mapping words x m p other Touched.Nothing = refl

module _ (words : List ℕ) (x : Meets) (p : Bool) (l j : ℕ) where
  abbrev room : Option ℕ
  room = room_at x.request x.spare words

  abbrev mid : List ℕ
  mid = ended_at x.request words

  abbrev there : Option ℕ
  there = find_of (stands_for Used l) words

  abbrev becomes : ℕ
  becomes = code_received Mapping p (code_at words Used l)

  mapping-takes : listable l ≡ true → taken_at there (placed_at x.another there room l becomes) ≡ Some j
      → (s : Side) (k : ℕ) → stands_for s k (get_or (changed mid (placed_at x.another there room l becomes)) j 0) ≡ true → TakesWord words j (Received x Mapping p (Label l)) s k
  unfolding received_side
  mapping-takes may at s k stands =
      let range : (16 ≤ l) × (l ≤ 1048575) = within_range 16 1048575 l may in
      let word = placed_word mid l becomes j x.another there room (room_is_free x.request x.spare words) at in
      let is = word_only Used l becomes (omega arith) (received_proper Mapping p (code_at words Used l) (code_proper words Used l)) s k (rw word at stands) in
      rw (is.0, is.1)
      (⊎_elim
      (λ (r : (x.request ≡ Some j) × (is_request (get_or words j 0) ≡ true)). its_request r.0 r.1)
      (λ (r : (x.spare ≡ Some j) × (get_or words j 0 ≡ 0)). spare_word r.0 r.1)
      (room_of x.request x.spare words j (placed_room x.another there room l becomes j at)))

  received-takes : (m : LabelMessage) → takes_at words x m p (Touched.Label l) ≡ Some j
      → (s : Side) (k : ℕ) → stands_for s k (get_or (received_of words x m p (Label l)).1 j 0) ≡ true → TakesWord words j (Received x m p (Label l)) s k
  unfolding received_change received_place received_with received_side changed
  received-takes Mapping at s k =
      rw (received_same words x Mapping p room l)
      (by_test (listable l)
      (λ may. rw may (mapping-takes may (rw may at at) s k))
      (λ may. let z : None ≡ Some j = rw may at at in no cc))
  received-takes Withdraw at s k = λ stands. let z : None ≡ Some j = sym (only_mapping words x Withdraw p refl (Touched.Label l)) ∙ at in no cc
  received-takes Release at s k = λ stands. let z : None ≡ Some j = sym (only_mapping words x Release p refl (Touched.Label l)) ∙ at in no cc

module _ (words : List ℕ) (l j : ℕ) where
  abbrev free : Option ℕ
  free = find_of is_free words

  next-takes : (n : Option ℕ) → code_accepted Mapping (code_at words Given l) ≡ n → listable l ≡ true
      → taken_at (find_of (stands_for Given l) words) (plan_change (plan_by n words Given l)) ≡ Some j
      → (s : Side) (k : ℕ) → stands_for s k (get_or (accepted_by words (plan_by n words Given l)).1 j 0) ≡ true → TakesWord words j (Accepted Mapping l) s k
  unfolding placed_at sent_side
  next-takes None q may at s k stands = no cc
  next-takes (Some c) q may at s k stands =
      let range : (16 ≤ l) × (l ≤ 1048575) = within_range 16 1048575 l may in
      let there : (Option ℕ) = find_of (stands_for Given l) words in
      let word = placed_word words l c j false there free (free_first words free refl) at in
      let is = word_only Given l c (omega arith) (accepted_proper Mapping (code_at words Given l) c q) s k (rw word at stands) in
      rw (is.0, is.1) (ours (free_word words j refl (placed_room false there free l c j at)))

  accepted_takes_lem : accepted_takes words Mapping l ≡ Some j
      → (s : Side) (k : ℕ) → stands_for s k (get_or (accepted_of words Mapping l).1 j 0) ≡ true → TakesWord words j (Accepted Mapping l) s k
  unfolding accepted_of plan_of sent_side
  accepted_takes_lem at s k =
      by_test (listable l)
      (λ may. rw may (next-takes (code_accepted Mapping (code_at words Given l)) refl may (rw may at at) s k))
      (λ may. let z : None ≡ Some j = rw may at at in no cc)

-- Of every event: a label that stands where a word is taken is that of a Mapping, and the word was free or its Request's.
pub takes_word : (words : List ℕ) (e : LabelEvent) (j : ℕ) → taken_by words e ≡ Some j
    → (s : Side) (l : ℕ) → stands_for s l (get_or (after_event words e) j 0) ≡ true → TakesWord words j e s l
unfolding after_event
takes_word words (Accepted Mapping k) j at = accepted_takes_lem words k j at
takes_word words (Accepted Withdraw k) j at = no cc
takes_word words (Accepted Release k) j at = no cc
takes_word words (Acked m k) j at = no cc
takes_word words (Received x m p (Label k)) j at = received-takes words x p k j m at
takes_word words (Received x m p (Those reached)) j at = no cc
takes_word words (Received x m p Nothing) j at = no cc
takes_word words Asked j at = no cc
takes_word words (Ended request) j at = no cc
takes_word words Broken j at = no cc

-- ---- the entries
pub stands_code : (words : List ℕ) (s : Side) (l i : ℕ) → stands_for s l (get_or words i 0) ≡ true → code_at words s l ≢ 0
stands_code words s l i stands z = true≢false (sym stands ∙ absent_means (rw z at (code_is words s l)) i)

pub stands_inside : (words : List ℕ) (s : Side) (l i : ℕ) → stands_for s l (get_or words i 0) ≡ true → i < length words
stands_inside words s l i stands =
    by_test (ltb i (length words))
    (λ t. ltb-true i (length words) t)
    (λ f. absurd (true≢false (sym stands ∙ rw (past_end words i (ltb-false i (length words) f)) (free_stands s l))))

module _ (words index : List ℕ) (v : IsValid words) (long : length words ≤ length index) (entry : ℕ) (e : LabelEvent) (s : Side) (l : ℕ) where
  abbrev after : List ℕ
  after = after_event words e

  abbrev left : List ℕ
  left = put_at (taken_by words e) entry index

  abbrev Stood : Type 0
  Stood = EntryAfter words index entry e s l (entry_on after left s l)

  kept_case : (i : ℕ) → taken_by words e ≢ Some i → stands_for s l (get_or after i 0) ≡ true → Stood
  kept_case i apart stands =
      stays (stands_code words s l i (event-old words e s l i apart stands))
      (entry_kept words after index v (step_is_valid words v e) (taken_by words e) entry (event-old words e) s l i apart stands)

  taken-case : (j : ℕ) → taken_by words e ≡ Some j → stands_for s l (get_or after j 0) ≡ true → Stood
  taken-case j at stands =
      let inside : j < length after = stands_inside after s l j stands in
      set_by j (takes_word words e j at s l stands)
      (entry-taken words after index v (step_is_valid words v e) (taken_by words e) entry s l j at (omega (arith, step-length words e)) stands)

  at_place : (i : ℕ) → stands_for s l (get_or after i 0) ≡ true → Stood
  at_place i stands = by (taken_by words e) refl
    where
      by : (f : Option ℕ) → taken_by words e ≡ f → Stood
      by None q = kept_case i (λ z. let none : None ≡ Some i = sym q ∙ z in no cc) stands
      by (Some j) q =
          by_test (eqb i j)
          (λ t. let same : i ≡ j = eqb-true i j t in taken-case j q (rw same at stands))
          (λ f. kept_case i (λ z. let other : Some j ≡ Some i = sym q ∙ z in let same : i ≡ j = cc in eqb-false i j f same) stands)

  -- Of every event: a listed label has the entry that it had, or that of the Mapping which took its word.
  pub event-entry : code_at after s l ≢ 0 → Stood
  unfolding code_in
  event-entry listed = by (find_of (stands_for s l) after) refl
    where
      by : (f : Option ℕ) → f ≡ find_of (stands_for s l) after → Stood
      by (Some i) q = at_place i (found_passes (stands_for s l) after i q refl)
      by None q = absurd (listed (rw (← q)))

-- Where no word is taken, a listed label was listed, and has the entry that it had.
pub quiet_entry : (words after index : List ℕ) → IsValid words → IsValid after → StandsOld words after None → (s : Side) (l : ℕ) → code_at after s l ≢ 0
    → (code_at words s l ≢ 0) × (entry_on after (counting 0 lists_label after index) s l ≡ entry_on words index s l)
unfolding code_in
quiet_entry words after index v va old s l listed = by (find_of (stands_for s l) after) refl
  where
    by : (f : Option ℕ) → f ≡ find_of (stands_for s l) after
        → (code_at words s l ≢ 0) × (entry_on after (counting 0 lists_label after index) s l ≡ entry_on words index s l)
    by (Some i) q =
        let stands : stands_for s l (get_or after i 0) ≡ true = found_passes (stands_for s l) after i q refl in
        let nowhere : None ≢ Some i = λ z. no cc in
        (stands_code words s l i (old s l i nowhere stands), entry_counted after index s l ∙ entry_kept words after index v va None 0 old s l i nowhere stands)
    by None q = absurd (listed (rw (← q)))
