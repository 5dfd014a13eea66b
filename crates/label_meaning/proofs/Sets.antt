-- A Mapping that is accepted or taken leaves its label with the entry of its FEC, whether it takes a word, moves or stays. Assumes nothing.
use Rattle.std.specs.Prelude.{Option, Some, None}
use Prim.Native.Nat.{ℕ, ◌≤◌, ◌<◌}
use mathlib.Core.Bool.{Bool, true, false}
use mathlib.Core.List.{List}
use mathlib.Core.Logic.{◌≢◌, ◌⊎◌, inl, inr, ⊎_elim}
use mathlib.Core.Path.{◌≡◌, refl, sym, ap, ◌∙◌}
use native.Mathlib.Omega.{arith}
use lib.Dec.{eqb, leb}
use lib.ListN.{length, get_or}
use borrow.Author.Tests.{eqb-false, ne_eqb}
use Rattle.octets.proofs.Choice.{by_test, no}
use Rattle.label_list.specs.declared.LabelMessage.TheVariants.{Mapping}
use Rattle.label_list.specs.declared.Side.{Side}
use Rattle.label_list.specs.declared.Side.TheVariants.{Given, Used}
use Rattle.label_list.specs.Beside.{entry_on}
use Rattle.label_list.specs.Find.{find_of, is_found}
use Rattle.label_list.specs.Rules.{sent_side, received_side, code_accepted, code_received}
use Rattle.label_list.specs.Word.{word_of, is_free, listable, stands_for}
use Rattle.label_list.proofs.Standing.{within_range}
use Rattle.label_events.specs.declared.Acceptance.{Acceptance}
use Rattle.label_events.specs.declared.Change.{Change}
use Rattle.label_events.specs.declared.Change.TheVariants.{NoRoom}
use Rattle.label_events.specs.declared.Meets.{Meets}
use Rattle.label_events.specs.declared.Reception.{Reception}
use Rattle.label_events.specs.Accept.{plan_of, acceptance_of, accepted_by, accepted_of}
use Rattle.label_events.specs.Change.{code_at, changed, change_at, placed_at, taken_at, put_at}
use Rattle.label_events.specs.Reach.{Label}
use Rattle.label_events.specs.Receive.{received_place, received_change, reception_of, received_with, received_of}
use Rattle.label_events.specs.Requests.{ended_at, room_at}
use Rattle.label_events.proofs.Received.{received_same}
use Rattle.label_meaning.specs.Entries.{EntryAfter, stays, set_by}
use Rattle.label_meaning.specs.Event.{LabelEvent, Accepted, Received, after_event}
use Rattle.label_meaning.specs.Keep.{taken_by}
use Rattle.label_meaning.specs.Valid.{IsValid}
use Rattle.label_meaning.specs.View.{Effect}
use Rattle.label_meaning.proofs.Effect.{Lists, word_written, free_first}
use Rattle.label_meaning.proofs.Entries.{entry-taken}
use Rattle.label_meaning.proofs.Kept.{step-length}
use Rattle.label_meaning.proofs.Proper.{Proper, accepted_proper, received_proper}
use Rattle.label_meaning.proofs.Step.{step_is_valid, code_proper, room_is_free, received-taken, accepted_taken}
use Rattle.label_meaning.proofs.Taken.{placed_word, stands_inside, event-entry}
use Rattle.label_meaning.proofs.View.{is_code}

-- a label that gets a code, where there is room: it takes a word, or stays in its own
abbrev Placed : Bool → Option ℕ → Option ℕ → ℕ → ℕ → Type 0
Placed b f g k c =
    ((j : ℕ) × (taken_at f (placed_at b f g k c) ≡ Some j)) ⊎ ((b ≡ false) × (is_found f ≡ true))

new_placed : (g : Option ℕ) (k c : ℕ) → c ≢ 0 → change_at None g k c ≢ NoRoom → (j : ℕ) × (taken_at None (change_at None g k c) ≡ Some j)
unfolding change_at
new_placed (Some n) k c h room = (n, rw (ne_eqb c 0 h))
new_placed None k c h room = absurd (room (rw (ne_eqb c 0 h)))

placed_cases : (b : Bool) (f g : Option ℕ) (k c : ℕ) → c ≢ 0 → placed_at b f g k c ≢ NoRoom → Placed b f g k c
unfolding placed_at change_at
placed_cases true (Some i) (Some n) k c h room = inl (n, refl)
placed_cases true (Some i) None k c h room = absurd (room refl)
placed_cases true None g k c h room = inl (new_placed g k c h room)
placed_cases false (Some i) g k c h room = inr (refl, refl)
placed_cases false None g k c h room = inl (new_placed g k c h room)

-- the word of a label under a code stands for it
word_stands : (s : Side) (l c : ℕ) → listable l ≡ true → Proper s c → c ≢ 0 → stands_for s l (word_of l c) ≡ true
word_stands s l c may proper h =
    let range : (16 ≤ l) × (l ≤ 1048575) = within_range 16 1048575 l may in
    ⊎_elim
    (λ (z : (word_of l c ≡ 0) × (c ≡ 0)). absurd (h z.1))
    (λ (new : Lists s l c (word_of l c)). new.stands)
    (word_written s l c range.0 (omega arith) proper)

mapping-listed : (p : Bool) (c : ℕ) → code_received Mapping p c ≢ 0
unfolding code_received
mapping-listed true c =
    by_test (eqb c 0) (λ t. rw t (λ z. omega arith)) (λ f. rw f (by_test (eqb c 5) (λ t. rw t (λ z. omega arith)) (λ g. rw g (eqb-false c 0 f))))
mapping-listed false c = by_test (eqb c 0) (λ t. rw t (λ z. omega arith)) (λ f. rw f (eqb-false c 0 f))

module _ (words index : List ℕ) (v : IsValid words) (long : length words ≤ length index) (entry : ℕ) where
  -- the entry after an event whose label stands where a word is taken
  at-taken : (e : LabelEvent) (s : Side) (l j : ℕ) → taken_by words e ≡ Some j → stands_for s l (get_or (after_event words e) j 0) ≡ true
      → entry_on (after_event words e) (put_at (taken_by words e) entry index) s l ≡ entry
  at-taken e s l j at stands =
      let inside : j < length (after_event words e) = stands_inside (after_event words e) s l j stands in
      entry-taken words (after_event words e) index v (step_is_valid words v e) (taken_by words e) entry s l j at (omega (arith, step-length words e)) stands

  -- and where it stays with the same entry
  at_own : (e : LabelEvent) (s : Side) (l : ℕ) → code_at (after_event words e) s l ≢ 0 → entry_on words index s l ≡ entry
      → entry_on (after_event words e) (put_at (taken_by words e) entry index) s l ≡ entry
  at_own e s l listed same = by (event-entry words index v long entry e s l listed)
    where
      by : {n : ℕ} → EntryAfter words index entry e s l n → n ≡ entry
      by (stays was kept) = kept ∙ same
      by (set_by j word set) = set

  -- ---- a Mapping of the peer's that is taken
  module _ (x : Meets) (p : Bool) (l : ℕ) (may : listable l ≡ true) (same : x.another ≡ false → entry_on words index Used l ≡ entry) where
    abbrev event : LabelEvent
    event = Received x Mapping p (Label l)

    abbrev there : Option ℕ
    there = find_of (stands_for Used l) words

    abbrev room : Option ℕ
    room = room_at x.request x.spare words

    abbrev becomes : ℕ
    becomes = code_received Mapping p (code_at words Used l)

    abbrev change : Change
    change = placed_at x.another there room l becomes

    change_is : received_change words room x.another Mapping p l ≡ change
    unfolding received_change received_side
    change_is = rw may

    after_is : after_event words event ≡ changed (ended_at x.request words) change
    unfolding after_event received_with
    after_is = ap (changed (ended_at x.request words)) (received_same words x Mapping p room l ∙ change_is)

    takes_is : taken_by words event ≡ taken_at there change
    unfolding received_place received_side
    takes_is = ap (taken_at there) change_is

    pub received_sets : (received_of words x Mapping p (Label l)).0 ≡ Reception.Taken
        → entry_on (after_event words event) (put_at (taken_by words event) entry index) Used l ≡ entry
    unfolding after_event received_side received_with
    received_sets done =
        let effect : Effect words (received_of words x Mapping p (Label l)).1 Used l becomes = received-taken words v x Mapping p l may done in
        ⊎_elim
        (λ (t : (j : ℕ) × (taken_at there change ≡ Some j)).
        at-taken event Used l t.0 (takes_is ∙ t.1)
        (rw (after_is, placed_word (ended_at x.request words) l becomes t.0 x.another there room (room_is_free x.request x.spare words) t.1)
        (word_stands Used l becomes may (received_proper Mapping p (code_at words Used l) (code_proper words Used l)) (mapping-listed p (code_at words Used l)))))
        (λ (o : (x.another ≡ false) × (is_found there ≡ true)).
        at_own event Used l (rw (is_code (received_of words x Mapping p (Label l)).1 Used l effect.valid effect.there) (mapping-listed p (code_at words Used l))) (same o.0))
        (placed_cases x.another there room l becomes (mapping-listed p (code_at words Used l)) (has_room done))
      where
        has_room : (received_of words x Mapping p (Label l)).0 ≡ Reception.Taken → change ≢ NoRoom
        has_room taken full =
            let told : reception_of change ≡ Reception.Taken = sym (ap reception_of (received_same words x Mapping p room l ∙ change_is)) ∙ taken in
            let z : Reception.NoRoom ≡ Reception.Taken = rw full at told in
            no cc

  -- ---- a Mapping of ours that is accepted
  module _ (l : ℕ) (same : is_found (find_of (stands_for Given l) words) ≡ true → entry_on words index Given l ≡ entry) where
    abbrev ours : LabelEvent
    ours = Accepted Mapping l

    abbrev here : Option ℕ
    here = find_of (stands_for Given l) words

    abbrev free : Option ℕ
    free = find_of is_free words

    accepted_one : (n c : ℕ) → code_accepted Mapping n ≡ Some c → c ≢ 0
    unfolding code_accepted
    accepted_one n c e =
        by_test (leb n 1)
        (λ t. let one : Some 1 ≡ Some c = rw t at e in let is : 1 ≡ c = cc in λ z. omega arith)
        (λ f. let z : None ≡ Some c = rw f at e in no cc)

    module _ (may : listable l ≡ true) (c : ℕ) (code : code_accepted Mapping (code_at words Given l) ≡ Some c) where
      plan_is : plan_of words Mapping l ≡ Some (change_at here free l c)
      unfolding plan_of sent_side
      plan_is = rw (may, code)

      our_place : taken_by words ours ≡ taken_at here (change_at here free l c)
      our_place = rw plan_is

      our_words : after_event words ours ≡ changed words (change_at here free l c)
      unfolding after_event accepted_of
      our_words = ap (λ (plan : Option Change). (accepted_by words plan).1) plan_is

      code_sets : (accepted_of words Mapping l).0 ≡ Acceptance.Taken → entry_on (after_event words ours) (put_at (taken_by words ours) entry index) Given l ≡ entry
      unfolding placed_at accepted_of after_event sent_side
      code_sets done =
          let new : c ≢ 0 = accepted_one (code_at words Given l) c code in
          let told : acceptance_of (change_at here free l c) ≡ Acceptance.Taken = rw plan_is at done in
          let proper : Proper Given c = accepted_proper Mapping (code_at words Given l) c code in
          ⊎_elim
          (λ (t : (j : ℕ) × (taken_at here (change_at here free l c) ≡ Some j)).
          at-taken ours Given l t.0 (our_place ∙ t.1)
          (rw (our_words, placed_word words l c t.0 false here free (free_first words free refl) t.1) (word_stands Given l c may proper new)))
          (λ (o : (false ≡ false) × (is_found here ≡ true)).
          let a = accepted_taken words v Mapping l done in
          at_own ours Given l
          (rw (is_code (accepted_of words Mapping l).1 Given l a.effect.valid a.effect.there) (accepted_one (code_at words Given l) a.code a.rule)) (same o.1))
          (placed_cases false here free l c new (λ (full : change_at here free l c ≡ NoRoom). let z : Acceptance.NoRoom ≡ Acceptance.Taken = rw full at told in no cc))

    pub accepted_sets : (accepted_of words Mapping l).0 ≡ Acceptance.Taken → entry_on (after_event words ours) (put_at (taken_by words ours) entry index) Given l ≡ entry
    unfolding accepted_of plan_of sent_side
    accepted_sets done =
        by_test (listable l)
        (λ may. by may (code_accepted Mapping (code_at words Given l)) refl)
        (λ may. let z : Acceptance.NotAllowed ≡ Acceptance.Taken = rw may at done in no cc)
      where
        by : listable l ≡ true → (n : Option ℕ) → code_accepted Mapping (code_at words Given l) ≡ n
            → entry_on (after_event words ours) (put_at (taken_by words ours) entry index) Given l ≡ entry
        by may (Some c) e = code_sets may c e done
        by may None e = let z : Acceptance.NotAllowed ≡ Acceptance.Taken = rw (may, e) at done in no cc
