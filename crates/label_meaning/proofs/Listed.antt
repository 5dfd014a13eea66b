-- Where labels stand: no event lists a label at a place where it did not stand, but a Mapping that takes a word there. Assumes nothing.
use Rattle.std.specs.Prelude.{Option, Some, None}
use Prim.Native.Nat.{ℕ, ◌+◌, ◌*◌, ◌<◌}
use mathlib.Core.Bool.{Bool, true, false, true≢false}
use mathlib.Core.List.{List}
use mathlib.Core.Logic.{◌≢◌, inr, ⊎_elim}
use mathlib.Core.Path.{◌≡◌, refl, sym, ◌∙◌}
use native.Mathlib.Omega.{arith}
use lib.Dec.{eqb}
use lib.ListN.{length, get_or, set, length-set}
use borrow.Author.Tests.{eqb-true, eq-eqb, ne_eqb}
use Rattle.octets.specs.Pick.{pick}
use Rattle.octets.proofs.Choice.{by_test, no, pick_all}
use Rattle.label_list.specs.declared.LabelMessage.{LabelMessage}
use Rattle.label_list.specs.declared.LabelMessage.TheVariants.{Mapping, Withdraw, Release}
use Rattle.label_list.specs.declared.Side.{Side}
use Rattle.label_list.specs.declared.Side.TheVariants.{Given, Used}
use Rattle.label_list.specs.declared.SweepRule.{SweepRule}
use Rattle.label_list.specs.declared.SweepRule.TheVariants.{WithdrawAll, ReleaseAll, AfterBreak}
use Rattle.label_list.specs.Find.{find_of}
use Rattle.label_list.specs.Rules.{sent_side, received_side, code_accepted, code_acked, code_received, code_swept}
use Rattle.label_list.specs.Sweep.{word_swept, word_reached, reached_of}
use Rattle.label_list.specs.Word.{label_count, label_of, code_of, word_of, is_free, is_request, lists_label, listable, on_side, request_word, stands_for}
use Rattle.label_list.proofs.OpenIds.{request_inside}
use Rattle.label_list.proofs.Reached.{found_in_lem, found_place, found_passes}
use Rattle.label_list.proofs.Standing.{side-listed, one_side, stands_parts, parts_stands, free_stands, request_stands}
use Rattle.label_events.specs.declared.Meets.{Meets}
use Rattle.label_events.specs.Accept.{plan_by, plan_of, plan_change, accepted_by, accepted_of}
use Rattle.label_events.specs.Ack.{acked_at}
use Rattle.label_events.specs.Change.{code_in, code_at, change_of, changed, take_free, change_at, placed_at, taken_at}
use Rattle.label_events.specs.Reach.{Reach, Label, Those, Nothing}
use Rattle.label_events.specs.Receive.{received_place, moves_by, received_change, every_received, received_with, received_of}
use Rattle.label_events.specs.Requests.{ended_at, room_at}
use Rattle.label_events.proofs.Ended.{ended_find}
use Rattle.label_events.proofs.Received.{received_same}
use Rattle.label_meaning.specs.Event.{LabelEvent, Accepted, Acked, Received, Asked, Ended, Broken, after_event}
use Rattle.label_meaning.specs.Keep.{accepted_takes, taken_by, StandsOld}
use Rattle.label_meaning.proofs.Effect.{at-index, FreeAt, free_first}
use Rattle.label_meaning.proofs.Proper.{Proper, accepted_proper, acked_proper, received_proper}
use Rattle.label_meaning.proofs.Step.{code_proper, room_is_free}
use Rattle.label_meaning.proofs.Swept.{swept_at, all_reached}

-- ---- a test of words that a free word does not pass: what passes it passed it at that place, but at the place that is taken
abbrev PassesOld : (ℕ → Bool) → List ℕ → List ℕ → Option ℕ → Type 0
PassesOld test words after place = (i : ℕ) → place ≢ Some i → test (get_or after i 0) ≡ true → test (get_or words i 0) ≡ true

module _ (test : ℕ → Bool) (free : test 0 ≡ false) where
  same_passes : (words : List ℕ) (place : Option ℕ) → PassesOld test words words place
  same_passes words place i apart t = t

  then_passes : (words mid after : List ℕ) (place : Option ℕ) → PassesOld test words mid None → PassesOld test mid after place → PassesOld test words after place
  then_passes words mid after place x y i apart t = x i (λ z. no cc) (y i apart t)

  module _ (words : List ℕ) (i w : ℕ) (inside : i < length words) where
    abbrev Here : ℕ → ℕ → Type 0
    Here j x = test x ≡ true → test (get_or words j 0) ≡ true

    taken-passes : PassesOld test words (set words i w) (Some i)
    taken-passes j apart = at-index words i w inside (Here j) j (λ e t. absurd (apart (rw e))) (λ e t. t)

    own_passes : (test w ≡ true → test (get_or words i 0) ≡ true) → PassesOld test words (set words i w) None
    own_passes own j apart = at-index words i w inside (Here j) j (λ e t. rw e (own t)) (λ e t. t)

    none_passes : test w ≡ false → PassesOld test words (set words i w) None
    none_passes none = own_passes (λ t. absurd (true≢false (sym t ∙ none)))

  ended-passes : (words : List ℕ) (request : Option ℕ) → PassesOld test words (ended_at request words) None
  unfolding ended_at
  ended-passes words (Some i) =
      by_test (is_request (get_or words i 0)) (λ t. rw t (none_passes words i 0 (request_inside words i t) free)) (λ f. rw f (same_passes words None))
  ended-passes words None = same_passes words None

  -- a label is written at its own place, or takes the room
  module _ (words : List ℕ) (s : Side) (k c : ℕ)
      (own : (i : ℕ) → stands_for s k (get_or words i 0) ≡ true → test (word_of k c) ≡ true → test (get_or words i 0) ≡ true) where
    take-passes : (g : Option ℕ) (w : ℕ) → FreeAt words g → PassesOld test words (changed words (take_free g w)) (taken_at None (take_free g w))
    unfolding changed
    take-passes (Some j) w room = taken-passes words j w room.0
    take-passes None w room = same_passes words None

    absent-passes : (g : Option ℕ) → FreeAt words g → PassesOld test words (changed words (change_at None g k c)) (taken_at None (change_at None g k c))
    unfolding change_at changed
    absent-passes g room = by_test (eqb c 0) (λ t. rw t (same_passes words None)) (λ f. rw f (take-passes g (word_of k c) room))

    place_of_lem : (i : ℕ) → Some i ≡ find_of (stands_for s k) words → i < length words
    place_of_lem i e = found_place words (Some i) i (found_in_lem (stands_for s k) words e) refl

    placed_passes : (b : Bool) (f g : Option ℕ) → f ≡ find_of (stands_for s k) words → FreeAt words g
        → PassesOld test words (changed words (placed_at b f g k c)) (taken_at f (placed_at b f g k c))
    unfolding placed_at change_at changed
    placed_passes true (Some i) (Some j) e room =
        then_passes words (set words i 0) (set (set words i 0) j (word_of k c)) (Some j) (none_passes words i 0 (place_of_lem i e) free)
        (taken-passes (set words i 0) j (word_of k c) (rw (length-set words i 0) room.0))
    placed_passes true (Some i) None e room = same_passes words None
    placed_passes true None g e room = absent-passes g room
    placed_passes false (Some i) g e room = own_passes words i (word_of k c) (place_of_lem i e) (own i (found_passes (stands_for s k) words i e refl))
    placed_passes false None g e room = absent-passes g room

-- ---- words that list a label
abbrev pub ListedOld : List ℕ → List ℕ → Option ℕ → Type 0
ListedOld words after place = PassesOld lists_label words after place

free_lists : lists_label 0 ≡ false
unfolding lists_label on_side
free_lists = refl

pub stands_lists : (s : Side) (l w : ℕ) → stands_for s l w ≡ true → lists_label w ≡ true
unfolding lists_label
stands_lists Given l w e = rw (stands_parts Given l w e).0
stands_lists Used l w e =
    let on : on_side Used (code_of w) ≡ true = (stands_parts Used l w e).0 in
    pick_all (λ (b : Bool). b ≡ true) (on_side Given (code_of w)) refl on

pub same_listed : (words : List ℕ) (place : Option ℕ) → ListedOld words words place
same_listed = same_passes lists_label free_lists

pub then_listed : (words mid after : List ℕ) (p : Option ℕ) → ListedOld words mid None → ListedOld mid after p → ListedOld words after p
then_listed = then_passes lists_label free_lists

pub ended-listed : (words : List ℕ) (r : Option ℕ) → ListedOld words (ended_at r words) None
ended-listed = ended-passes lists_label free_lists

pub acked-listed : (words : List ℕ) (m : LabelMessage) (l : ℕ) (f : Option ℕ) → f ≡ find_of (stands_for (sent_side m) l) words → ListedOld words (acked_at f words m l) None
unfolding acked_at
acked-listed words m l (Some i) e =
    own_passes lists_label free_lists words i _ (found_place words (Some i) i (found_in_lem (stands_for (sent_side m) l) words e) refl)
    (λ t. stands_lists (sent_side m) l (get_or words i 0) (found_passes (stands_for (sent_side m) l) words i e refl))
acked-listed words m l None e = same_listed words None

pub placed_listed : (words : List ℕ) (s : Side) (k c : ℕ) (b : Bool) (f g : Option ℕ) → f ≡ find_of (stands_for s k) words → FreeAt words g
    → ListedOld words (changed words (placed_at b f g k c)) (taken_at f (placed_at b f g k c))
placed_listed words s k c = placed_passes lists_label free_lists words s k c (λ i own t. stands_lists s k (get_or words i 0) own)

-- ---- a sweep: a code of a side comes of a code of that side
no_side : (s : Side) → on_side s 0 ≡ true → ⊥
no_side s on = side-listed s 0 on refl

pub kept_side : (r : SweepRule) (s : Side) (c : ℕ) → on_side s (code_swept r c) ≡ true → on_side s c ≡ true
unfolding code_swept code_received on_side
kept_side WithdrawAll s c t =
    by_test (eqb c 3)
    (λ e. side_of_three s (rw e at t) (eqb-true c 3 e))
    (λ e. by_test (eqb c 6) (λ f. absurd (no_side s (rw (e, f) at t))) (λ f. rw (e, f) at t))
  where
    side_of_three : (s : Side) → on_side s 4 ≡ true → c ≡ 3 → on_side s c ≡ true
    side_of_three Given z e = absurd (true≢false (sym z))
    side_of_three Used z e = rw e
kept_side ReleaseAll s c t =
    by_test (eqb c 1) (λ e. absurd (no_side s (rw e at t)))
    (λ e. by_test (eqb c 2) (λ f. side_of_two s (rw (e, f) at t) (eqb-true c 2 f))
    (λ f. by_test (eqb c 8) (λ g. absurd (no_side s (rw (e, f, g) at t))) (λ g. rw (e, f, g) at t)))
  where
    side_of_two : (s : Side) → on_side s 9 ≡ true → c ≡ 2 → on_side s c ≡ true
    side_of_two Given z e = rw e
    side_of_two Used z e = absurd (true≢false (sym z))
kept_side AfterBreak s c t = by_test (eqb c 6) (λ e. absurd (no_side s (rw e at t))) (λ e. rw e at t)

-- ---- labels by their side
pub same_old : (words : List ℕ) (place : Option ℕ) → StandsOld words words place
same_old words place s l i apart t = t

pub then_old : (words mid after : List ℕ) (place : Option ℕ) → StandsOld words mid None → StandsOld mid after place → StandsOld words after place
then_old words mid after place x y s l = then_passes (stands_for s l) (free_stands s l) words mid after place (x s l) (y s l)

-- the word of a label stands for nothing else
pub word_only : (s : Side) (l c : ℕ) → l < label_count → Proper s c → (t : Side) (k : ℕ) → stands_for t k (word_of l c) ≡ true → (t ≡ s) × (k ≡ l)
unfolding word_of
word_only s l c high =
    ⊎_elim
    (λ (z : c ≡ 0). λ t k. rw (eq-eqb c 0 z) (λ p. absurd (true≢false (sym p ∙ free_stands t k))))
    (λ (on : on_side s c ≡ true). λ t k. rw (ne_eqb c 0 (side-listed s c on)) (λ p.
    let parts = stands_parts t k (l + label_count * c) p in
    let code : code_of (l + label_count * c) ≡ c = omega arith in
    (one_side t s c (rw code at parts.0) on, omega (arith, parts.1))))

-- so where it is written over its own word, that stood for the same
own_stood : (words : List ℕ) (s : Side) (k c : ℕ) → Proper s c → (t : Side) (l i : ℕ) → stands_for s k (get_or words i 0) ≡ true
    → stands_for t l (word_of k c) ≡ true → stands_for t l (get_or words i 0) ≡ true
own_stood words s k c proper t l i own stands =
    let high : k < label_count = omega (arith, (stands_parts s k (get_or words i 0) own).1) in
    let is = word_only s k c high proper t l stands in
    rw (is.0, is.1) own

placed_old : (words : List ℕ) (s : Side) (k c : ℕ) → Proper s c → (b : Bool) (f g : Option ℕ) → f ≡ find_of (stands_for s k) words → FreeAt words g
    → StandsOld words (changed words (placed_at b f g k c)) (taken_at f (placed_at b f g k c))
placed_old words s k c proper b f g e room t l =
    placed_passes (stands_for t l) (free_stands t l) words s k c (own_stood words s k c proper t l) b f g e room

acked-old : (words : List ℕ) (m : LabelMessage) (l : ℕ) (f : Option ℕ) → f ≡ find_of (stands_for (sent_side m) l) words → StandsOld words (acked_at f words m l) None
unfolding acked_at
acked-old words m l (Some i) e s k =
    let own : stands_for (sent_side m) l (get_or words i 0) ≡ true = found_passes (stands_for (sent_side m) l) words i e refl in
    let code : ℕ = code_of (get_or words i 0) in
    own_passes (stands_for s k) (free_stands s k) words i (word_of l (code_acked m code)) (found_place words (Some i) i (found_in_lem (stands_for (sent_side m) l) words e) refl)
    (own_stood words (sent_side m) l (code_acked m code) (acked_proper m code (inr (stands_parts (sent_side m) l (get_or words i 0) own).0)) s k i own)
acked-old words m l None e s k = same_passes (stands_for s k) (free_stands s k) words None

ended-old : (words : List ℕ) (request : Option ℕ) → StandsOld words (ended_at request words) None
ended-old words request s l = ended-passes (stands_for s l) (free_stands s l) words request

-- a word that a rule rewrites stood for what it stands for
swept_stood : (r : SweepRule) (s : Side) (l w : ℕ) → stands_for s l (word_swept r w) ≡ true → stands_for s l w ≡ true
unfolding word_swept word_of
swept_stood r s l w stands =
    let c : ℕ = code_swept r (code_of w) in
    by_test (eqb c 0)
    (λ z. let none : stands_for s l 0 ≡ true = rw z at stands in absurd (true≢false (sym none ∙ free_stands s l)))
    (λ n.
    let parts = stands_parts s l (label_of w + label_count * c) (rw n at stands) in
    let code : code_of (label_of w + label_count * c) ≡ c = omega arith in
    parts_stands s l w (kept_side r s (code_of w) (rw code at parts.0)) (omega (arith, parts.1)))

reach_old : (words : List ℕ) (reached : ℕ → Bool) (r : SweepRule) → StandsOld words (reached_of words reached r) None
unfolding word_reached
reach_old words reached r s l i apart t =
    let w : ℕ = get_or words i 0 in
    let there : stands_for s l (pick (reached (label_of w)) (word_swept r w) w) ≡ true = rw (swept_at words reached r i) at t in
    by_test (reached (label_of w)) (λ y. swept_stood r s l w (rw y at there)) (λ n. rw n at there)

module _ (words : List ℕ) where
  -- ---- a message of ours: a Mapping, or one whose label is listed
  next-old : (n : Option ℕ) (l : ℕ) → code_accepted Mapping (code_at words Given l) ≡ n
      → StandsOld words (accepted_by words (plan_by n words Given l)).1 (taken_at (find_of (stands_for Given l) words) (plan_change (plan_by n words Given l)))
  unfolding placed_at sent_side
  next-old (Some c) l e =
      placed_old words Given l c (accepted_proper Mapping (code_at words Given l) c e) false (find_of (stands_for Given l) words) (find_of is_free words) refl
      (free_first words (find_of is_free words) refl)
  next-old None l e = same_old words None

  listed_next : (m : LabelMessage) → code_accepted m 0 ≡ None → (l : ℕ) (n : Option ℕ) → code_accepted m (code_at words (sent_side m) l) ≡ n
      → StandsOld words (accepted_by words (plan_by n words (sent_side m) l)).1 None
  unfolding code_in change_at changed
  listed_next m none l None e = same_old words None
  listed_next m none l (Some c) e = by (find_of (stands_for (sent_side m) l) words) refl
    where
      by : (f : Option ℕ) → f ≡ find_of (stands_for (sent_side m) l) words → StandsOld words (changed words (change_of words (sent_side m) l c)) None
      by (Some i) q =
          let proper : Proper (sent_side m) c = accepted_proper m (code_at words (sent_side m) l) c e in
          rw (← q) (λ s k.
          own_passes (stands_for s k) (free_stands s k) words i (word_of l c) (found_place words (Some i) i (found_in_lem (stands_for (sent_side m) l) words q) refl)
          (own_stood words (sent_side m) l c proper s k i (found_passes (stands_for (sent_side m) l) words i q refl)))
      by None q = let z : None ≡ Some c = sym none ∙ rw (← q) at e in no cc

  accepted_old : (m : LabelMessage) (l : ℕ) → StandsOld words (accepted_of words m l).1 (accepted_takes words m l)
  unfolding accepted_of plan_of sent_side code_accepted
  accepted_old Mapping l =
      by_test (listable l) (λ may. rw may (next-old (code_accepted Mapping (code_at words Given l)) l refl)) (λ may. rw may (same_old words None))
  accepted_old Withdraw l =
      by_test (listable l) (λ may. rw may (listed_next Withdraw refl l (code_accepted Withdraw (code_at words Given l)) refl)) (λ may. rw may (same_old words None))
  accepted_old Release l =
      by_test (listable l) (λ may. rw may (listed_next Release refl l (code_accepted Release (code_at words Used l)) refl)) (λ may. rw may (same_old words None))

  -- ---- one of the peer's, in whose list the Request has ended
  module _ (x : Meets) (m : LabelMessage) (p : Bool) where
    abbrev mid : List ℕ
    mid = ended_at x.request words

    abbrev room : Option ℕ
    room = room_at x.request x.spare words

    named_old : (l : ℕ) → StandsOld mid (changed mid (received_change mid room x.another m p l)) (taken_at (find_of (stands_for (received_side m) l) mid) (received_change mid room x.another m p l))
    unfolding received_change changed
    named_old l =
        by_test (listable l)
        (λ may. rw may
        (placed_old mid (received_side m) l (code_received m p (code_at mid (received_side m) l))
        (received_proper m p (code_at mid (received_side m) l) (code_proper mid (received_side m) l)) (moves_by m x.another) (find_of (stands_for (received_side m) l) mid) room refl
        (room_is_free x.request x.spare words)))
        (λ may. rw may (same_old mid None))

    every_old : (reached : ℕ → Bool) → StandsOld mid (every_received m reached mid) None
    unfolding every_received
    every_old reached = by m
      where
        by : (n : LabelMessage) → StandsOld mid (every_received n reached mid) None
        by Mapping = same_old mid None
        by Withdraw = reach_old mid reached WithdrawAll
        by Release = reach_old mid reached ReleaseAll

    received-old : (t : Reach) → StandsOld words (received_of words x m p t).1 (taken_by words (Received x m p t))
    unfolding received_with received_place
    received-old (Label l) =
        then_old words mid (changed mid (received_change mid room x.another m p l)) (taken_by words (Received x m p (Label l))) (ended-old words x.request)
        (rw (← received_same words x m p room l, ← ended_find words (received_side m) l x.request) (named_old l))
    received-old (Those reached) = then_old words mid (every_received m reached mid) None (ended-old words x.request) (every_old reached)
    received-old Nothing = ended-old words x.request

  asked-old : (g : Option ℕ) → FreeAt words g → StandsOld words (changed words (take_free g request_word)) None
  unfolding changed
  asked-old (Some j) free s l = none_passes (stands_for s l) (free_stands s l) words j request_word free.0 (request_stands s l request_word refl)
  asked-old None free s l = same_passes (stands_for s l) (free_stands s l) words None

  -- Of every event: a label that stands at a place stood there, unless a word is taken there.
  pub event-old : (e : LabelEvent) → StandsOld words (after_event words e) (taken_by words e)
  unfolding after_event
  event-old (Accepted m l) = accepted_old m l
  event-old (Acked m l) = acked-old words m l (find_of (stands_for (sent_side m) l) words) refl
  event-old (Received x m p t) = received-old x m p t
  event-old Asked = asked-old (find_of is_free words) (free_first words (find_of is_free words) refl)
  event-old (Ended request) = ended-old words request
  event-old Broken = rw (all_reached words AfterBreak) (reach_old words (λ k. true) AfterBreak)
