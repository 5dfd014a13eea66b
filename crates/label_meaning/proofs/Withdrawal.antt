-- The life of a label that we gave, over a run of events, in a valid list. Assumes nothing.
use Rattle.std.specs.Prelude.{None}
use Prim.Native.Nat.{ℕ}
use mathlib.Core.Bool.{Bool, true, false, true≢false, false≢true}
use mathlib.Core.List.{List, [], ◌∷◌}
use mathlib.Core.Logic.{◌≢◌, ⊎_elim}
use mathlib.Core.Path.{◌≡◌, refl, sym, ◌∙◌}
use native.Mathlib.Omega.{arith}
use lib.Dec.{eqb}
use borrow.Author.Tests.{eqb-true, eq-eqb}
use Rattle.octets.specs.Pick.{pick, both}
use Rattle.octets.proofs.Choice.{by_test, both_true, no}
use Rattle.label_list.specs.declared.LabelMessage.{LabelMessage}
use Rattle.label_list.specs.declared.LabelMessage.TheVariants.{Mapping, Withdraw, Release}
use Rattle.label_list.specs.declared.Side.TheVariants.{Given}
use Rattle.label_list.specs.Rules.{sent_side, code_accepted}
use Rattle.label_list.specs.Word.{listable}
use Rattle.label_events.specs.declared.Acceptance.{Acceptance}
use Rattle.label_events.specs.declared.Meets.{Meets}
use Rattle.label_events.specs.Accept.{plan_of, accepted_of}
use Rattle.label_events.specs.Change.{code_at}
use Rattle.label_events.specs.Reach.{Reach, Those, Label, Nothing}
use Rattle.label_meaning.specs.Event.{LabelEvent, Accepted, Acked, Received, Asked, Ended, Broken, after_event, Touches, named, among, Moves, given, withdrawn, withdraw-acked, back_acked, given_back, withdrawn_back, acked_back}
use Rattle.label_meaning.specs.Valid.{IsValid}
use Rattle.label_meaning.specs.Withdrawal.{after_events, touches_label, brings_ack, brings_release, ack_comes, release_comes, withdrawn_code, Freed, free-now, free-later, GivenEnds, by_release, by_both, ends_later, offers, withdraws, comes}
use Rattle.label_meaning.proofs.Life.{move_happens}
use Rattle.label_meaning.proofs.Moved.{every_move}
use Rattle.label_meaning.proofs.Step.{step_is_valid}

-- ---- what an event brings
data Brought (k : ℕ) : LabelEvent → Type 0 where
  an_ack : Brought k (Acked Withdraw k)
  a-release : {r : Meets} {p : Bool} {t : Reach} → Touches t k → Brought k (Received r Release p t)
  neither : {e : LabelEvent} → brings_ack k e ≡ false → brings_release k e ≡ false → Brought k e

touches_true : {t : Reach} {k : ℕ} → Touches t k → touches_label t k ≡ true
touches_true (named {k}) = eq-eqb k k refl
touches_true (among y) = y

true_touches : (t : Reach) (k : ℕ) → touches_label t k ≡ true → Touches t k
true_touches (Label l) k e = rw (eqb-true l k e) named
true_touches (Those reached) k e = among e
true_touches Nothing k e = absurd (false≢true e)

brought : (k : ℕ) (e : LabelEvent) → Brought k e
brought k (Accepted m l) = neither refl refl
brought k (Acked Mapping l) = neither refl refl
brought k (Acked Withdraw l) = by_test (eqb l k) (λ t. rw (eqb-true l k t) an_ack) (λ f. neither f refl)
brought k (Acked Release l) = neither refl refl
brought k (Received r Mapping p t) = neither refl refl
brought k (Received r Withdraw p t) = neither refl refl
brought k (Received r Release p t) = by_test (touches_label t k) (λ y. a-release (true_touches t k y)) (λ n. neither refl n)
brought k Asked = neither refl refl
brought k (Ended r) = neither refl refl
brought k Broken = neither refl refl

-- a label that is withdrawn moves by these alone
unmoved : {e : LabelEvent} {k c d : ℕ} → c ≢ 0 → c ≢ 1 → brings_ack k e ≡ false → brings_release k e ≡ false → Moves e Given k c d → ⊥
unmoved listed late a r given = listed refl
unmoved listed late a r withdrawn = late refl
unmoved listed late a r (withdraw-acked {k}) = true≢false (sym (eq-eqb k k refl) ∙ a)
unmoved listed late a r (back_acked {k}) = true≢false (sym (eq-eqb k k refl) ∙ a)
unmoved listed late a r (given_back t) = late refl
unmoved listed late a r (withdrawn_back t) = true≢false (sym (touches_true t) ∙ r)
unmoved listed late a r (acked_back t) = true≢false (sym (touches_true t) ∙ r)

-- ---- one event of a withdrawal
pub or_false : (b : Bool) → pick b true false ≡ b
or_false true = refl
or_false false = refl

or_true : (b : Bool) → pick b true true ≡ true
or_true true = refl
or_true false = refl

-- the same half again moves nothing
acked-again : {l k c d : ℕ} → c ≡ 8 → Moves (Acked Withdraw l) Given k c d → ⊥
acked-again z withdraw-acked = omega arith
acked-again z back_acked = omega arith

released-again : {k c d : ℕ} {r : Meets} {p : Bool} {t : Reach} → c ≡ 9 → Moves (Received r Release p t) Given k c d → ⊥
released-again z (given_back u) = omega arith
released-again z (withdrawn_back u) = omega arith
released-again z (acked_back u) = omega arith

module _ (words : List ℕ) (v : IsValid words) (k : ℕ) where
  stays : (e : LabelEvent) {c : ℕ} → code_at words Given k ≡ c → (Moves e Given k (code_at words Given k) (code_at (after_event words e) Given k) → ⊥) → code_at (after_event words e) Given k ≡ c
  stays e is none =
      ⊎_elim
      (λ (same : code_at (after_event words e) Given k ≡ code_at words Given k). same ∙ is)
      (λ (move : Moves e Given k (code_at words Given k) (code_at (after_event words e) Given k)). absurd (none move))
      (every_move words v e Given k)

  acked-at : (a r : Bool) → both a r ≡ false → code_at words Given k ≡ withdrawn_code a r → code_at (after_event words (Acked Withdraw k)) Given k ≡ withdrawn_code true r
  acked-at false false n is = move_happens words v withdraw-acked (λ z. omega arith) is tt
  acked-at false true n is = move_happens words v back_acked (λ z. omega arith) is tt
  acked-at true false n is = stays (Acked Withdraw k) is (acked-again is)
  acked-at true true n is = absurd (true≢false n)

  released-at : (a r : Bool) → both a r ≡ false → code_at words Given k ≡ withdrawn_code a r → (f : Meets) (p : Bool) (t : Reach) → Touches t k
      → code_at (after_event words (Received f Release p t)) Given k ≡ withdrawn_code a true
  released-at false false n is f p t touches = move_happens words v (withdrawn_back touches) (λ z. omega arith) is tt
  released-at true false n is f p t touches = move_happens words v (acked_back touches) (λ z. omega arith) is tt
  released-at false true n is f p t touches = stays (Received f Release p t) is (released-again is)
  released-at true true n is f p t touches = absurd (true≢false n)

  neither_at : (a r : Bool) → both a r ≡ false → code_at words Given k ≡ withdrawn_code a r → (e : LabelEvent) → brings_ack k e ≡ false → brings_release k e ≡ false
      → code_at (after_event words e) Given k ≡ withdrawn_code a r
  neither_at false false n is e x y = stays e is (unmoved (λ z. omega arith) (λ z. omega arith) x y)
  neither_at true false n is e x y = stays e is (unmoved (λ z. omega arith) (λ z. omega arith) x y)
  neither_at false true n is e x y = stays e is (unmoved (λ z. omega arith) (λ z. omega arith) x y)
  neither_at true true n is e x y = absurd (true≢false n)

  step-code : (a r : Bool) → both a r ≡ false → code_at words Given k ≡ withdrawn_code a r → (e : LabelEvent) → Brought k e
      → code_at (after_event words e) Given k ≡ withdrawn_code (pick a true (brings_ack k e)) (pick r true (brings_release k e))
  step-code a r n is e an_ack = rw (eq-eqb k k refl, or_true a, or_false r) (acked-at a r n is)
  step-code a r n is e (a-release {r = f} {p} {t} touches) = rw (touches_true touches, or_true r, or_false a) (released-at a r n is f p t touches)
  step-code a r n is e (neither x y) = rw (x, y, or_false a, or_false r) (neither_at a r n is e x y)

  -- The code of a withdrawn label says which of the two have come, and with one event more it does.
  pub withdrawn_step : (a r : Bool) → both a r ≡ false → code_at words Given k ≡ withdrawn_code a r → (e : LabelEvent)
      → code_at (after_event words e) Given k ≡ withdrawn_code (pick a true (brings_ack k e)) (pick r true (brings_release k e))
  withdrawn_step a r n is e = step-code a r n is e (brought k e)

-- ---- a run of events
events_valid : (es : List LabelEvent) (words : List ℕ) → IsValid words → IsValid (after_events words es)
events_valid [] words v = v
events_valid (e ∷ es) words v = events_valid es (after_event words e) (step_is_valid words v e)

-- a code of a withdrawn label allows no message of the giver's
not_allowed : (a r : Bool) → both a r ≡ false → (m : LabelMessage) → sent_side m ≡ Given → code_accepted m (withdrawn_code a r) ≡ None
unfolding code_accepted sent_side
not_allowed false false n Mapping s = refl
not_allowed false false n Withdraw s = refl
not_allowed false true n Mapping s = refl
not_allowed false true n Withdraw s = refl
not_allowed true false n Mapping s = refl
not_allowed true false n Withdraw s = refl
not_allowed true true n Mapping s = absurd (true≢false n)
not_allowed true true n Withdraw s = absurd (true≢false n)
not_allowed a r n Release s = no cc

-- so it is refused (6), and the list stays
pub refused : (words : List ℕ) (k : ℕ) (a r : Bool) → both a r ≡ false → code_at words Given k ≡ withdrawn_code a r → (m : LabelMessage) → sent_side m ≡ Given
    → accepted_of words m k ≡ (Acceptance.NotAllowed, words)
unfolding accepted_of plan_of
refused words k a r n is m s = by_test (listable k) (λ may. rw (may, s, is, not_allowed a r n m s)) (λ may. rw may)

or_assoc : (a b c : Bool) → pick (pick a true b) true c ≡ pick a true (pick b true c)
or_assoc true b c = refl
or_assoc false b c = refl

-- of two that have not both come at the end, not both had come before
both-before : (a r b s : Bool) → both (pick a true b) (pick r true s) ≡ false → both a r ≡ false
both-before true true b s n = n
both-before true false b s n = refl
both-before false r b s n = refl

run-code : (k : ℕ) (es : List LabelEvent) (words : List ℕ) → IsValid words → (a r : Bool) → code_at words Given k ≡ withdrawn_code a r
    → both (pick a true (ack_comes k es)) (pick r true (release_comes k es)) ≡ false
    → code_at (after_events words es) Given k ≡ withdrawn_code (pick a true (ack_comes k es)) (pick r true (release_comes k es))
run-code k [] words v a r is n = rw (or_false a, or_false r) is
run-code k (e ∷ es) words v a r is n =
    rw (← or_assoc a (brings_ack k e) (ack_comes k es), ← or_assoc r (brings_release k e) (release_comes k es))
    (run-code k es (after_event words e) (step_is_valid words v e) (pick a true (brings_ack k e)) (pick r true (brings_release k e))
    (withdrawn_step words v k a r (both-before a r _ _ n) is e)
    (rw (or_assoc a (brings_ack k e) (ack_comes k es), or_assoc r (brings_release k e) (release_comes k es)) n))

-- a label that is free stays so until a Mapping of it is accepted
pub absent_stays : (words : List ℕ) → IsValid words → (k : ℕ) (e : LabelEvent) → offers k e ≡ false → code_at words Given k ≡ 0 → code_at (after_event words e) Given k ≡ 0
absent_stays words v k e n is = stays words v k e is (unlisted is n)
  where
    unlisted : {e : LabelEvent} {c d : ℕ} → c ≡ 0 → offers k e ≡ false → Moves e Given k c d → ⊥
    unlisted z n given = true≢false (sym (eq-eqb k k refl) ∙ n)
    unlisted z n withdrawn = omega arith
    unlisted z n withdraw-acked = omega arith
    unlisted z n back_acked = omega arith
    unlisted z n (given_back t) = omega arith
    unlisted z n (withdrawn_back t) = omega arith
    unlisted z n (acked_back t) = omega arith

-- a Release frees a label that is given
given-released : (words : List ℕ) → IsValid words → (k : ℕ) → code_at words Given k ≡ 1 → (e : LabelEvent) → Brought k e → brings_release k e ≡ true → code_at (after_event words e) Given k ≡ 0
given-released words v k one e an_ack t = absurd (false≢true t)
given-released words v k one e (a-release touches) t = move_happens words v (given_back touches) (λ z. omega arith) one tt
given-released words v k one e (neither x y) t = absurd (true≢false (sym t ∙ y))

-- one that is given stays so until it is withdrawn or released
pub given_stays : (words : List ℕ) → IsValid words → (k : ℕ) (e : LabelEvent) → code_at words Given k ≡ 1 → withdraws k e ≡ false → code_at (after_event words e) Given k ≡ pick (brings_release k e) 0 1
given_stays words v k e one n = by (brought k e)
  where
    unreleased : {e : LabelEvent} {c d : ℕ} → c ≡ 1 → withdraws k e ≡ false → brings_release k e ≡ false → Moves e Given k c d → ⊥
    unreleased z n r given = omega arith
    unreleased z n r withdrawn = true≢false (sym (eq-eqb k k refl) ∙ n)
    unreleased z n r withdraw-acked = omega arith
    unreleased z n r back_acked = omega arith
    unreleased z n r (given_back t) = true≢false (sym (touches_true t) ∙ r)
    unreleased z n r (withdrawn_back t) = omega arith
    unreleased z n r (acked_back t) = omega arith

    by : Brought k e → code_at (after_event words e) Given k ≡ pick (brings_release k e) 0 1
    by b = by_test (brings_release k e) (λ t. rw t (given-released words v k one e b t)) (λ f. rw f (stays words v k e one (unreleased one n f)))

step_unoffered : (words : List ℕ) → IsValid words → (k : ℕ) (a r : Bool) → code_at words Given k ≡ withdrawn_code a r → (e : LabelEvent) → offers k e ≡ false
    → code_at (after_event words e) Given k ≡ withdrawn_code (pick a true (brings_ack k e)) (pick r true (brings_release k e))
step_unoffered words v k a r is e n =
    by_test
    (both a r)
    (λ t. let p = both_true a r t in rw (p.0, p.1) (absent_stays words v k e n (rw (p.0, p.1) at is)))
    (λ f. withdrawn_step words v k a r f is e)

-- Where no Mapping of it is accepted the code says to the end which of the two have come; free where both have.
pub withdrawn_unoffered : (k : ℕ) (es : List LabelEvent) (words : List ℕ) → IsValid words → (a r : Bool) → code_at words Given k ≡ withdrawn_code a r → comes (offers k) es ≡ false
    → code_at (after_events words es) Given k ≡ withdrawn_code (pick a true (ack_comes k es)) (pick r true (release_comes k es))
withdrawn_unoffered k [] words v a r is n = rw (or_false a, or_false r) is
withdrawn_unoffered k (e ∷ es) words v a r is n =
    let p = unoffered (offers k e) (comes (offers k) es) n in
    rw (← or_assoc a (brings_ack k e) (ack_comes k es), ← or_assoc r (brings_release k e) (release_comes k es))
    (withdrawn_unoffered k es (after_event words e) (step_is_valid words v e) (pick a true (brings_ack k e)) (pick r true (brings_release k e)) (step_unoffered words v k a r is e p.0) p.1)
  where
    unoffered : (b c : Bool) → pick b true c ≡ false → (b ≡ false) × (c ≡ false)
    unoffered true c e = absurd (true≢false e)
    unoffered false c e = (refl, e)

module _ (words : List ℕ) (v : IsValid words) (k : ℕ) (two : code_at words Given k ≡ 2) (es : List LabelEvent) (waits : both (ack_comes k es) (release_comes k es) ≡ false) where
  -- As long as not both have come, the code says which one has;
  pub withdrawn_run : code_at (after_events words es) Given k ≡ withdrawn_code (ack_comes k es) (release_comes k es)
  withdrawn_run = run-code k es words v false false two waits

  run_valid : IsValid (after_events words es)
  run_valid = events_valid es words v

  -- the next event that is the ACK of its Withdraw or a Release of it is counted too, and at the second of them the label is free.
  pub withdrawn_ends : (e : LabelEvent)
      → code_at (after_event (after_events words es) e) Given k ≡ withdrawn_code (pick (ack_comes k es) true (brings_ack k e)) (pick (release_comes k es) true (brings_release k e))
  withdrawn_ends e = withdrawn_step (after_events words es) run_valid k (ack_comes k es) (release_comes k es) waits withdrawn_run e

  -- Until then it is offered to nobody: a Mapping or Withdraw of it is refused (6), and the list stays.
  pub not-offered : (m : LabelMessage) → sent_side m ≡ Given → accepted_of (after_events words es) m k ≡ (Acceptance.NotAllowed, after_events words es)
  not-offered m side = refused (after_events words es) k (ack_comes k es) (release_comes k es) waits withdrawn_run m side

-- ---- a label that is given ends in these two ways
-- whoever has seen both has seen it free
both-freed : (k : ℕ) (es : List LabelEvent) (words : List ℕ) → IsValid words → (a r : Bool) → code_at words Given k ≡ withdrawn_code a r
    → pick a true (ack_comes k es) ≡ true → pick r true (release_comes k es) ≡ true → Freed k words es
both-freed k [] words v a r is x y = free-now (is ∙ rw (sym (or_false a) ∙ x, sym (or_false r) ∙ y))
both-freed k (e ∷ es) words v a r is x y =
    by_test
    (both a r)
    (λ t. let p = both_true a r t in free-now (is ∙ rw (p.0, p.1)))
    (λ n. free-later (both-freed k es (after_event words e) (step_is_valid words v e) (pick a true (brings_ack k e)) (pick r true (brings_release k e))
    (withdrawn_step words v k a r n is e) (or_assoc a (brings_ack k e) (ack_comes k es) ∙ x) (or_assoc r (brings_release k e) (release_comes k es) ∙ y)))

-- and it is free only where both were seen
freed-both : (k : ℕ) (es : List LabelEvent) (words : List ℕ) → IsValid words → (a r : Bool) → code_at words Given k ≡ withdrawn_code a r → Freed k words es
    → both (pick a true (ack_comes k es)) (pick r true (release_comes k es)) ≡ true
freed-both k es words v a r is (free-now z) = seen-both a r (ack_comes k es) (release_comes k es) (sym is ∙ z)
  where
    seen-both : (a r b s : Bool) → withdrawn_code a r ≡ 0 → both (pick a true b) (pick r true s) ≡ true
    seen-both false false b s z = absurd (omega arith)
    seen-both true false b s z = absurd (omega arith)
    seen-both false true b s z = absurd (omega arith)
    seen-both true true b s z = refl
freed-both k (e ∷ es) words v a r is (free-later f) =
    by_test
    (both a r)
    (λ t. let p = both_true a r t in rw (p.0, p.1))
    (λ n. rw (← or_assoc a (brings_ack k e) (ack_comes k es), ← or_assoc r (brings_release k e) (release_comes k es))
    (freed-both k es (after_event words e) (step_is_valid words v e) (pick a true (brings_ack k e)) (pick r true (brings_release k e)) (withdrawn_step words v k a r n is e) f))

-- the moves of a label that is given
data FromGiven (k : ℕ) : LabelEvent → Type 0 where
  is_withdrawn : FromGiven k (Accepted Withdraw k)
  is_released : {e : LabelEvent} → brings_release k e ≡ true → FromGiven k e

from_given : {e : LabelEvent} {k c d : ℕ} → c ≡ 1 → Moves e Given k c d → FromGiven k e
from_given z given = absurd (omega arith)
from_given z withdrawn = is_withdrawn
from_given z withdraw-acked = absurd (omega arith)
from_given z back_acked = absurd (omega arith)
from_given z (given_back t) = is_released (touches_true t)
from_given z (withdrawn_back t) = absurd (omega arith)
from_given z (acked_back t) = absurd (omega arith)

-- A label that is given becomes free in a run only by a Release of it while it is given, or by both a Release and the ACK of its Withdraw, in either order;
pub given_ends : (k : ℕ) (es : List LabelEvent) (words : List ℕ) → IsValid words → code_at words Given k ≡ 1 → Freed k words es → GivenEnds k words es
given_ends k es words v one (free-now z) = absurd (omega arith)
given_ends k (e ∷ es) words v one (free-later f) =
    ⊎_elim
    (λ (same : code_at (after_event words e) Given k ≡ code_at words Given k). ends_later (given_ends k es (after_event words e) (step_is_valid words v e) (same ∙ one) f))
    (λ (move : Moves e Given k (code_at words Given k) (code_at (after_event words e) Given k)). by_move e (from_given one move) f)
    (every_move words v e Given k)
  where
    by_move : (e : LabelEvent) → FromGiven k e → Freed k (after_event words e) es → GivenEnds k words (e ∷ es)
    by_move e is_withdrawn f =
        let p = both_true _ _ (freed-both k es (after_event words (Accepted Withdraw k)) (step_is_valid words v (Accepted Withdraw k)) false false (move_happens words v withdrawn (λ z. omega arith) one tt) f) in
        by_both one p.0 p.1
    by_move e (is_released t) f = by_release one t

-- and in these two ways it always does.
pub ends_free : (k : ℕ) (es : List LabelEvent) (words : List ℕ) → IsValid words → GivenEnds k words es → Freed k words es
ends_free k (e ∷ es) words v (by_release one t) = free-later (free-now (given-released words v k one e (brought k e) t))
ends_free k (e ∷ es) words v (by_both one a r) =
    free-later (both-freed k es (after_event words (Accepted Withdraw k)) (step_is_valid words v (Accepted Withdraw k)) false false (move_happens words v withdrawn (λ z. omega arith) one tt) a r)
ends_free k (e ∷ es) words v (ends_later f) = free-later (ends_free k es (after_event words e) (step_is_valid words v e) f)
ends_free k [] words v x'' = elim x'' [ ]
