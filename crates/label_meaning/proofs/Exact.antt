-- A Withdraw or Release of the peer's acts on exactly the labels that it touches, named or not. Assumes nothing.
use Rattle.std.specs.Prelude.{Option}
use Prim.Native.Nat.{ℕ, suc, ◌<◌}
use mathlib.Core.Bool.{Bool, true, false, true≢false}
use mathlib.Core.List.{List, [], ◌∷◌, map}
use mathlib.Core.Logic.{◌≢◌, ⊎_elim}
use mathlib.Core.Path.{◌≡◌, refl, sym, ap, ◌∙◌}
use native.Mathlib.Omega.{arith}
use lib.Dec.{eqb}
use lib.ListN.{length, get_or}
use borrow.Author.Tests.{eqb-true, eqb-false}
use Rattle.octets.proofs.Choice.{by_test}
use Rattle.label_list.specs.declared.LabelMessage.{LabelMessage}
use Rattle.label_list.specs.declared.LabelMessage.TheVariants.{Mapping, Withdraw, Release}
use Rattle.label_list.specs.declared.Side.{Side}
use Rattle.label_list.specs.declared.Side.TheVariants.{Given, Used}
use Rattle.label_list.specs.declared.SweepRule.{SweepRule}
use Rattle.label_list.specs.Rules.{received_side, code_received}
use Rattle.label_list.specs.Sweep.{word_reached, reached_of}
use Rattle.label_list.specs.Word.{label_of, code_of, on_side, listable}
use Rattle.label_list.proofs.Standing.{parts_stands}
use Rattle.label_events.specs.declared.Meets.{Meets}
use Rattle.label_events.specs.Change.{code_in, code_at, change_at, placed_at, changed}
use Rattle.label_events.specs.Reach.{Reach, Label, Those, Nothing}
use Rattle.label_events.specs.Receive.{received_change, every_received, received_with}
use Rattle.label_events.specs.Requests.{ended_at, room_at}
use Rattle.label_events.proofs.Ended.{ended-code}
use Rattle.label_meaning.specs.Event.{Received, after_event, Touches, named, among, Moves, taken, taken-again, taken_bare, asked_back, bare_withdrawn, given_back, withdrawn_back, acked_back}
use Rattle.label_meaning.specs.Exact.{ActsOnExactly}
use Rattle.label_meaning.specs.Valid.{IsValid}
use Rattle.label_meaning.specs.Withdrawal.{is_mapping}
use Rattle.label_meaning.proofs.Besides.{RuleOf, withdraws, releases, off_stays}
use Rattle.label_meaning.proofs.Life.{withdraw_happens, release_happens}
use Rattle.label_meaning.proofs.Moved.{every_move}
use Rattle.label_meaning.proofs.Room.{nowhere}
use Rattle.label_meaning.proofs.Taken.{absent-rule, stays_where, stands_code}
use Rattle.label_meaning.proofs.Unlisted.{ended_stays}

-- a Withdraw or Release moves no label that is absent, and only ones that it touches, on its own side
from_none : {x : Meets} {m : LabelMessage} {p : Bool} {t : Reach} {s : Side} {k c d : ℕ} → Moves (Received x m p t) s k c d → is_mapping m ≡ false → c ≡ 0 → ⊥
from_none taken other z = true≢false other
from_none taken-again other z = true≢false other
from_none taken_bare other z = true≢false other
from_none (asked_back touches) other z = omega arith
from_none (bare_withdrawn touches) other z = omega arith
from_none (given_back touches) other z = omega arith
from_none (withdrawn_back touches) other z = omega arith
from_none (acked_back touches) other z = omega arith

move_touches : {x : Meets} {m : LabelMessage} {p : Bool} {t : Reach} {s : Side} {k c d : ℕ} → Moves (Received x m p t) s k c d → is_mapping m ≡ false
    → (s ≡ received_side m) × Touches t k
unfolding received_side
move_touches taken other = absurd (true≢false other)
move_touches taken-again other = absurd (true≢false other)
move_touches taken_bare other = absurd (true≢false other)
move_touches (asked_back touches) other = (refl, touches)
move_touches (bare_withdrawn touches) other = (refl, touches)
move_touches (given_back touches) other = (refl, touches)
move_touches (withdrawn_back touches) other = (refl, touches)
move_touches (acked_back touches) other = (refl, touches)

map_same : (g : ℕ → ℕ) (ws : List ℕ) → ((i : ℕ) → i < length ws → g (get_or ws i 0) ≡ get_or ws i 0) → map g ws ≡ ws
map_same g [] same = refl
map_same g (w ∷ ws) same = rw (same 0 (omega arith), map_same g ws (λ i l. same (suc i) (omega arith)))

-- a rule of a side on which none of those that it reaches stands
rule_stays : (words : List ℕ) → IsValid words → (reached : ℕ → Bool) {r : SweepRule} {s : Side} → RuleOf r s → ((k : ℕ) → reached k ≡ true → code_at words s k ≡ 0)
    → reached_of words reached r ≡ words
unfolding word_reached
rule_stays words v reached {r} {s} rule none =
    map_same (word_reached reached r) words (λ i l.
    let w : ℕ = get_or words i 0 in
    by_test (reached (label_of w))
    (λ t. rw t
    (by_test (on_side s (code_of w))
    (λ on. absurd (stands_code words s (label_of w) i (parts_stands s (label_of w) w on refl) (none (label_of w) t)))
    (λ off. off_stays words v rule i off)))
    (λ f. rw f))

-- a listed label that is touched
listed-code : (words : List ℕ) → IsValid words → (x : Meets) (m : LabelMessage) (p : Bool) → is_mapping m ≡ false → (t : Reach) (k : ℕ) → Touches t k → code_at words (received_side m) k ≢ 0
    → code_at (after_event words (Received x m p t)) (received_side m) k ≡ code_received m p (code_at words (received_side m) k)
unfolding received_side code_received
listed-code words v x Mapping p other t k touches listed = absurd (true≢false other)
listed-code words v x Withdraw p other t k touches listed =
    let c : ℕ = code_at words Used k in
    withdraw_happens words v x p t k c (code_received Withdraw p c) touches refl listed (λ q. refl)
listed-code words v x Release p other t k touches listed =
    let c : ℕ = code_at words Given k in
    release_happens words v x p t k c (code_received Release p c) touches refl listed (λ q. refl)

-- none of those that are touched is listed: no word changes
named_none : (words : List ℕ) (room : Option ℕ) (another : Bool) (m : LabelMessage) (p : Bool) → is_mapping m ≡ false → (k : ℕ) → code_at words (received_side m) k ≡ 0
    → (received_with words room another m p (Label k)).1 ≡ words
unfolding received_with received_change placed_at change_at changed code_in
named_none words room another m p other k absent =
    by_test (listable k)
    (λ may. rw (may, stays_where m another other, nowhere words (received_side m) k absent, absent-rule m p other))
    (λ may. rw may)

those_none : (words : List ℕ) → IsValid words → (reached : ℕ → Bool) (m : LabelMessage) → is_mapping m ≡ false → ((k : ℕ) → reached k ≡ true → code_at words (received_side m) k ≡ 0)
    → every_received m reached words ≡ words
unfolding every_received received_side
those_none words v reached Mapping other none = absurd (true≢false other)
those_none words v reached Withdraw other none = rule_stays words v reached withdraws none
those_none words v reached Release other none = rule_stays words v reached releases none

module _ (words : List ℕ) (v : IsValid words) (x : Meets) (m : LabelMessage) (p : Bool) (other : is_mapping m ≡ false) where
  abbrev mid : List ℕ
  mid = ended_at x.request words

  absent_stays : (t : Reach) (s : Side) (k : ℕ) → code_at words s k ≡ 0 → code_at (after_event words (Received x m p t)) s k ≡ 0
  absent_stays t s k absent =
      ⊎_elim
      (λ (same : code_at (after_event words (Received x m p t)) s k ≡ code_at words s k). same ∙ absent)
      (λ (move : Moves (Received x m p t) s k (code_at words s k) (code_at (after_event words (Received x m p t)) s k)). absurd (from_none move other absent))
      (every_move words v (Received x m p t) s k)

  touched-code : (t : Reach) (k : ℕ) → Touches t k → code_at (after_event words (Received x m p t)) (received_side m) k ≡ code_received m p (code_at words (received_side m) k)
  touched-code t k touches =
      by_test (eqb (code_at words (received_side m) k) 0)
      (λ z.
      let absent : code_at words (received_side m) k ≡ 0 = eqb-true (code_at words (received_side m) k) 0 z in
      absent_stays t (received_side m) k absent ∙ sym (ap (code_received m p) absent ∙ absent-rule m p other))
      (λ f. listed-code words v x m p other t k touches (eqb-false (code_at words (received_side m) k) 0 f))

  none_changes : (t : Reach) → ((k : ℕ) → Touches t k → code_at words (received_side m) k ≡ 0) → after_event words (Received x m p t) ≡ mid
  unfolding after_event received_with
  none_changes (Label k) none =
      named_none mid (room_at x.request x.spare words) x.another m p other k (ended-code words (received_side m) k x.request ∙ none k named)
  none_changes (Those reached) none =
      those_none mid (ended_stays words v x.request).valid reached m other (λ k y. ended-code words (received_side m) k x.request ∙ none k (among y))
  none_changes Nothing none = refl

  -- It acts on exactly the labels that it touches.
  pub acts_exactly : (t : Reach) → ActsOnExactly words x m p t
  acts_exactly t = record {
    each = touched-code t;
    others = λ s k apart.
        ⊎_elim
        (λ (same : code_at (after_event words (Received x m p t)) s k ≡ code_at words s k). same)
        (λ (move : Moves (Received x m p t) s k (code_at words s k) (code_at (after_event words (Received x m p t)) s k)). absurd (apart (move_touches move other)))
        (every_move words v (Received x m p t) s k);
    none = none_changes t;
  }

  -- so a label under a prefix or the wildcard changes as a message that names it would change it
  pub as_named : (t : Reach) (k : ℕ) → Touches t k
      → code_at (after_event words (Received x m p t)) (received_side m) k ≡ code_at (after_event words (Received x m p (Label k))) (received_side m) k
  as_named t k touches = touched-code t k touches ∙ sym (touched-code (Label k) k named)
