-- Words that list a label, over the events of the list: no event makes one at a place that listed none, but a Mapping that takes a word there. Assumes nothing.
use Rattle.std.specs.Prelude.{Option, Some, None}
use Prim.Native.Nat.{ℕ, ◌+◌, ◌*◌, ◌/◌}
use mathlib.Core.Bool.{Bool, true, false, true≢false}
use mathlib.Core.List.{List}
use mathlib.Core.Path.{◌≡◌, refl, sym}
use native.Mathlib.Omega.{arith}
use lib.Dec.{eqb}
use lib.ListN.{get_or}
use Rattle.octets.specs.Pick.{pick}
use Rattle.octets.proofs.Choice.{by_test, pick_all}
use Rattle.label_list.specs.declared.LabelMessage.{LabelMessage}
use Rattle.label_list.specs.declared.LabelMessage.TheVariants.{Mapping, Withdraw, Release}
use Rattle.label_list.specs.declared.Side.TheVariants.{Given, Used}
use Rattle.label_list.specs.declared.SweepRule.{SweepRule}
use Rattle.label_list.specs.declared.SweepRule.TheVariants.{WithdrawAll, ReleaseAll, AfterBreak}
use Rattle.label_list.specs.Find.{find_of}
use Rattle.label_list.specs.Rules.{code_accepted, code_received, code_swept, received_side, sent_side}
use Rattle.label_list.specs.Sweep.{reached_of, swept_of, word_reached, word_swept}
use Rattle.label_list.specs.Word.{code_of, is_free, label_count, label_of, listable, lists_label, on_side, stands_for, word_of}
use Rattle.label_events.specs.declared.Meets.{Meets}
use Rattle.label_events.specs.Accept.{accepted_by, accepted_of, plan_by, plan_change, plan_of}
use Rattle.label_events.specs.Ack.{acked_of}
use Rattle.label_events.specs.Change.{changed, code_at, placed_at, taken_at}
use Rattle.label_events.specs.Reach.{Label, Nothing, Those}
use Rattle.label_events.specs.Receive.{every_received, moves_by, received_change, received_of, received_with}
use Rattle.label_events.specs.Requests.{ended_at, room_at}
use Rattle.label_events.proofs.Ended.{ended-code, ended_find}
use Rattle.label_meaning.proofs.Effect.{free_first}
use Rattle.label_meaning.proofs.Listed.{ListedOld, acked-listed, ended-listed, kept_side, placed_listed, same_listed, then_listed}
use Rattle.label_meaning.proofs.Step.{room_is_free}
use Rattle.label_meaning.proofs.Swept.{swept_at}

-- ---- a sweep
swept_lists : (r : SweepRule) (w : ℕ) → lists_label (word_swept r w) ≡ true → lists_label w ≡ true
unfolding word_swept word_of lists_label on_side
swept_lists r w t =
    let c : ℕ = code_swept r (code_of w) in
    by_test (eqb c 0)
    (λ z. absurd (none (rw z at t)))
    (λ n.
    let code : (label_of w + label_count * c) / label_count ≡ c = omega arith in
    sides c refl (rw code at (rw n at t)))
  where
    none : pick (on_side Given 0) true (on_side Used 0) ≡ true → ⊥
    none e = true≢false (sym e)

    sides : (c : ℕ) → c ≡ code_swept r (code_of w) → pick (on_side Given c) true (on_side Used c) ≡ true → pick (on_side Given (code_of w)) true (on_side Used (code_of w)) ≡ true
    sides c e t =
        by_test (on_side Given c)
        (λ g. rw (kept_side r Given (code_of w) (rw e at g)))
        (λ n. let u : on_side Used c ≡ true = rw n at t in
        pick_all (λ (b : Bool). b ≡ true) (on_side Given (code_of w)) refl (kept_side r Used (code_of w) (rw e at u)))

reached_lists : (words : List ℕ) (reached : ℕ → Bool) (r : SweepRule) → ListedOld words (reached_of words reached r) None
unfolding word_reached
reached_lists words reached r i apart t =
    let there : lists_label (pick (reached (label_of (get_or words i 0))) (word_swept r (get_or words i 0)) (get_or words i 0)) ≡ true = rw (swept_at words reached r i) at t in
    by_test (reached (label_of (get_or words i 0))) (λ y. swept_lists r (get_or words i 0) (rw y at there)) (λ n. rw n at there)

pub broken-listed : (words : List ℕ) → ListedOld words (swept_of words AfterBreak) None
unfolding word_reached
broken-listed words = reached_lists words (λ k. true) AfterBreak

-- ---- a message of ours
module _ (words : List ℕ) (m : LabelMessage) (l : ℕ) where
  next-listed : (n : Option ℕ) → ListedOld words (accepted_by words (plan_by n words (sent_side m) l)).1 (taken_at (find_of (stands_for (sent_side m) l) words) (plan_change (plan_by n words (sent_side m) l)))
  unfolding placed_at
  next-listed (Some c) =
      placed_listed words (sent_side m) l c false (find_of (stands_for (sent_side m) l) words) (find_of is_free words) refl (free_first words (find_of is_free words) refl)
  next-listed None = same_listed words _

  pub accepted_listed : ListedOld words (accepted_of words m l).1 (taken_at (find_of (stands_for (sent_side m) l) words) (plan_change (plan_of words m l)))
  unfolding accepted_of plan_of
  accepted_listed = by_test (listable l) (λ may. rw may (next-listed (code_accepted m (code_at words (sent_side m) l)))) (λ may. rw may (same_listed words _))

-- ---- an ACK
pub released-listed : (words : List ℕ) (m : LabelMessage) (l : ℕ) → ListedOld words (acked_of words m l) None
released-listed words m l = acked-listed words m l (find_of (stands_for (sent_side m) l) words) refl

-- ---- a message of the peer's
module _ (words : List ℕ) (x : Meets) (m : LabelMessage) (p : Bool) where
  abbrev left : List ℕ
  left = ended_at x.request words

  abbrev room : Option ℕ
  room = room_at x.request x.spare words

  -- the change is the same before the Request has ended and after
  same_change : (l : ℕ) → received_change left room x.another m p l ≡ received_change words room x.another m p l
  unfolding received_change
  same_change l = rw (ended-code words (received_side m) l x.request, ended_find words (received_side m) l x.request)

  named_listed : (l : ℕ) → ListedOld left (changed left (received_change left room x.another m p l)) (taken_at (find_of (stands_for (received_side m) l) left) (received_change left room x.another m p l))
  unfolding received_change changed
  named_listed l =
      by_test (listable l)
      (λ may. rw may
      (placed_listed left (received_side m) l (code_received m p (code_at left (received_side m) l)) (moves_by m x.another) (find_of (stands_for (received_side m) l) left) room refl
      (room_is_free x.request x.spare words)))
      (λ may. rw may (same_listed left _))

  every_listed : (reached : ℕ → Bool) → ListedOld left (every_received m reached left) None
  unfolding every_received
  every_listed reached = by m
    where
      by : (m : LabelMessage) → ListedOld left (every_received m reached left) None
      by Mapping = same_listed left None
      by Withdraw = reached_lists left reached WithdrawAll
      by Release = reached_lists left reached ReleaseAll

  pub received-listed : (l : ℕ) → ListedOld words (received_of words x m p (Label l)).1 (taken_at (find_of (stands_for (received_side m) l) words) (received_change words room x.another m p l))
  unfolding received_with
  received-listed l =
      let e = ended_find words (received_side m) l x.request in
      then_listed words left (received_of words x m p (Label l)).1 (taken_at (find_of (stands_for (received_side m) l) words) (received_change words room x.another m p l))
      (ended-listed words x.request) (rw (← same_change l, ← e) (named_listed l))

  pub reached-listed : (reached : ℕ → Bool) → ListedOld words (received_of words x m p (Those reached)).1 None
  unfolding received_with
  reached-listed reached = then_listed words left (received_of words x m p (Those reached)).1 None (ended-listed words x.request) (every_listed reached)

  pub nothing_listed : ListedOld words (received_of words x m p Nothing).1 None
  unfolding received_with
  nothing_listed = ended-listed words x.request
