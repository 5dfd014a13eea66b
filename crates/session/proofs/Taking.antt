-- Where a submitted Mapping takes a word: at a place that lists no label before the call. Assumes nothing.
use Rattle.std.specs.Prelude.{Option, Some, None}
use Prim.Native.Nat.{ℕ}
use mathlib.Core.Bool.{false}
use mathlib.Core.List.{List}
use mathlib.Core.Path.{◌≡◌, refl}
use lib.ListN.{get_or}
use Rattle.octets.proofs.Choice.{by_test}
use Rattle.label_list.specs.declared.LabelMessage.{LabelMessage}
use Rattle.label_list.specs.declared.Side.TheVariants.{Given, Used}
use Rattle.label_list.specs.Find.{find_of}
use Rattle.label_list.specs.Rules.{code_accepted, sent_side}
use Rattle.label_list.specs.Word.{code_of, is_free, listable, lists_label, on_side, stands_for}
use Rattle.label_events.specs.declared.Change.{Change}
use Rattle.label_events.specs.Accept.{plan_by, plan_change, plan_of}
use Rattle.label_events.specs.Change.{change_at, code_at, code_in, placed_at, taken_at}
use Rattle.label_meaning.proofs.Effect.{FreeAt, free_first}
use Rattle.receive.proofs.Takes.{DeadAt, placed_dead}

free_dead : (words : List ℕ) (g : Option ℕ) → FreeAt words g → DeadAt words g
unfolding lists_label on_side
free_dead words (Some j) free = (free.0, rw free.1)
free_dead words None free = tt

kept_dead : (old : List ℕ) (f : Option ℕ) → DeadAt old (taken_at f Change.Keep)
kept_dead old (Some i) = tt
kept_dead old None = tt

-- the first free word
module _ (words : List ℕ) (m : LabelMessage) (l : ℕ) where
  abbrev place : Option ℕ
  place = find_of (stands_for (sent_side m) l) words

  next_dead : (n : Option ℕ) → DeadAt words (taken_at place (plan_change (plan_by n words (sent_side m) l)))
  unfolding placed_at
  next_dead (Some c) = placed_dead words l c false place (find_of is_free words) (free_dead words (find_of is_free words) (free_first words (find_of is_free words) refl))
  next_dead None = kept_dead words place

  pub accepted_dead : DeadAt words (taken_at place (plan_change (plan_of words m l)))
  unfolding plan_of
  accepted_dead = by_test (listable l) (λ may. rw may (next_dead (code_accepted m (code_at words (sent_side m) l)))) (λ may. rw may (kept_dead words place))

  -- a label that must be listed takes none
  none_taken : code_accepted m 0 ≡ None → taken_at place (plan_change (plan_of words m l)) ≡ None
  unfolding plan_of code_in change_at
  none_taken absent = by_test (listable l) (λ may. rw may (by place refl)) (λ may. rw may (keeps place))
    where
      keeps : (f : Option ℕ) → taken_at f Change.Keep ≡ None
      keeps (Some i) = refl
      keeps None = refl

      coded : (i : ℕ) → Some i ≡ place → (n : Option ℕ) → taken_at (Some i) (plan_change (plan_by n words (sent_side m) l)) ≡ None
      coded i e (Some c) = rw (← e)
      coded i e None = refl

      by : (f : Option ℕ) → f ≡ place → taken_at f (plan_change (plan_by (code_accepted m (code_in words f)) words (sent_side m) l)) ≡ None
      by (Some i) e = coded i e (code_accepted m (code_of (get_or words i 0)))
      by None e = rw absent

pub given-takes_none : (words : List ℕ) (l : ℕ) → taken_at (find_of (stands_for Given l) words) (plan_change (plan_of words LabelMessage.Withdraw l)) ≡ None
unfolding code_accepted sent_side
given-takes_none words l = none_taken words LabelMessage.Withdraw l refl

pub returned_takes_none : (words : List ℕ) (l : ℕ) → taken_at (find_of (stands_for Used l) words) (plan_change (plan_of words LabelMessage.Release l)) ≡ None
unfolding code_accepted sent_side
returned_takes_none words l = none_taken words LabelMessage.Release l refl
