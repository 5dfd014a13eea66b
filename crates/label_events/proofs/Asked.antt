-- The ways through the definitions of a Request asked and taken back. Assumes nothing.
use Rattle.std.specs.Prelude.{Option, Some, None}
use Prim.Native.Nat.{ℕ, ◌<◌}
use mathlib.Core.List.{List}
use mathlib.Core.Path.{◌≡◌, refl, sym, ◌∙◌}
use lib.ListN.{length}
use Rattle.octets.proofs.Choice.{pick_all}
use Rattle.ft_number.specs.declared.MessageId.{MessageId}
use Rattle.label_list.specs.Find.{find_of, is_found}
use Rattle.label_list.specs.Requests.{open_at}
use Rattle.label_list.specs.Word.{is_free, request_word}
use Rattle.label_list.proofs.OpenIds.{request_inside, found_request}
use Rattle.label_list.proofs.Reached.{found_in_lem}
use Rattle.label_events.specs.declared.Change.{Change}
use Rattle.label_events.specs.declared.Change.TheVariants.{Put, NoRoom}
use Rattle.label_events.specs.Accept.{plan_change, accepted_by}
use Rattle.label_events.specs.Change.{changed, ChangeIn}
use Rattle.label_events.specs.Requests.{asked_plan, aborted_plan, aborted_at}
use Rattle.label_events.proofs.Planned.{PlanIn, told}
use Rattle.label_events.proofs.Written.{take_in}

-- A Request that was found is inside the list.
pub open_inside : (words ids : List ℕ) (id : MessageId) {f : Option ℕ} (i : ℕ) → f ≡ open_at id words ids → f ≡ Some i → i < length words
open_inside words ids id i is e = request_inside words i (found_request id words ids i (sym is ∙ e)).request

module _ (words ids : List ℕ) (id : MessageId) {f : Option ℕ} (is : f ≡ open_at id words ids) where
  pub asked_twice : (i : ℕ) → f ≡ Some i → None ≡ asked_plan words ids id
  unfolding asked_plan
  asked_twice i e = rw (← is, e)

  module _ (e : f ≡ None) {g : Option ℕ} (free : g ≡ find_of is_free words) where
    pub asked-taken : (i : ℕ) → g ≡ Some i → Some (Put i request_word) ≡ asked_plan words ids id
    unfolding asked_plan
    asked-taken i at = rw (← is, e, ← free, at)

    pub asked-full : g ≡ None → Some NoRoom ≡ asked_plan words ids id
    unfolding asked_plan
    asked-full none = rw (← is, e, ← free, none)

  pub aborted_there : (i : ℕ) → f ≡ Some i → Some (Put i 0) ≡ aborted_plan words ids id
  unfolding aborted_plan
  aborted_there i e = rw (← is, e)

  pub aborted_none : f ≡ None → None ≡ aborted_plan words ids id
  unfolding aborted_plan
  aborted_none e = rw (← is, e)

-- The change told of a Request or an Abort makes the list afterwards, and writes inside it.
module _ (words ids : List ℕ) (id : MessageId) where
  asked_in : PlanIn words (asked_plan words ids id)
  unfolding asked_plan
  asked_in = pick_all (PlanIn words) (is_found (open_at id words ids)) tt (take_in words (find_of is_free words) request_word (found_in_lem is_free words refl))

  pub asked-change : {change : Change} → change ≡ plan_change (asked_plan words ids id) → ((accepted_by words (asked_plan words ids id)).1 ≡ changed words change) × ChangeIn words change
  asked-change e = rw e (told words (asked_plan words ids id) asked_in)

  aborted_in : (f : Option ℕ) → f ≡ open_at id words ids → PlanIn words (aborted_at f)
  aborted_in (Some i) is = open_inside words ids id i is refl
  aborted_in None is = tt

  pub aborted_change : {change : Change} → change ≡ plan_change (aborted_plan words ids id) → ((accepted_by words (aborted_plan words ids id)).1 ≡ changed words change) × ChangeIn words change
  unfolding aborted_plan
  aborted_change e = rw e (told words (aborted_at (open_at id words ids)) (aborted_in (open_at id words ids) refl))
