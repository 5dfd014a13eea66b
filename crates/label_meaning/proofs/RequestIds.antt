-- The IDs of the open Requests over each event: they stand once, and only those that count matter. Assumes nothing.
use Rattle.std.specs.Prelude.{Option, Some, None}
use Prim.Native.Nat.{ℕ, ◌≤◌, ◌<◌}
use mathlib.Core.Bool.{true}
use mathlib.Core.List.{List}
use mathlib.Core.Logic.{◌≢◌}
use mathlib.Core.Path.{◌≡◌, refl}
use native.Mathlib.Omega.{arith}
use lib.ListN.{length, get_or}
use Rattle.ft_number.specs.declared.MessageId.{MessageId}
use Rattle.label_list.specs.Find.{find_of}
use Rattle.label_list.specs.Requests.{open_ids, open_at, RequestAt, once_of}
use Rattle.label_list.specs.Word.{is_free, request_word, is_request}
use Rattle.label_list.proofs.Counting.{counting_dead, counting-taken, counting-freed}
use Rattle.label_list.proofs.OpenIds.{found_request, once_freed, once_taken, taken-request}
use Rattle.label_events.specs.Accept.{plan_change, accepted_by}
use Rattle.label_events.specs.Change.{take_free, changed}
use Rattle.label_events.specs.Requests.{asked_change, asked_plan, ids_put, aborted_at, aborted_plan, ended_at}
use Rattle.label_meaning.specs.Event.{LabelEvent, Asked, Ended, after_event}
use Rattle.label_meaning.specs.Requests.{ends_at}
use Rattle.label_meaning.proofs.Effect.{FreeAt, free_first}
use Rattle.label_meaning.proofs.Kept.{step-length}
use Rattle.label_meaning.proofs.Requests.{free-plain, request_itself, request-old, request-still}

-- ---- an event that asks no Request, beside IDs that stay
module _ (words ids : List ℕ) (e : LabelEvent) where
  -- the Request of an ID is open until an event ends it at its place
  pub open_still : (id i : ℕ) → ends_at e ≢ Some i → RequestAt words ids id i → RequestAt (after_event words e) ids id i
  open_still id i apart r = record { request = request-still words e i apart r.request; inside = r.inside; same = r.same }

  module _ (other : e ≢ Asked) where
    pub open_old : (id i : ℕ) → RequestAt (after_event words e) ids id i → RequestAt words ids id i
    open_old id i r = record { request = request-old words e other i r.request; inside = r.inside; same = r.same }

    pub step_once : once_of words ids ≡ true → once_of (after_event words e) ids ≡ true
    step_once = once_freed (after_event words e) words ids (request-old words e other)

    -- the IDs that counted before are enough to know those that count afterwards
    pub step-ids : open_ids (after_event words e) (open_ids words ids) ≡ open_ids (after_event words e) ids
    step-ids = counting-freed 0 is_request (after_event words e) words ids (step-length words e) (request-old words e other)

-- ---- a Request is asked
module _ (words ids : List ℕ) (id : MessageId) where
  once_at : (g : Option ℕ) → once_of words ids ≡ true → open_at id words ids ≡ None → once_of (changed words (take_free g request_word)) (ids_put ids (take_free g request_word) id) ≡ true
  unfolding changed
  once_at (Some i) once none = once_taken words ids i id once none
  once_at None once none = once

  -- under an ID that is not open
  pub asked_once : once_of words ids ≡ true → open_at id words ids ≡ None → once_of (after_event words Asked) (ids_put ids (asked_change words) id) ≡ true
  unfolding after_event
  asked_once = once_at (find_of is_free words)

  -- its ID stands at the place of its word
  open_at_lem : (g : Option ℕ) (i : ℕ) → g ≡ Some i → FreeAt words g → i < length ids → RequestAt (changed words (take_free g request_word)) (ids_put ids (take_free g request_word) id) id.0 i
  unfolding changed
  open_at_lem g i e free h = rw e (taken-request words ids i id (rw e at free).0 h)

  pub asked_open : (i : ℕ) → find_of is_free words ≡ Some i → i < length ids → RequestAt (after_event words Asked) (ids_put ids (asked_change words) id) id.0 i
  unfolding after_event
  asked_open i e h = open_at_lem (find_of is_free words) i e (free_first words (find_of is_free words) refl) h

  -- an ID that is written before its word does not count yet
  dead_at : (g : Option ℕ) → FreeAt words g → open_ids words (ids_put ids (take_free g request_word) id) ≡ open_ids words ids
  dead_at (Some i) free = counting_dead 0 is_request words ids i id.0 (free-plain (get_or words i 0) free.1)
  dead_at None free = refl

  pub asked_dead : open_ids words (ids_put ids (asked_change words) id) ≡ open_ids words ids
  asked_dead = dead_at (find_of is_free words) (free_first words (find_of is_free words) refl)

  -- then it counts, beside those that did
  ids_at : (g : Option ℕ) → FreeAt words g → length words ≤ length ids
      → open_ids (changed words (take_free g request_word)) (ids_put ids (take_free g request_word) id) ≡ ids_put (open_ids words ids) (take_free g request_word) id
  unfolding changed
  ids_at (Some i) free h = counting-taken 0 is_request words ids i request_word id.0 request_itself free.0 (omega (arith, free.0))
  ids_at None free h = refl

  pub asked-ids : length words ≤ length ids → open_ids (after_event words Asked) (ids_put ids (asked_change words) id) ≡ ids_put (open_ids words ids) (asked_change words) id
  unfolding after_event
  asked-ids = ids_at (find_of is_free words) (free_first words (find_of is_free words) refl)

-- ---- a Request or an Abort that is accepted is one of these events
module _ (words ids : List ℕ) (id : MessageId) where
  pub asked-event : open_at id words ids ≡ None → ((accepted_by words (asked_plan words ids id)).1 ≡ after_event words Asked) × (plan_change (asked_plan words ids id) ≡ asked_change words)
  unfolding after_event asked_plan
  asked-event none = rw none (refl, refl)

  aborted_at_lem : (f : Option ℕ) → open_at id words ids ≡ f → (accepted_by words (aborted_at f)).1 ≡ ended_at f words
  unfolding ended_at changed
  aborted_at_lem (Some i) e = rw (found_request id words ids i e).request
  aborted_at_lem None e = refl

  pub aborted_event : (accepted_by words (aborted_plan words ids id)).1 ≡ after_event words (Ended (open_at id words ids))
  unfolding after_event aborted_plan
  aborted_event = aborted_at_lem (open_at id words ids) refl
