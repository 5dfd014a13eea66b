-- The Request at a place has ended: its word is free, and no label has moved. Assumes nothing.
use Rattle.std.specs.Prelude.{Option, Some, None}
use Prim.Native.Nat.{ℕ, ◌≤◌}
use mathlib.Core.Bool.{true, false, true≢false}
use mathlib.Core.List.{List}
use mathlib.Core.Logic.{◌≢◌}
use mathlib.Core.Path.{◌≡◌, refl, sym, ◌∙◌}
use native.Mathlib.Omega.{arith}
use lib.Dec.{ltb}
use lib.ListN.{length, get_or, set, length-set}
use lib.Seq.{get_or-set_other}
use borrow.Author.Tests.{eq-eqb, ne_eqb, ltb-true}
use Rattle.octets.specs.Pick.{both}
use Rattle.octets.proofs.Choice.{by_test, both_true}
use Rattle.label_list.specs.declared.Side.{Side}
use Rattle.label_list.specs.Find.{find_of, FoundIn}
use Rattle.label_list.specs.Word.{is_free, is_request, request_word, stands_for}
use Rattle.label_list.proofs.OpenIds.{request_inside, past_end}
use Rattle.label_list.proofs.Reached.{found_passes}
use Rattle.label_list.proofs.Sought.{find_set}
use Rattle.label_list.proofs.Standing.{free_stands, request_stands, request_word_lem}
use Rattle.label_events.specs.Change.{code_in, code_at}
use Rattle.label_events.specs.Requests.{ended_at, where_free, room_at}

-- The ways through both definitions.
module _ (words : List ℕ) {f : Option ℕ} (i : ℕ) (at : f ≡ Some i) where
  module _ (e : get_or words i 0 ≡ request_word) where
    pub ended_here : set words i 0 ≡ ended_at f words
    unfolding ended_at is_request
    ended_here = rw (at, eq-eqb (get_or words i 0) request_word e)

    pub room-here : (spare : Option ℕ) → Some i ≡ room_at f spare words
    unfolding room_at is_request
    room-here spare = rw (at, eq-eqb (get_or words i 0) request_word e)

  module _ (e : get_or words i 0 ≢ request_word) where
    pub ended-not : words ≡ ended_at f words
    unfolding ended_at is_request
    ended-not = rw (at, ne_eqb (get_or words i 0) request_word e)

    pub room-free : (spare : Option ℕ) → where_free spare words ≡ room_at f spare words
    unfolding room_at is_request
    room-free spare = rw (at, ne_eqb (get_or words i 0) request_word e)

  -- past the end of the list no Request is open
  module _ (h : length words ≤ i) where
    not_past : get_or words i 0 ≢ request_word
    not_past e = omega (arith, past_end words i h)

    pub ended_past : words ≡ ended_at f words
    ended_past = ended-not not_past

    pub room_past : (spare : Option ℕ) → where_free spare words ≡ room_at f spare words
    room_past = room-free not_past

module _ (words : List ℕ) {f : Option ℕ} (none : f ≡ None) where
  pub ended_nowhere : words ≡ ended_at f words
  unfolding ended_at
  ended_nowhere = rw none

  pub room_nowhere : (spare : Option ℕ) → where_free spare words ≡ room_at f spare words
  unfolding room_at
  room_nowhere spare = rw none

pub ended-length : (request : Option ℕ) (words : List ℕ) → length (ended_at request words) ≡ length words
unfolding ended_at
ended-length (Some i) words = by_test (is_request (get_or words i 0)) (λ t. rw t (length-set words i 0)) (λ f. rw f)
ended-length None words = refl

-- A spare place that counts is that of a free word inside the list.
pub where_free_in : (spare : Option ℕ) (words : List ℕ) → FoundIn words (where_free spare words)
where_free_in (Some i) words =
    by_test
    (both (ltb i (length words)) (is_free (get_or words i 0)))
    (λ t. rw t (ltb-true i (length words) (both_true (ltb i (length words)) (is_free (get_or words i 0)) t).0))
    (λ f. rw f tt)
where_free_in None words = tt

-- The room for a label is inside the list, before the Request has ended and after.
room_in : (request spare : Option ℕ) (words : List ℕ) → FoundIn words (room_at request spare words)
unfolding room_at
room_in (Some i) spare words = by_test (is_request (get_or words i 0)) (λ t. rw t (request_inside words i t)) (λ f. rw f (where_free_in spare words))
room_in None spare words = where_free_in spare words

same_in : (words after : List ℕ) (f : Option ℕ) → length after ≡ length words → FoundIn words f → FoundIn after f
same_in words after (Some i) e h = rw e h
same_in words after None e h = tt

pub room-still_in : (request spare : Option ℕ) (words : List ℕ) → FoundIn (ended_at request words) (room_at request spare words)
room-still_in request spare words = same_in words (ended_at request words) (room_at request spare words) (ended-length request words) (room_in request spare words)

-- No label has moved.
module _ (words : List ℕ) (s : Side) (l : ℕ) where
  pub ended_find : (request : Option ℕ) → find_of (stands_for s l) (ended_at request words) ≡ find_of (stands_for s l) words
  unfolding ended_at
  ended_find (Some i) =
      by_test
      (is_request (get_or words i 0))
      (λ t. rw t (find_set (stands_for s l) words i 0 (request_stands s l (get_or words i 0) (request_word_lem (get_or words i 0) t)) (free_stands s l)))
      (λ f. rw f)
  ended_find None = refl

  ended_word : (i j : ℕ) → stands_for s l (get_or words j 0) ≡ true → get_or (ended_at (Some i) words) j 0 ≡ get_or words j 0
  unfolding ended_at
  ended_word i j stands =
      by_test
      (is_request (get_or words i 0))
      (λ t.
      let none : stands_for s l (get_or words i 0) ≡ false = request_stands s l (get_or words i 0) (request_word_lem (get_or words i 0) t) in
      let apart : j ≢ i = λ same. true≢false (sym (rw same at stands) ∙ none) in
      rw t (get_or-set_other words i j 0 0 apart))
      (λ f. rw f)

  code-at : (request f : Option ℕ) → f ≡ find_of (stands_for s l) words → code_in (ended_at request words) f ≡ code_in words f
  unfolding code_in ended_at
  code-at (Some i) (Some j) e = rw (ended_word i j (found_passes (stands_for s l) words j e refl))
  code-at (Some i) None e = refl
  code-at None f e = refl

  pub ended-code : (request : Option ℕ) → code_at (ended_at request words) s l ≡ code_at words s l
  ended-code request = rw (ended_find request) (code-at request (find_of (stands_for s l) words) refl)
