-- What the search for an open Request finds, over indices, and that no ID stands twice; both as words are freed and taken. Assumes nothing.
use Rattle.std.specs.Prelude.{Option, Some, None}
use Prim.Native.Nat.{ℕ, zero, suc, ◌≤◌, ◌<◌}
use mathlib.Core.Bool.{Bool, true, not, true≢false, false≢true}
use mathlib.Core.List.{List, [], ◌∷◌}
use mathlib.Core.Logic.{◌≢◌, ⊎_elim}
use mathlib.Core.Path.{◌≡◌, refl, sym, ap, ◌∙◌}
use native.Mathlib.Omega.{arith}
use lib.Dec.{eqb}
use lib.ListN.{length, get_or, set, length-set}
use lib.Seq.{get_or-set_same, get_or-set_other}
use borrow.Author.Tests.{eq-eqb, eqb-true, eqb-false}
use Rattle.octets.specs.Pick.{pick, both}
use Rattle.octets.proofs.Choice.{by_test, both_true, below_or_not}
use Rattle.ft_number.specs.declared.MessageId.{MessageId}
use Rattle.label_list.specs.Counting.{counting}
use Rattle.label_list.specs.Find.{find_from, find_of, is_found}
use Rattle.label_list.specs.Requests.{open_ids, open_from, open_at, RequestAt, once_of}
use Rattle.label_list.specs.Word.{is_request, request_word}
use Rattle.label_list.proofs.Reached.{found_passes, passed_over_lem}

-- ---- the search for an ID is one over a list that has 1 where an open Request of that ID stands, and 0 elsewhere
abbrev hits : ℕ → List ℕ → List ℕ → List ℕ
hits id [] xs = []
hits id (w ∷ ws) [] = []
hits id (w ∷ ws) (x ∷ xs) = pick (both (is_request w) (eqb x id)) 1 0 ∷ hits id ws xs

abbrev is_hit : ℕ → Bool
is_hit n = eqb n 1

open_hits : (id k : ℕ) (ws xs : List ℕ) → open_from id k ws xs ≡ find_from is_hit k (hits id ws xs)
open_hits id k [] xs = refl
open_hits id k (w ∷ ws) [] = refl
open_hits id k (w ∷ ws) (x ∷ xs) =
    by_test (both (is_request w) (eqb x id)) (λ t. rw t) (λ f. rw f (open_hits id (suc k) ws xs))

hit_request : (id : ℕ) (ws xs : List ℕ) (i : ℕ) → is_hit (get_or (hits id ws xs) i 0) ≡ true → RequestAt ws xs id i
hit_request id [] xs i e = absurd (false≢true e)
hit_request id (w ∷ ws) [] i e = absurd (false≢true e)
hit_request id (w ∷ ws) (x ∷ xs) zero e =
    by_test
    (both (is_request w) (eqb x id))
    (λ t. let parts = both_true (is_request w) (eqb x id) t in record { request = parts.0; inside = omega arith; same = eqb-true x id parts.1 })
    (λ f. absurd (false≢true (rw f at e)))
hit_request id (w ∷ ws) (x ∷ xs) (suc i) e =
    let rest : RequestAt ws xs id i = hit_request id ws xs i e in
    record { request = rest.request; inside = omega (arith, rest.inside); same = rest.same }

request_hit : (id : ℕ) (ws xs : List ℕ) (i : ℕ) → RequestAt ws xs id i → is_hit (get_or (hits id ws xs) i 0) ≡ true
unfolding is_request
request_hit id [] xs i r = absurd (false≢true r.request)
request_hit id (w ∷ ws) [] i r = absurd (omega (arith, r.inside))
request_hit id (w ∷ ws) (x ∷ xs) zero r = simp (r.request, eq-eqb x id r.same)
request_hit id (w ∷ ws) (x ∷ xs) (suc i) r = request_hit id ws xs i (record { request = r.request; inside = omega (arith, r.inside); same = r.same })

-- Past the end of a list stands 0.
pub past_end : (xs : List ℕ) (i : ℕ) → length xs ≤ i → get_or xs i 0 ≡ 0
past_end [] i h = refl
past_end (x ∷ xs) zero h = absurd (omega arith)
past_end (x ∷ xs) (suc i) h = past_end xs i (omega arith)

-- An open Request's word is inside the list.
pub request_inside : (words : List ℕ) (i : ℕ) → is_request (get_or words i 0) ≡ true → i < length words
unfolding is_request
request_inside words i e =
    ⊎_elim
    (λ (h : i < length words). h)
    (λ (h : length words ≤ i). let z : get_or words i 0 ≡ 0 = past_end words i h in absurd (false≢true (rw z at e)))
    (below_or_not i (length words))

-- What is found: an open Request of that ID, and the first; where nothing is found there is none.
module _ (id : ℕ) (words ids : List ℕ) where
  found_hit : (f : Option ℕ) → f ≡ open_from id 0 words ids → f ≡ find_of is_hit (hits id words ids)
  unfolding find_of
  found_hit f e = e ∙ open_hits id 0 words ids

  from_found : (i : ℕ) → Some i ≡ open_from id 0 words ids → RequestAt words ids id i
  from_found i e = hit_request id words ids i (found_passes is_hit (hits id words ids) i (found_hit (Some i) e) refl)

  from_first : (i j : ℕ) → Some i ≡ open_from id 0 words ids → RequestAt words ids id j → i ≤ j
  from_first i j e r =
      ⊎_elim
      (λ (h : j < i). absurd (true≢false (sym (request_hit id words ids j r) ∙ passed_over_lem is_hit (hits id words ids) (found_hit (Some i) e) j h)))
      (λ (h : i ≤ j). h)
      (below_or_not j i)

  from_none : (j : ℕ) → None ≡ open_from id 0 words ids → RequestAt words ids id j → ⊥
  from_none j e r =
      ⊎_elim
      (λ (h : j < length (hits id words ids)). true≢false (sym (request_hit id words ids j r) ∙ passed_over_lem is_hit (hits id words ids) (found_hit None e) j h))
      (λ (h : length (hits id words ids) ≤ j). let z : get_or (hits id words ids) j 0 ≡ 0 = past_end (hits id words ids) j h in false≢true (rw z at (request_hit id words ids j r)))
      (below_or_not j (length (hits id words ids)))

  -- and the other way
  from_absent : (f : Option ℕ) → f ≡ open_from id 0 words ids → ((j : ℕ) → RequestAt words ids id j → ⊥) → f ≡ None
  from_absent (Some i) e none = absurd (none i (from_found i e))
  from_absent None e none = refl

  from_there : (f : Option ℕ) (i : ℕ) → f ≡ open_from id 0 words ids → RequestAt words ids id i → ((j : ℕ) → RequestAt words ids id j → i ≤ j) → f ≡ Some i
  from_there (Some k) i e r first =
      let below : k ≤ i = from_first k i e r in
      let above : i ≤ k = first k (from_found k e) in
      let same : k ≡ i = omega arith in
      ap Some same
  from_there None i e r first = absurd (from_none i e r)

-- The same of the search, for those above.
module _ (id : MessageId) (words ids : List ℕ) where
  pub found_request : (i : ℕ) → open_at id words ids ≡ Some i → RequestAt words ids id.0 i
  unfolding open_at
  found_request i e = from_found id.0 words ids i (sym e)

  pub found_first : (i j : ℕ) → open_at id words ids ≡ Some i → RequestAt words ids id.0 j → i ≤ j
  unfolding open_at
  found_first i j e = from_first id.0 words ids i j (sym e)

  pub nowhere_request : (j : ℕ) → open_at id words ids ≡ None → RequestAt words ids id.0 j → ⊥
  unfolding open_at
  nowhere_request j e = from_none id.0 words ids j (sym e)

  pub request_nowhere : ((j : ℕ) → RequestAt words ids id.0 j → ⊥) → open_at id words ids ≡ None
  unfolding open_at
  request_nowhere none = from_absent id.0 words ids (open_from id.0 0 words ids) refl none

  pub request_found : (i : ℕ) → RequestAt words ids id.0 i → ((j : ℕ) → RequestAt words ids id.0 j → i ≤ j) → open_at id words ids ≡ Some i
  unfolding open_at
  request_found i r first = from_there id.0 words ids (open_from id.0 0 words ids) i refl r first

-- ---- no ID stands twice: two open Requests of one ID are one
not_found : (f : Option ℕ) → not (is_found f) ≡ true → f ≡ None
not_found (Some i) e = absurd (false≢true e)
not_found None e = refl

next-request : (w x : ℕ) (ws xs : List ℕ) (id i : ℕ) → RequestAt (w ∷ ws) (x ∷ xs) id (suc i) → RequestAt ws xs id i
next-request w x ws xs id i r = record { request = r.request; inside = omega (arith, r.inside); same = r.same }

request-next : (w x : ℕ) (ws xs : List ℕ) (id i : ℕ) → RequestAt ws xs id i → RequestAt (w ∷ ws) (x ∷ xs) id (suc i)
request-next w x ws xs id i r = record { request = r.request; inside = omega (arith, r.inside); same = r.same }

-- the first has no later one of its ID
once_alone : (w x : ℕ) (ws xs : List ℕ) → once_of (w ∷ ws) (x ∷ xs) ≡ true → (id j : ℕ) → RequestAt (w ∷ ws) (x ∷ xs) id zero → RequestAt ws xs id j → ⊥
unfolding once_of
once_alone w x ws xs e id j p q =
    let parts = both_true (pick (is_request w) (not (is_found (open_from x 0 ws xs))) true) (once_of ws xs) e in
    let none : open_from x 0 ws xs ≡ None = not_found (open_from x 0 ws xs) (rw p.request at parts.0) in
    from_none x ws xs j (sym none) (rw p.same q)

pub once_means : (words ids : List ℕ) → once_of words ids ≡ true → (id i j : ℕ) → RequestAt words ids id i → RequestAt words ids id j → i ≡ j
unfolding once_of is_request
once_means [] xs e id i j p q = absurd (false≢true p.request)
once_means (w ∷ ws) [] e id i j p q = absurd (omega (arith, p.inside))
once_means (w ∷ ws) (x ∷ xs) e id zero zero p q = refl
once_means (w ∷ ws) (x ∷ xs) e id zero (suc j) p q = absurd (once_alone w x ws xs e id j p (next-request w x ws xs id j q))
once_means (w ∷ ws) (x ∷ xs) e id (suc i) zero p q = absurd (once_alone w x ws xs e id i q (next-request w x ws xs id i p))
once_means (w ∷ ws) (x ∷ xs) e id (suc i) (suc j) p q =
    let parts = both_true (pick (is_request w) (not (is_found (open_from x 0 ws xs))) true) (once_of ws xs) e in
    ap suc (once_means ws xs parts.1 id i j (next-request w x ws xs id i p) (next-request w x ws xs id j q))

pub means_once : (words ids : List ℕ) → ((id i j : ℕ) → RequestAt words ids id i → RequestAt words ids id j → i ≡ j) → once_of words ids ≡ true
unfolding once_of
means_once [] xs h = refl
means_once (w ∷ ws) [] h = refl
means_once (w ∷ ws) (x ∷ xs) h =
    let rest : once_of ws xs ≡ true = means_once ws xs (λ id i j p q.
    let same : suc i ≡ suc j = h id (suc i) (suc j) (request-next w x ws xs id i p) (request-next w x ws xs id j q) in
    omega arith) in
    let alone : is_request w ≡ true → open_from x 0 ws xs ≡ None = λ asked.
    from_absent x ws xs (open_from x 0 ws xs) refl (λ j q.
    let same : zero ≡ suc j = h x zero (suc j) (record { request = asked; inside = omega arith; same = refl }) (request-next w x ws xs x j q) in
    omega arith) in
    by_test (is_request w) (λ t. rw (t, alone t) rest) (λ f. rw f rest)

-- so an open Request of that ID is the one that the search finds
pub once_found : (id : MessageId) (words ids : List ℕ) (i : ℕ) → once_of words ids ≡ true → RequestAt words ids id.0 i → open_at id words ids ≡ Some i
once_found id words ids i e r =
    request_found id words ids i r (λ j q. let same : i ≡ j = once_means words ids e id.0 i j r q in omega arith)

-- ---- only the IDs that count matter
from_counting : (id k : ℕ) (words ids : List ℕ) → length words ≤ length ids → open_from id k words (open_ids words ids) ≡ open_from id k words ids
unfolding counting
from_counting id k [] xs h = refl
from_counting id k (w ∷ ws) [] h = absurd (omega arith)
from_counting id k (w ∷ ws) (x ∷ xs) h =
    let rest : open_from id (suc k) ws (open_ids ws xs) ≡ open_from id (suc k) ws xs = from_counting id (suc k) ws xs (omega arith) in
    by_test (is_request w) (λ t. rw (t, rest)) (λ f. rw (f, rest))

pub open_counting : (id : MessageId) (words ids : List ℕ) → length words ≤ length ids → open_at id words (open_ids words ids) ≡ open_at id words ids
unfolding open_at
open_counting id = from_counting id.0 0

pub once_counting : (words ids : List ℕ) → length words ≤ length ids → once_of words (open_ids words ids) ≡ once_of words ids
unfolding once_of counting
once_counting [] xs h = refl
once_counting (w ∷ ws) [] h = absurd (omega arith)
once_counting (w ∷ ws) (x ∷ xs) h =
    let rest : once_of ws (open_ids ws xs) ≡ once_of ws xs = once_counting ws xs (omega arith) in
    by_test (is_request w) (λ t. rw (t, from_counting x 0 ws xs (omega arith), rest)) (λ f. rw (f, rest))

-- ---- words are freed, and one is taken
pub once_freed : (vs ws ids : List ℕ) → ((i : ℕ) → is_request (get_or vs i 0) ≡ true → is_request (get_or ws i 0) ≡ true) → once_of ws ids ≡ true → once_of vs ids ≡ true
once_freed vs ws ids f e = means_once vs ids (λ id i j p q. once_means ws ids e id i j (was id i p) (was id j q))
  where
    was : (id i : ℕ) → RequestAt vs ids id i → RequestAt ws ids id i
    was id i r = record { request = f i r.request; inside = r.inside; same = r.same }

module _ (words ids : List ℕ) (i : ℕ) (id : MessageId) where
  -- the Request that is asked is open then
  pub taken-request : i < length words → i < length ids → RequestAt (set words i request_word) (set ids i id.0) id.0 i
  unfolding is_request
  taken-request h k = record {
    request = rw (get_or-set_same words i request_word 0 h);
    inside = rw (length-set ids i id.0) k;
    same = get_or-set_same ids i id.0 0 k;
  }

  set-request : (x j : ℕ) → j ≢ i → RequestAt (set words i request_word) (set ids i id.0) x j → RequestAt words ids x j
  set-request x j apart r = record {
    request = rw (← get_or-set_other words i j request_word 0 apart) r.request;
    inside = rw (← length-set ids i id.0) r.inside;
    same = sym (get_or-set_other ids i j id.0 0 apart) ∙ r.same;
  }

  set-id : (x : ℕ) → RequestAt (set words i request_word) (set ids i id.0) x i → x ≡ id.0
  set-id x r =
      let inside : i < length ids = rw (← length-set ids i id.0) r.inside in
      sym r.same ∙ get_or-set_same ids i id.0 0 inside

  -- a Request is asked under an ID that is not open
  pub once_taken : once_of words ids ≡ true → open_at id words ids ≡ None → once_of (set words i request_word) (set ids i id.0) ≡ true
  once_taken e none = means_once (set words i request_word) (set ids i id.0) (λ x j k p q.
      by_test
      (eqb j i)
      (λ here. let same : j ≡ i = eqb-true j i here in sym (alone x k (set-id x (rw same at p)) q ∙ sym same))
      (λ off. let apart : j ≢ i = eqb-false j i off in
      by_test
      (eqb k i)
      (λ here. let same : k ≡ i = eqb-true k i here in absurd (apart (alone x j (set-id x (rw same at q)) p)))
      (λ off2. once_means words ids e x j k (set-request x j apart p) (set-request x k (eqb-false k i off2) q))))
    where
      alone : (x k : ℕ) → x ≡ id.0 → RequestAt (set words i request_word) (set ids i id.0) x k → k ≡ i
      alone x k is r =
          by_test
          (eqb k i)
          (λ here. eqb-true k i here)
          (λ off. absurd (nowhere_request id words ids k none (rw (← is) (set-request x k (eqb-false k i off) r))))
