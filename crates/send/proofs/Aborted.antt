-- The IDs that held Aborts name: which kind has one, a loop that reads them, and a search among them. Assumes nothing.
use Rattle.std.specs.Prelude.{Result, Ok, Err, Option, None}
use Prim.Native.Nat.{ℕ, zero, suc, ◌+◌, ◌-◌, ◌≤◌, ◌<◌}
use mathlib.Core.Bool.{true, false}
use mathlib.Core.List.{List, [], ◌∷◌}
use mathlib.Core.Path.{◌≡◌, refl, sym, ap, ◌∙◌}
use native.Mathlib.Numerals.{add-one}
use native.Mathlib.Omega.{arith}
use lib.ListN.{length, get_or, drop, length-map, length-drop, drop_of_length-le}
use lib.Seq.{drop-cons, ext_get_or, get_or-drop}
use Rattle.ft_number.specs.declared.MessageId.{MessageId}
use Rattle.message.specs.declared.Kind.{Kind}
use Rattle.message.specs.declared.SubmissionError.{SubmissionError}
use Rattle.message.specs.Kinds.{kind_number}
use Rattle.message.specs.Reading.{id_in}
use Rattle.message.specs.Storable.{kind_in}
use Rattle.message.specs.Submission.{submission_of}
use Rattle.message.proofs.Laws.{accepted, request-id, whole-id}
use Rattle.protocol.specs.LeftOut.{aborts_id, is_aborted, kind_held, undone_by}
use Rattle.send.specs.Aborted.{aborted_id, aborted_ids, is_among, names}

-- ---- the kind's number tells the kind
pub kind_in_lem : (x : Result (Kind × ℕ) SubmissionError) → kind_in x ≡ kind_number (kind_held x)
kind_in_lem (Err SubmissionError.Malformed) = refl
kind_in_lem (Err SubmissionError.Refused) = refl
kind_in_lem (Ok (k, l)) = refl

-- of a message that is no Request
pub none_undone : (k : Kind) (ms : List (List ℕ)) → (kind_number k ≡ 7 → ⊥) → false ≡ undone_by k ms
none_undone Kind.Mapping ms n = refl
none_undone Kind.Withdraw ms n = refl
none_undone Kind.Release ms n = refl
none_undone Kind.Address ms n = refl
none_undone Kind.AddressWithdraw ms n = refl
none_undone Kind.ResourcesAvailable ms n = refl
none_undone (Kind.Request id) ms n = absurd (n refl)
none_undone (Kind.Abort id) ms n = refl
none_undone Kind.NoResources ms n = refl
none_undone Kind.NoKind ms n = refl

-- of a Request, with the ID that it bears
a-request : (P : Kind → Type 0) (k : Kind) → kind_number k ≡ 7 → ((id : MessageId) → P (Kind.Request id)) → P k
a-request P Kind.Mapping e r = absurd (omega arith)
a-request P Kind.Withdraw e r = absurd (omega arith)
a-request P Kind.Release e r = absurd (omega arith)
a-request P Kind.Address e r = absurd (omega arith)
a-request P Kind.AddressWithdraw e r = absurd (omega arith)
a-request P Kind.ResourcesAvailable e r = absurd (omega arith)
a-request P (Kind.Request id) e r = r id
a-request P (Kind.Abort id) e r = absurd (omega arith)
a-request P Kind.NoResources e r = absurd (omega arith)
a-request P Kind.NoKind e r = absurd (omega arith)

pub request-held : (m : List ℕ) → kind_in (submission_of m) ≡ 7 → kind_held (submission_of m) ≡ Kind.Request (id_in m)
request-held m e = by (submission_of m) refl e
  where
    by : (x : Result (Kind × ℕ) SubmissionError) → submission_of m ≡ x → kind_in x ≡ 7 → kind_held x ≡ Kind.Request (id_in m)
    by (Err SubmissionError.Malformed) q e = absurd (omega arith)
    by (Err SubmissionError.Refused) q e = absurd (omega arith)
    by (Ok (k, l)) q e =
        a-request (λ k. submission_of m ≡ Ok (k, l) → k ≡ Kind.Request (id_in m)) k e
        (λ id q. let a = accepted m (Kind.Request id) l q in ap Kind.Request (sym (request-id a.message id a.kind) ∙ whole-id m a.message a.reading)) q

-- ---- the IDs that messages abort
aborted_at : (ms : List (List ℕ)) (k : ℕ) → k < length ms
    → get_or (aborted_ids ms) k None ≡ aborted_id (kind_held (submission_of (get_or ms k [])))
aborted_at [] k l = absurd (omega arith)
aborted_at (m ∷ ms) zero l = refl
aborted_at (m ∷ ms) (suc k) l = aborted_at ms k (omega arith)

-- as many as there are messages from a place on, and each in its place
module _ (queue : List (List ℕ)) (from : ℕ) where
  abbrev those : List (Option MessageId)
  those = aborted_ids (drop from queue)

  how_many : length those ≡ length queue - from
  how_many = length-map (drop from queue) _ ∙ length-drop from queue

  pub aborted_count : {ids : List (Option MessageId)} → ids ≡ those → length ids ≡ length queue - from
  aborted_count e = rw e how_many

  pub all_collected : {ids : List (Option MessageId)} → from + length ids ≡ length queue
      → ((k : ℕ) → k < length ids → get_or ids k None ≡ aborted_id (kind_held (submission_of (get_or queue (from + k) []))))
      → ids ≡ those
  all_collected {ids} whole each =
      let as_many : length ids ≡ length those = omega (arith, how_many, whole) in
      ext_get_or None ids those as_many
      (λ k l. each k l ∙ sym (rw get_or-drop at (aborted_at (drop from queue) k (omega (arith, length-drop from queue, whole)))))

-- an Abort that names the ID, and its ID among those aborted
module _ (id : MessageId) where
  aborts_is : (k : Kind) → names id (aborted_id k) ≡ aborts_id id k
  aborts_is Kind.Mapping = refl
  aborts_is Kind.Withdraw = refl
  aborts_is Kind.Release = refl
  aborts_is Kind.Address = refl
  aborts_is Kind.AddressWithdraw = refl
  aborts_is Kind.ResourcesAvailable = refl
  aborts_is (Kind.Request other) = refl
  aborts_is (Kind.Abort named) = refl
  aborts_is Kind.NoResources = refl
  aborts_is Kind.NoKind = refl

  pub among_aborted : (ms : List (List ℕ)) → is_among id (aborted_ids ms) ≡ is_aborted id ms
  unfolding is_among is_aborted
  among_aborted [] = refl
  among_aborted (m ∷ ms) = rw (aborts_is (kind_held (submission_of m)), among_aborted ms)

-- ---- of those from the i-th on the i-th is asked, then those behind it
module _ (id : MessageId) (ids : List (Option MessageId)) (i : ℕ) where
  module _ (inside : i < length ids) where
    pub among_here : names id (get_or ids i None) ≡ true → is_among id (drop i ids) ≡ true
    unfolding is_among
    among_here y = rw (drop-cons ids i None inside, y)

    pub among_behind : names id (get_or ids i None) ≡ false → is_among id (drop i ids) ≡ is_among id (drop (i + 1) ids)
    unfolding is_among
    among_behind n = rw (drop-cons ids i None inside, n, add-one i)

  pub among_none : length ids ≤ i → is_among id (drop i ids) ≡ false
  unfolding is_among
  among_none l = rw (drop_of_length-le ids l)
