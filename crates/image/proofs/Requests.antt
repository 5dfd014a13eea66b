-- The IDs beside the label words, as an image stores them: what counts of them as words are freed and taken. Assumes nothing.
use Rattle.std.specs.Prelude.{None}
use Prim.Native.Nat.{ℕ, ◌≤◌, ◌<◌}
use mathlib.Core.Bool.{true, false, true≢false}
use mathlib.Core.List.{List}
use mathlib.Core.Path.{◌≡◌, refl, sym, ap, ◌∙◌}
use native.Mathlib.Omega.{arith}
use lib.Dec.{eqb}
use lib.ListN.{length, get_or, set, replicate, length-set}
use lib.Seq.{ext_get_or}
use borrow.Author.Tests.{eqb-true, eqb-false}
use Rattle.octets.proofs.Choice.{by_test}
use Rattle.octets.proofs.Fill.{zeros_at, length_zeros}
use Rattle.ft_number.specs.declared.MessageId.{MessageId}
use Rattle.label_list.specs.Find.{any}
use Rattle.label_list.specs.Requests.{open_ids, once_of, open_at}
use Rattle.label_list.specs.Word.{word_count, code_of, request_code, request_word, is_request}
use Rattle.label_list.proofs.Counting.{counting-freed, counting-length, counting-taken, counting_dead, counting_none}
use Rattle.label_list.proofs.OpenIds.{means_once, once_counting, once_taken, open_counting}
use Rattle.block0.specs.Coded.{has_code}
use Rattle.label_meaning.proofs.Meaning.{any_none}
use Rattle.image.specs.State.{decode, stored_ids}
use Rattle.image.proofs.Ranges.{labels-count, stored-count}

-- Requests only fewer: each open one was open
abbrev pub Fewer : List ℕ → List ℕ → Type 0
Fewer ls ws = (i : ℕ) → is_request (get_or ls i 0) ≡ true → is_request (get_or ws i 0) ≡ true

-- ---- no open Request
-- a word of another code is no Request's
other-code : (w : ℕ) → has_code request_code w ≡ false → is_request w ≡ false
unfolding is_request
other-code w f = by_test (eqb w request_word) (λ t. absurd (eqb-false (code_of w) request_code f (let e : w ≡ request_word = eqb-true w request_word t in omega arith))) (λ e. e)

module _ (ws : List ℕ) (none : any (has_code request_code) ws ≡ false) where
  no_request_lem : (i : ℕ) → is_request (get_or ws i 0) ≡ false
  no_request_lem i = other-code (get_or ws i 0) (any_none (has_code request_code) ws none refl i)

  pub no_ids : (n : ℕ) → length ws ≡ n → (xs : List ℕ) → open_ids ws xs ≡ replicate n 0
  no_ids n long xs =
      ext_get_or 0 (open_ids ws xs) (replicate n 0) (counting-length 0 is_request ws xs ∙ long ∙ sym (length_zeros n))
      (λ i l. counting_none 0 is_request ws xs i (no_request_lem i) ∙ sym (zeros_at n i))

  pub none_once : (xs : List ℕ) → once_of ws xs ≡ true
  none_once xs = means_once ws xs (λ id i j p q. absurd (true≢false (sym p.request ∙ no_request_lem i)))

  pub none_fewer : (vs : List ℕ) → Fewer ws vs
  none_fewer vs i t = absurd (true≢false (sym t ∙ no_request_lem i))

-- ---- Requests only fewer
module _ (image ls : List ℕ) (n : length ls ≡ word_count) where
  -- the IDs that count then counted before
  pub ids_fewer : Fewer ls (decode image).labels → open_ids ls (stored_ids image) ≡ open_ids ls (decode image).ids
  unfolding decode
  ids_fewer f = sym (counting-freed 0 is_request ls (decode image).labels (stored_ids image) (n ∙ sym (labels-count image)) f)

  -- only those that count decide
  pub once_stored : once_of ls (open_ids ls (stored_ids image)) ≡ once_of ls (stored_ids image)
  once_stored = once_counting ls (stored_ids image) (omega (arith, stored-count image))

-- ---- a Request is asked: its word is taken and its ID counts
pub ids-taken : (image : List ℕ) (place : ℕ) (id : MessageId) → place < word_count
    → open_ids (set (decode image).labels place request_word) (set (stored_ids image) place id.0) ≡ set (decode image).ids place id.0
unfolding decode is_request
ids-taken image place id room =
    counting-taken 0 is_request (decode image).labels (stored_ids image) place request_word id.0 refl
    (omega (arith, labels-count image)) (omega (arith, stored-count image))

-- under an ID that is not open
pub once_asked : (image : List ℕ) (place : ℕ) (id : MessageId) → once_of (decode image).labels (stored_ids image) ≡ true
    → open_at id (decode image).labels (decode image).ids ≡ None
    → once_of (set (decode image).labels place request_word) (set (stored_ids image) place id.0) ≡ true
unfolding decode
once_asked image place id once none =
    once_taken (decode image).labels (stored_ids image) place id once
    (sym (open_counting id (decode image).labels (stored_ids image) (omega (arith, labels-count image, stored-count image))) ∙ none)

-- its ID stored, but its word not yet taken: it does not count
pub once_dead : (image : List ℕ) (place : ℕ) (id : MessageId) → is_request (get_or (decode image).labels place 0) ≡ false
    → once_of (decode image).labels (stored_ids image) ≡ true → once_of (decode image).labels (set (stored_ids image) place id.0) ≡ true
once_dead image place id dead once =
    let n : length (decode image).labels ≤ length (set (stored_ids image) place id.0) =
    omega (arith, labels-count image, length-set (stored_ids image) place id.0, stored-count image) in
    sym (once_counting (decode image).labels (set (stored_ids image) place id.0) n)
    ∙ ap (once_of (decode image).labels) (counting_dead 0 is_request (decode image).labels (stored_ids image) place id.0 dead)
    ∙ once_stored image (decode image).labels (labels-count image)
    ∙ once
