-- Which Requests are open as the words and the IDs change. Assumes nothing.
use Rattle.std.specs.Prelude.{Option, Some, None}
use Prim.Native.Nat.{ℕ, ◌<◌}
use mathlib.Core.Bool.{true, false, true≢false}
use mathlib.Core.List.{List}
use mathlib.Core.Logic.{◌≢◌}
use mathlib.Core.Path.{◌≡◌, refl, sym, ap, ◌∙◌}
use lib.ListN.{length, get_or, set, length-set}
use lib.Seq.{get_or-set_same, get_or-set_other}
use Rattle.octets.proofs.Choice.{no}
use Rattle.ft_number.specs.declared.MessageId.{MessageId}
use Rattle.label_list.specs.Find.{is_found}
use Rattle.label_list.specs.Requests.{RequestAt, once_of, open_at}
use Rattle.label_list.specs.Word.{request_word}
use Rattle.label_list.proofs.OpenIds.{found_request, nowhere_request, once_means}
use Rattle.label_meaning.specs.Event.{LabelEvent, Acked, Asked, after_event}
use Rattle.label_meaning.specs.Requests.{ends_at}
use Rattle.label_meaning.proofs.RequestIds.{open_old, open_still}
use Rattle.label_meaning.proofs.Requests.{free-plain, request_ends}
use Rattle.protocol.specs.Acked.{released_labels}
use Rattle.protocol.proofs.Words.{released-keeps}

-- two IDs of one number are one
pub id_same : (x y : MessageId) → x.0 ≡ y.0 → x ≡ y
id_same x y e = ap (λ (n : ℕ). record { 0 = n }) e

-- an ID is open in both lists or in neither
pub found_same : (id : MessageId) (vs xs ws ys : List ℕ) → ((j : ℕ) → RequestAt vs xs id.0 j → RequestAt ws ys id.0 j)
    → ((j : ℕ) → RequestAt ws ys id.0 j → RequestAt vs xs id.0 j) → is_found (open_at id vs xs) ≡ is_found (open_at id ws ys)
found_same id vs xs ws ys there back = by (open_at id vs xs) refl (open_at id ws ys) refl
  where
    by : (f : Option ℕ) → open_at id vs xs ≡ f → (g : Option ℕ) → open_at id ws ys ≡ g → is_found f ≡ is_found g
    by (Some i) e (Some j) q = refl
    by (Some i) e None q = absurd (nowhere_request id ws ys i q (there i (found_request id vs xs i e)))
    by None e (Some j) q = absurd (nowhere_request id vs xs j e (back j (found_request id ws ys j q)))
    by None e None q = refl

pub not_found : (id : MessageId) (vs xs : List ℕ) → ((j : ℕ) → RequestAt vs xs id.0 j → ⊥) → is_found (open_at id vs xs) ≡ false
not_found id vs xs none = by (open_at id vs xs) refl
  where
    by : (f : Option ℕ) → open_at id vs xs ≡ f → is_found f ≡ false
    by (Some i) e = absurd (none i (found_request id vs xs i e))
    by None e = refl

pub is_found_lem : (id : MessageId) (vs xs : List ℕ) (i : ℕ) → RequestAt vs xs id.0 i → is_found (open_at id vs xs) ≡ true
is_found_lem id vs xs i r = by (open_at id vs xs) refl
  where
    by : (f : Option ℕ) → open_at id vs xs ≡ f → is_found f ≡ true
    by (Some j) e = refl
    by None e = absurd (nowhere_request id vs xs i e r)

-- ---- an event of the words
module _ (words ids : List ℕ) (e : LabelEvent) (other : e ≢ Asked) (id : MessageId) where
  -- one that does not end the Request of that ID leaves it
  pub event_open : ((i : ℕ) → ends_at e ≡ Some i → RequestAt words ids id.0 i → ⊥) → is_found (open_at id (after_event words e) ids) ≡ is_found (open_at id words ids)
  event_open apart =
      found_same id (after_event words e) ids words ids (open_old words ids e other id.0)
      (λ j r. open_still words ids e id.0 j (λ at. apart j at r) r)

  -- one that ends it does
  pub event-closed : (i : ℕ) → ends_at e ≡ Some i → once_of words ids ≡ true → RequestAt words ids id.0 i → is_found (open_at id (after_event words e) ids) ≡ false
  event-closed i at once r =
      not_found id (after_event words e) ids (λ j q.
      let same : j ≡ i = once_means words ids once id.0 j i (open_old words ids e other id.0 j q) r in
      true≢false (sym q.request ∙ request_ends words e j (at ∙ ap Some (sym same))))

-- ACKs end none
pub acked_open : (ids : List ℕ) (id : MessageId) (ms : List (List ℕ)) (words : List ℕ) → is_found (open_at id (released_labels ms words) ids) ≡ is_found (open_at id words ids)
acked_open ids id ms words =
    released-keeps (λ (ws : List ℕ). is_found (open_at id ws ids) ≡ is_found (open_at id words ids))
    (λ ws same message label. event_open ws ids (Acked message label) (λ z. no cc) id (λ i at r. no cc) ∙ same) ms words refl

-- ---- a Request of another ID is asked, at a free word
module _ (words ids : List ℕ) (i : ℕ) (free : get_or words i 0 ≡ 0) (q id : MessageId) (apart : q.0 ≢ id.0) where
  asked-there : (j : ℕ) → RequestAt (set words i request_word) (set ids i q.0) id.0 j → RequestAt words ids id.0 j
  asked-there j r =
      let inside : j < length ids = rw (length-set ids i q.0) at r.inside in
      let off : j ≢ i = λ e. apart (sym (get_or-set_same ids i q.0 0 (rw e at inside)) ∙ rw e at r.same) in
      record {
        request = rw (get_or-set_other words i j request_word 0 off) at r.request;
        inside = inside;
        same = sym (get_or-set_other ids i j q.0 0 off) ∙ r.same;
      }

  asked_back : (j : ℕ) → RequestAt words ids id.0 j → RequestAt (set words i request_word) (set ids i q.0) id.0 j
  asked_back j r =
      let off : j ≢ i = λ e. true≢false (sym (rw e at r.request) ∙ free-plain (get_or words i 0) free) in
      record {
        request = rw (get_or-set_other words i j request_word 0 off) r.request;
        inside = rw (length-set ids i q.0) r.inside;
        same = get_or-set_other ids i j q.0 0 off ∙ r.same;
      }

  pub other-asked : is_found (open_at id (set words i request_word) (set ids i q.0)) ≡ is_found (open_at id words ids)
  other-asked = found_same id (set words i request_word) (set ids i q.0) words ids asked-there asked_back
