-- The label words as messages are released one after the other. Assumes nothing.
use Prim.Native.Nat.{ℕ, ◌+◌, ◌≤◌, ◌<◌}
use mathlib.Core.Bool.{false}
use mathlib.Core.List.{List, [], ◌∷◌, ◌++◌}
use mathlib.Core.Path.{◌≡◌, refl, sym, ◌∙◌}
use native.Mathlib.Numerals.{add-one}
use native.Mathlib.Omega.{arith}
use lib.Dec.{eqb}
use lib.ListN.{length, get_or, take}
use lib.Seq.{take-suc}
use borrow.Author.Tests.{eq-eqb, ne_eqb}
use Rattle.label_list.specs.declared.LabelMessage.{LabelMessage}
use Rattle.label_events.specs.Ack.{acked_of}
use Rattle.message.specs.declared.Kind.{Kind}
use Rattle.message.specs.Kinds.{kind_number}
use Rattle.message.specs.Storable.{kind_in, label_in}
use Rattle.message.specs.Submission.{submission_of}
use Rattle.protocol.specs.Acked.{released_kind, released_labels}

-- by the kind; the premises are what the code was told of the two kinds' numbers, and its tests
module _ (kind label : ℕ) (ls : List ℕ) {w : ℕ} (ew : w ≡ kind_number Kind.Withdraw) where
  pub released-withdraw : {ys : List ℕ} → kind ≡ w → ys ≡ acked_of ls LabelMessage.Withdraw label → ys ≡ released_kind kind label ls
  unfolding released_kind
  released-withdraw k e = rw (eq-eqb kind (kind_number Kind.Withdraw) (k ∙ ew)) e

  module _ (n : kind ≡ w → ⊥) {r : ℕ} (er : r ≡ kind_number Kind.Release) where
    other : eqb kind (kind_number Kind.Withdraw) ≡ false
    other = ne_eqb kind (kind_number Kind.Withdraw) (λ k. n (k ∙ sym ew))

    pub released-release : {ys : List ℕ} → kind ≡ r → ys ≡ acked_of ls LabelMessage.Release label → ys ≡ released_kind kind label ls
    unfolding released_kind
    released-release k e = rw (other, eq-eqb kind (kind_number Kind.Release) (k ∙ er)) e

    pub released-other : (kind ≡ r → ⊥) → ls ≡ released_kind kind label ls
    unfolding released_kind
    released-other m = rw (other, ne_eqb kind (kind_number Kind.Release) (λ k. m (k ∙ sym er)))

-- to release one run of messages and then another is to release both
pub released-append : (ms ns : List (List ℕ)) (ls : List ℕ) → released_labels (ms ++ ns) ls ≡ released_labels ns (released_labels ms ls)
unfolding released_labels
released-append [] ns ls = refl
released-append (m ∷ ms) ns ls = released-append ms ns (released_kind (kind_in (submission_of m)) (label_in (submission_of m)) ls)

-- the oldest i of the queue were released
pub record Releasing (queue : List (List ℕ)) (count : ℕ) (ls₀ ls : List ℕ) (i : ℕ) : Type 0 where
  pub inside : i ≤ count
  pub same : length ls ≡ length ls₀
  pub done : ls ≡ released_labels (take i queue) ls₀

module _ (queue : List (List ℕ)) (count : ℕ) (ls₀ : List ℕ) where
  pub releasing_none : Releasing queue count ls₀ ls₀ 0
  unfolding released_labels
  releasing_none = record { inside = omega arith; same = refl; done = refl }

  pub releasing_one : {ls ls' : List ℕ} {i k l : ℕ} → Releasing queue count ls₀ ls i → i < count → i < length queue
      → k ≡ kind_in (submission_of (get_or queue i [])) → l ≡ label_in (submission_of (get_or queue i []))
      → length ls' ≡ length ls → ls' ≡ released_kind k l ls → Releasing queue count ls₀ ls' (i + 1)
  unfolding released_labels
  releasing_one {ls} {ls'} {i} {k} {l} w h q ek el same e = record {
    inside = omega arith;
    same = same ∙ w.same;
    done =
        e
        ∙ (rw (add-one i, take-suc queue i [] q, released-append (take i queue) (get_or queue i [] ∷ []) ls₀, ← w.done, ek, el));
  }

  pub releasing_all : {ls : List ℕ} {i : ℕ} → Releasing queue count ls₀ ls i → count ≤ i → ls ≡ released_labels (take count queue) ls₀
  releasing_all {ls} {i} w h = let e : i ≡ count = omega (arith, w.inside) in rw e at w.done
