-- Messages whose release frees no label: a walk over their kinds, and what it says of the label words. Assumes nothing.
use Prim.Native.Nat.{ℕ, ◌+◌, ◌≤◌, ◌<◌}
use mathlib.Core.Bool.{Bool, true, false}
use mathlib.Core.List.{List, [], ◌∷◌}
use mathlib.Core.Path.{◌≡◌, refl, sym, ◌∙◌}
use native.Mathlib.Numerals.{add-one}
use lib.Dec.{eqb}
use lib.ListN.{length, get_or, take, drop, drop_of_length-le}
use lib.Seq.{length-take-le, drop-cons, get_or-take}
use borrow.Author.Tests.{eq-eqb, ne_eqb}
use Rattle.octets.proofs.Choice.{cleared}
use Rattle.message.specs.declared.Kind.{Kind}
use Rattle.message.specs.Kinds.{kind_number}
use Rattle.message.specs.Storable.{kind_in, label_in}
use Rattle.message.specs.Submission.{submission_of}
use Rattle.protocol.specs.Acked.{released_kind, released_labels}
use Rattle.calls.specs.Freeing.{frees_label, frees_none}

-- by the kind; the premises are what the code was told of the two kinds' numbers
module _ (kind : ℕ) {w : ℕ} (ew : w ≡ kind_number Kind.Withdraw) where
  pub withdraw-frees : kind ≡ w → true ≡ frees_label kind
  unfolding frees_label
  withdraw-frees k = rw (eq-eqb kind (kind_number Kind.Withdraw) (k ∙ ew))

  pub other-frees : (kind ≡ w → ⊥) → {r : ℕ} → r ≡ kind_number Kind.Release → eqb kind r ≡ frees_label kind
  unfolding frees_label
  other-frees n er = rw (ne_eqb kind (kind_number Kind.Withdraw) (λ k. n (k ∙ sym ew)), er)

-- A walk over the oldest `count` of the queue that has passed i of them: what is left to say is of the rest.
pub record Passed (queue : List (List ℕ)) (count i : ℕ) : Type 0 where
  pub rest : frees_none (take count queue) ≡ frees_none (drop i (take count queue))

pub passed_none : (queue : List (List ℕ)) (count : ℕ) → Passed queue count 0
passed_none queue count = record { rest = refl }

module _ (queue : List (List ℕ)) (count i : ℕ) (p : Passed queue count i) (held : count ≤ length queue) where
  module _ (more : i < count) {k : ℕ} {b : Bool} (ek : k ≡ kind_in (submission_of (get_or queue i []))) (eb : b ≡ frees_label k) where
    next : drop i (take count queue) ≡ get_or queue i [] ∷ drop (i + 1) (take count queue)
    next = rw (drop-cons (take count queue) i [] (rw (length-take-le count queue held) more), get_or-take count queue i [] more, add-one)

    pub passed_one : b ≡ false → Passed queue count (i + 1)
    unfolding frees_none
    passed_one f = record { rest = p.rest ∙ rw (next, ← ek, ← eb, f) }

    pub passed_freeing : b ≡ true → false ≡ frees_none (take count queue)
    unfolding frees_none
    passed_freeing t = sym (p.rest ∙ rw (next, ← ek, ← eb, t))

  pub passed_all : count ≤ i → true ≡ frees_none (take count queue)
  unfolding frees_none
  passed_all h =
      let past : length (take count queue) ≤ i = rw (length-take-le count queue held) h in
      sym (p.rest ∙ rw (drop_of_length-le (take count queue) past))

-- Where none frees a label the words stay.
kind_stays : (kind label : ℕ) (ls : List ℕ) → frees_label kind ≡ false → released_kind kind label ls ≡ ls
unfolding frees_label released_kind
kind_stays kind label ls e =
    let p : (eqb kind (kind_number Kind.Withdraw) ≡ false) × (eqb kind (kind_number Kind.Release) ≡ false) =
    cleared (eqb kind (kind_number Kind.Withdraw)) true (eqb kind (kind_number Kind.Release)) false (λ x. cc) e in
    rw (p.0, p.1)

pub none_freed : (ms : List (List ℕ)) (ls : List ℕ) → frees_none ms ≡ true → released_labels ms ls ≡ ls
unfolding frees_none released_labels
none_freed [] ls e = refl
none_freed (m ∷ ms) ls e =
    let p : (frees_label (kind_in (submission_of m)) ≡ false) × (frees_none ms ≡ true) =
    cleared (frees_label (kind_in (submission_of m))) false (frees_none ms) true (λ x. cc) e in
    rw (kind_stays (kind_in (submission_of m)) (label_in (submission_of m)) ls p.0) (none_freed ms ls p.1)
