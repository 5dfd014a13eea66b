-- Whether a message of a kind and label is held: asked of one message after the other. Assumes nothing.
use Rattle.std.specs.Prelude.{Ok}
use Prim.Native.Nat.{ℕ, ◌+◌, ◌≤◌, ◌<◌}
use mathlib.Core.Bool.{Bool, true, false}
use mathlib.Core.List.{List, []}
use mathlib.Core.Path.{◌≡◌, sym, ap, ◌∙◌}
use native.Mathlib.Numerals.{add-one}
use lib.Dec.{eqb}
use lib.ListN.{length, get_or, drop, drop_of_length-le}
use lib.Seq.{drop-cons}
use borrow.Author.Tests.{ne_eqb}
use Rattle.message.specs.Kinds.{kind_number}
use Rattle.message.specs.Storable.{bears, Storable, kind_in, label_in}
use Rattle.message.specs.Submission.{submission_of}
use Rattle.slot.proofs.Judged.{bears_kind, bears-other}
use Rattle.protocol.specs.Held.{is_held}

-- ---- one message, by the kind and the label that its slot gives
module _ (m : List ℕ) (s : Storable m) (kind label : ℕ) {k : ℕ} (ek : k ≡ kind_in (submission_of m)) where
  is_kind : k ≡ kind_number s.kind
  is_kind = rw s.accepted at ek

  pub other_kind : (k ≡ kind → ⊥) → false ≡ bears (submission_of m) kind label
  other_kind apart = sym (ne_eqb k kind apart) ∙ bears-other (submission_of m) s.kind s.label s.accepted k kind is_kind label apart

  pub same_kind : {l : ℕ} → l ≡ label_in (submission_of m) → k ≡ kind → eqb l label ≡ bears (submission_of m) kind label
  same_kind {l} el same = bears_kind (submission_of m) s.kind l (s.accepted ∙ ap (λ (n : ℕ). Ok (s.kind, n)) (sym (rw s.accepted at el))) k kind is_kind label same

-- ---- all of them from the i-th on: the i-th is asked, then those behind it
module _ (kind label : ℕ) (queue : List (List ℕ)) (i : ℕ) where
  module _ (inside : i < length queue) {b : Bool} (e : b ≡ bears (submission_of (get_or queue i [])) kind label) where
    pub held_here : b ≡ true → true ≡ is_held kind label (drop i queue)
    unfolding is_held
    held_here y = rw (drop-cons queue i [] inside, ← e, y)

    pub held_behind : b ≡ false → is_held kind label (drop i queue) ≡ is_held kind label (drop (i + 1) queue)
    unfolding is_held
    held_behind n = rw (drop-cons queue i [] inside, ← e, n, add-one i)

  pub held_none : length queue ≤ i → false ≡ is_held kind label (drop i queue)
  unfolding is_held
  held_none l = rw (drop_of_length-le queue l)
