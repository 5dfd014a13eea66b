-- What a writer answered and left, by the room. Assumes nothing.
use Rattle.std.specs.Prelude.{Option, Some, None}
use Prim.Native.Nat.{ℕ, ◌≤◌, ◌<◌}
use mathlib.Core.Bool.{true, false}
use mathlib.Core.List.{List}
use mathlib.Core.Path.{◌≡◌, sym, ap}
use native.Mathlib.Omega.{arith}
use lib.Dec.{ltb}
use lib.ListN.{length}
use borrow.Author.Tests.{lt-ltb, le-ltb}
use Rattle.octets.specs.Laid.{laid}
use Rattle.octets.proofs.Choice.{passed, cleared}
use Rattle.message_writer.specs.Written.{written_of}

-- a message laid from the start is written
pub written-whole : (out p y : List ℕ) → y ≡ laid out 0 p → length p ≤ length out → (n : ℕ) → n ≡ length p → (Some n, y) ≡ written_of out p
unfolding written_of
written-whole out p y e room n nq =
    simp (le-ltb (length out) (length p) room, nq) (ap (λ (x : List ℕ). (Some (length p), x)) e)

pub written-short : (out p : List ℕ) (n : ℕ) → n ≡ length p → length out < n → (None, out) ≡ written_of out p
unfolding written_of
written-short out p n nq h = simp (lt-ltb (length out) (length p) (omega arith))

-- ---- the other way: what an answer tells of the room and of the output
module _ (o p : List ℕ) {w : Option ℕ} {o' : List ℕ} (e : (w, o') ≡ written_of o p) where
  abbrev short : (Option ℕ) × List ℕ
  short = (None, o)

  abbrev whole : (Option ℕ) × List ℕ
  whole = (Some (length p), laid o 0 p)

  pub too_short : w ≡ None → (ltb (length o) (length p) ≡ true) × (o' ≡ o)
  unfolding written_of
  too_short t =
      let q = passed (ltb (length o) (length p)) short whole (w, o') (λ z. let f : Some (length p) ≡ w = ap (λ x. x.0) z in cc) (sym e) in
      (q.0, ap (λ x. x.1) (sym q.1))

  pub long_enough : {n : ℕ} → w ≡ Some n → (ltb (length o) (length p) ≡ false) × ((n ≡ length p) × (o' ≡ laid o 0 p))
  unfolding written_of
  long_enough t =
      let q = cleared (ltb (length o) (length p)) short whole (w, o') (λ z. let f : None ≡ w = ap (λ x. x.0) z in cc) (sym e) in
      let f : Some (length p) ≡ w = ap (λ x. x.0) q.1 in
      (q.0, ((cc), ap (λ x. x.1) (sym q.1)))
