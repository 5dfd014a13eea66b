-- Lists differ exactly if they are not equal; and the steps of a comparison from the start. Assumes nothing.
use Prim.Native.Nat.{ℕ, suc, ◌+◌, ◌≤◌, ◌<◌}
use mathlib.Core.Bool.{Bool, true, false, not, ◌&&◌}
use mathlib.Core.List.{List, [], ◌∷◌}
use mathlib.Core.Path.{◌≡◌, refl, sym, ◌∙◌}
use native.Mathlib.Numerals.{add-one}
use native.Mathlib.Omega.{arith}
use lib.Dec.{eqb}
use lib.ListN.{length, get_or, drop}
use lib.Pointwise.{pointwise}
use lib.Seq.{drop-cons, drop-length}
use borrow.Author.Tests.{eq-eqb, eqb-true}
use Rattle.octets.specs.Differ.{differ}
use Rattle.octets.specs.Pick.{pick}

pub differ_self : (xs : List ℕ) → differ xs xs ≡ false
unfolding differ
differ_self [] = refl
differ_self (x ∷ xs) = rw (eq-eqb x x refl) (differ_self xs)

pub differ_false : (xs ys : List ℕ) → differ xs ys ≡ false → xs ≡ ys
unfolding differ
differ_false [] [] e = refl
differ_false [] (y ∷ ys) e = let z : ◌≡◌ {A = ℕ} 0 1 = cc in absurd (omega arith)
differ_false (x ∷ xs) [] e = let z : ◌≡◌ {A = ℕ} 0 1 = cc in absurd (omega arith)
differ_false (x ∷ xs) (y ∷ ys) e = by (eqb x y) refl e (differ_false xs ys)
  where
    by : (b : Bool) → eqb x y ≡ b → pick b (differ xs ys) true ≡ false → (differ xs ys ≡ false → xs ≡ ys) → x ∷ xs ≡ y ∷ ys
    by true t e rest = cc (eqb-true x y t, rest e)
    by false t e rest = let z : ◌≡◌ {A = ℕ} 0 1 = cc in absurd (omega arith)

-- what the language's `!=` answers
pub differ_is : (xs ys : List ℕ) → differ xs ys ≡ not (pointwise eqb xs ys)
unfolding differ
differ_is [] [] = refl
differ_is [] (y ∷ ys) = refl
differ_is (x ∷ xs) [] = refl
differ_is (x ∷ xs) (y ∷ ys) = by (eqb x y) (differ_is xs ys)
  where
    by : (b : Bool) → differ xs ys ≡ not (pointwise eqb xs ys)
        → pick b (differ xs ys) true ≡ not (b && pointwise eqb xs ys)
    by true rest = rest
    by false rest = refl

-- what was compared up to i is the same
pub record Same (xs ys : List ℕ) (i : ℕ) : Type 0 where
  pub inside : i ≤ length xs
  pub long : length xs ≡ length ys
  pub rest : differ xs ys ≡ differ (drop i xs) (drop i ys)

pub same_none : (xs ys : List ℕ) → length xs ≡ length ys → Same xs ys 0
same_none xs ys e = record { inside = omega arith; long = e; rest = refl }

module _ (xs ys : List ℕ) (i : ℕ) (s : Same xs ys i) where
  step : i < length xs → differ xs ys ≡ pick (eqb (get_or xs i 0) (get_or ys i 0)) (differ (drop (suc i) xs) (drop (suc i) ys)) true
  unfolding differ
  step h = s.rest ∙ rw (drop-cons xs i 0 h, drop-cons ys i 0 (let l : i < length ys = omega (arith, s.long) in l))

  pub same_one : i < length xs → get_or xs i 0 ≡ get_or ys i 0 → Same xs ys (i + 1)
  same_one h e = record { inside = omega arith; long = s.long; rest = step h ∙ rw (eq-eqb (get_or xs i 0) (get_or ys i 0) e, add-one) }

  pub same_all : length xs ≤ i → false ≡ differ xs ys
  unfolding differ
  same_all h =
      let e : i ≡ length xs = omega (arith, s.inside) in
      let x : drop i xs ≡ [] = rw e (drop-length xs) in
      let y : drop i ys ≡ [] = rw (e, s.long) (drop-length ys) in
      sym (s.rest ∙ rw (x, y))
