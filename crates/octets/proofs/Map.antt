-- Laws of a loop that rewrites each element by one function. Assumes nothing.
use Prim.Native.Nat.{ℕ, zero, suc, ◌+◌, ◌≤◌, ◌<◌}
use mathlib.Core.List.{List, [], ◌∷◌, map}
use mathlib.Core.Path.{◌≡◌, refl, ap, ◌∙◌}
use native.Mathlib.Numerals.{add-one}
use native.Mathlib.Omega.{arith}
use lib.ListN.{length, get_or, set, length-set}

-- the first i elements are rewritten
abbrev map_to : (ℕ → ℕ) → ℕ → List ℕ → List ℕ
map_to f zero ws = ws
map_to f (suc i) [] = []
map_to f (suc i) (w ∷ ws) = f w ∷ map_to f i ws

map_to-suc : (f : ℕ → ℕ) (i : ℕ) (ws : List ℕ) → i < length ws → set (map_to f i ws) i (f (get_or (map_to f i ws) i 0)) ≡ map_to f (suc i) ws
map_to-suc f i [] h = absurd (omega arith)
map_to-suc f zero (w ∷ ws) h = refl
map_to-suc f (suc i) (w ∷ ws) h = ap (λ (l : List ℕ). f w ∷ l) (map_to-suc f i ws (omega arith))

map_to_all : (f : ℕ → ℕ) (i : ℕ) (ws : List ℕ) → length ws ≤ i → map_to f i ws ≡ map f ws
map_to_all f zero [] h = refl
map_to_all f (suc i) [] h = refl
map_to_all f zero (w ∷ ws) h = absurd (omega arith)
map_to_all f (suc i) (w ∷ ws) h = ap (λ (l : List ℕ). f w ∷ l) (map_to_all f i ws (omega arith))

pub record Mapped (f : ℕ → ℕ) (start words : List ℕ) (i : ℕ) : Type 0 where
  pub inside : i ≤ length words
  pub same : length words ≡ length start
  pub done : words ≡ map_to f i start

module _ (f : ℕ → ℕ) (start : List ℕ) where
  pub mapped_none : Mapped f start start 0
  mapped_none = record { inside = omega arith; same = refl; done = refl }

  module _ (words : List ℕ) (i : ℕ) (m : Mapped f start words i) where
    pub mapped_more : {v : ℕ} → i < length words → v ≡ f (get_or words i 0) → Mapped f start (set words i v) (i + 1)
    mapped_more {v} h e =
        record {
          inside = simp length-set (omega arith);
          same = simp length-set m.same;
          done = rw (e, m.done, add-one) (map_to-suc f i start (omega arith));
        }

    pub mapped_all : length words ≤ i → words ≡ map f start
    mapped_all h = m.done ∙ map_to_all f i start (omega arith)
