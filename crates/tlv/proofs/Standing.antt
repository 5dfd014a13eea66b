-- The places of TLVs that are noted one after the other: each stands where it lies, and none has two places. Assumes nothing.
use Prim.Native.Nat.{ℕ, ◌+◌, ◌<◌}
use mathlib.Core.List.{List, [], ◌∷◌, ◌++◌, flatten}
use mathlib.Core.Logic.{⊎_elim}
use mathlib.Core.Path.{◌≡◌, refl, sym, ap, ◌∙◌}
use native.Mathlib.Nat.{add-zero}
use native.Mathlib.Omega.{arith}
use lib.ListN.{length, length-append}
use Rattle.tlv.specs.declared.Found.{Found}
use Rattle.tlv.specs.declared.walk.Tlv.{Tlv}
use Rattle.tlv.specs.Split.{IsListed, Lacks, Once, PlaceIs, nowhere, there}
use Rattle.tlv.specs.Tlv.{head_of}
use Rattle.tlv.specs.Walk.{place_of, placed_of}
use Rattle.tlv.proofs.Placed.{same_or_not, placed_here, placed_other}

-- the places after the TLVs ts, which lie from `at` on, with those found before them
abbrev pub found_in : Found → ℕ → List (List ℕ) → Found
found_in f at [] = f
found_in f at (t ∷ ts) = found_in (placed_of f (head_of t) at) (at + length t) ts

-- none of the TLVs has a place yet
abbrev pub Free : Found → List (List ℕ) → Type 0
Free f [] = Unit {0}
Free f (t ∷ ts) = (place_of f (head_of t) ≡ 0) × Free f ts

-- what was not found yet has no place
pub free_none : (f : Found) → ((tlv : Tlv) → place_of f tlv ≡ 0) → (ts : List (List ℕ)) → Free f ts
free_none f none [] = tt
free_none f none (t ∷ ts) = (none (head_of t), free_none f none ts)

-- once a TLV is placed, those that have no place yet are those that had none and are not it
module _ (f : Found) (tlv : Tlv) (at : ℕ) where
  pub free_placed : (ts : List (List ℕ)) → (IsListed tlv → Lacks ts tlv) → Free f ts → Free (placed_of f tlv at) ts
  free_placed ts lacks free = ⊎_elim (λ (e : tlv ≡ Tlv.Other). rw e free) (λ (l : IsListed tlv). go ts (lacks l) free) (same_or_not tlv Tlv.Other)
    where
      go : (us : List (List ℕ)) → Lacks us tlv → Free f us → Free (placed_of f tlv at) us
      go [] k h = tt
      go (u ∷ us) k h = (placed_other f tlv at (head_of u) k.0 ∙ h.0, go us k.1 h.1)

  pub placed_free : place_of f tlv ≡ 0 → (ts : List (List ℕ)) → Free (placed_of f tlv at) ts → Free f ts
  placed_free once [] free = tt
  placed_free once (t ∷ ts) free = (
    ⊎_elim
        (λ (e : head_of t ≡ tlv). rw e once)
        (λ (apart : head_of t ≡ tlv → ⊥). sym (placed_other f tlv at (head_of t) apart) ∙ free.0)
        (same_or_not (head_of t) tlv),
    placed_free once ts free.1,
  )

  pub placed_lacks : 0 < at → IsListed tlv → (ts : List (List ℕ)) → Free (placed_of f tlv at) ts → Lacks ts tlv
  placed_lacks some l [] free = tt
  placed_lacks some l (t ∷ ts) free = (
    λ e. let zero : place_of (placed_of f tlv at) tlv ≡ 0 = rw e at free.0 in omega (arith, placed_here f tlv at l),
    placed_lacks some l ts free.1,
  )

-- a TLV that is not among them keeps its place
pub found_lacks : (f : Found) (at : ℕ) (ts : List (List ℕ)) (tlv : Tlv) → Lacks ts tlv → place_of (found_in f at ts) tlv ≡ place_of f tlv
found_lacks f at [] tlv lacks = refl
found_lacks f at (t ∷ ts) tlv lacks =
    found_lacks (placed_of f (head_of t) at) (at + length t) ts tlv lacks.1 ∙ placed_other f (head_of t) at tlv (λ e. lacks.0 (sym e))

-- one that is the first of them stands where they begin
found_first : (f : Found) (at : ℕ) (t : List ℕ) (ts : List (List ℕ)) (tlv : Tlv) → IsListed tlv → Lacks ts tlv → head_of t ≡ tlv
    → place_of (found_in f at (t ∷ ts)) tlv ≡ at
found_first f at t ts tlv l lacks e =
    found_lacks (placed_of f (head_of t) at) (at + length t) ts tlv lacks ∙ rw e (placed_here f tlv at l)

-- what has a place among the TLVs has it also behind one that it is not
place_behind : (from : ℕ) (t : List ℕ) (ts : List (List ℕ)) (tlv : Tlv) (place : ℕ) → (head_of t ≡ tlv → ⊥) → PlaceIs (from + length t) ts tlv place
    → PlaceIs from (t ∷ ts) tlv place
unfolding flatten
place_behind from t ts tlv place apart (nowhere lacks e) = nowhere (apart, lacks) e
place_behind from t ts tlv place apart (there s) =
    there (record {
      before = t ∷ s.before;
      it = s.it;
      behind = s.behind;
      split = ap (λ (l : List (List ℕ)). t ∷ l) s.split;
      is = s.is;
      at = omega (arith, s.at, length-append t (flatten s.before));
    })

-- each listed TLV has the place where it stands
pub found_place : (f : Found) (at : ℕ) (ts : List (List ℕ)) (tlv : Tlv) → IsListed tlv → Once ts → place_of f tlv ≡ 0
    → PlaceIs at ts tlv (place_of (found_in f at ts) tlv)
unfolding flatten
found_place f at [] tlv l once e = nowhere tt e
found_place f at (t ∷ ts) tlv l once e =
    ⊎_elim
    (λ (is : head_of t ≡ tlv).
    let lacks : Lacks ts tlv = rw is at (once.0 (rw is l)) in
    there (record { before = []; it = t; behind = ts; split = refl; is = is; at = found_first f at t ts tlv l lacks is ∙ sym (add-zero at) }))
    (λ (apart : head_of t ≡ tlv → ⊥).
    place_behind at t ts tlv (place_of (found_in f at (t ∷ ts)) tlv) apart
    (found_place (placed_of f (head_of t) at) (at + length t) ts tlv l once.1 (placed_other f (head_of t) at tlv (λ z. apart (sym z)) ∙ e)))
    (same_or_not (head_of t) tlv)

-- what lies among them is not lacking
not_lacks : (before : List (List ℕ)) (it : List ℕ) (behind : List (List ℕ)) (tlv : Tlv) → Lacks (before ++ (it ∷ behind)) tlv → head_of it ≡ tlv → ⊥
not_lacks [] it behind tlv lacks is = lacks.0 is
not_lacks (t ∷ before) it behind tlv lacks is = not_lacks before it behind tlv lacks.1 is

-- one that stands behind others has its place behind them
found_standing : (before : List (List ℕ)) (it : List ℕ) (behind : List (List ℕ)) (tlv : Tlv) (f : Found) (at : ℕ)
    → IsListed tlv → Once (before ++ (it ∷ behind)) → place_of f tlv ≡ 0 → head_of it ≡ tlv
    → at + length (flatten before) ≡ place_of (found_in f at (before ++ (it ∷ behind))) tlv
unfolding flatten
found_standing [] it behind tlv f at l once e is =
    add-zero at ∙ sym (found_first f at it behind tlv l (rw is at (once.0 (rw is l))) is)
found_standing (t ∷ before) it behind tlv f at l once e is =
    let apart : head_of t ≡ tlv → ⊥ = λ same. not_lacks before it behind tlv (rw same at (once.0 (rw same l))) is in
    let far : at + length (t ++ flatten before) ≡ at + length t + length (flatten before) = omega (arith, length-append t (flatten before)) in
    far ∙ found_standing before it behind tlv (placed_of f (head_of t) at) (at + length t) l once.1
    (placed_other f (head_of t) at tlv (λ z. apart (sym z)) ∙ e) is

-- and no other place is its place
pub place_found : (f : Found) (at : ℕ) (ts : List (List ℕ)) (tlv : Tlv) (place : ℕ) → IsListed tlv → Once ts → place_of f tlv ≡ 0 → PlaceIs at ts tlv place
    → place ≡ place_of (found_in f at ts) tlv
place_found f at ts tlv place l once e (nowhere lacks z) = z ∙ sym (found_lacks f at ts tlv lacks ∙ e)
place_found f at ts tlv place l once e (there s) =
    s.at ∙ rw s.split (found_standing s.before s.it s.behind tlv f at l (rw s.split at once) e s.is)
