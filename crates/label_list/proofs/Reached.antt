-- Laws of what a search finds: a word inside the list that passes, and the first that does. Assumes nothing.
use Rattle.std.specs.Prelude.{Option, Some, None}
use Prim.Native.Nat.{ℕ, zero, suc, ◌+◌, ◌-◌, ◌≤◌, ◌<◌}
use mathlib.Core.Bool.{Bool, true, false}
use mathlib.Core.List.{List, [], ◌∷◌}
use mathlib.Core.Path.{◌≡◌, refl, sym, ◌∙◌}
use native.Mathlib.Omega.{arith}
use lib.ListN.{length, get_or}
use Rattle.octets.specs.Pick.{pick}
use Rattle.octets.proofs.Choice.{pick_all}
use Rattle.label_list.specs.Find.{find_from, find_of, FoundIn}

-- The index found is one of a word that passes.
abbrev Below : ℕ → Option ℕ → Type 0
Below n (Some i) = i < n
Below n None = Unit {0}

below_from : (test : ℕ → Bool) (k : ℕ) (words : List ℕ) → Below (k + length words) (find_from test k words)
below_from test k [] = tt
below_from test k (w ∷ ws) =
    let next : suc k + length ws ≡ k + suc (length ws) = omega arith in
    let first : k < k + suc (length ws) = omega arith in
    pick_all (Below (k + suc (length ws))) (test w) first (rw next at (below_from test (suc k) ws))

below_in : (words : List ℕ) (f : Option ℕ) → Below (length words) f → FoundIn words f
below_in words (Some i) h = h
below_in words None h = tt

pub found_in_lem : (test : ℕ → Bool) (words : List ℕ) {f : Option ℕ} → f ≡ find_of test words → FoundIn words f
unfolding find_of
found_in_lem test words {f} e =
    let same : 0 + length words ≡ length words = omega arith in
    below_in words f (rw (e, ← same) (below_from test 0 words))

pub found_place : (words : List ℕ) (f : Option ℕ) (i : ℕ) → FoundIn words f → f ≡ Some i → i < length words
found_place words f i h e = rw e at h

abbrev Passes : (ℕ → Bool) → ℕ → List ℕ → Option ℕ → Type 0
Passes test k words f = (i : ℕ) → f ≡ Some i → (k ≤ i) × (test (get_or words (i - k) 0) ≡ true)

passes_first : (test : ℕ → Bool) (k w : ℕ) (ws : List ℕ) → test w ≡ true → Passes test k (w ∷ ws) (Some k)
passes_first test k w ws t i e =
    let same : k ≡ i = cc in
    let start : i - k ≡ 0 = omega arith in
    (omega arith, rw start t)

passes-next : (test : ℕ → Bool) (k w : ℕ) (ws : List ℕ) (f : Option ℕ) → Passes test (suc k) ws f → Passes test k (w ∷ ws) f
passes-next test k w ws f rest i e =
    let after : (suc k ≤ i) × (test (get_or ws (i - suc k) 0) ≡ true) = rest i e in
    let step : i - k ≡ suc (i - suc k) = omega arith in
    (omega arith, rw step after.1)

passes-pick : (test : ℕ → Bool) (k w : ℕ) (ws : List ℕ) (f : Option ℕ) (b : Bool) → test w ≡ b → Passes test (suc k) ws f → Passes test k (w ∷ ws) (pick b (Some k) f)
passes-pick test k w ws f true t rest = passes_first test k w ws t
passes-pick test k w ws f false t rest = passes-next test k w ws f rest

passes_from : (test : ℕ → Bool) (k : ℕ) (words : List ℕ) → Passes test k words (find_from test k words)
passes_from test k [] = λ i e. let z : ◌≡◌ {A = ℕ} 0 1 = cc in absurd (omega arith)
passes_from test k (w ∷ ws) = passes-pick test k w ws (find_from test (suc k) ws) (test w) refl (passes_from test (suc k) ws)

pub found_passes : (test : ℕ → Bool) (words : List ℕ) {f : Option ℕ} (i : ℕ) → f ≡ find_of test words → f ≡ Some i → test (get_or words i 0) ≡ true
unfolding find_of
found_passes test words i e g =
    let same : i - 0 ≡ i = omega arith in
    rw same at (passes_from test 0 words i (sym e ∙ g)).1

-- No word before the one found passes, and none at all where nothing was found: `ended` says how far the search went in a list that ends at n.
abbrev pub ended : ℕ → Option ℕ → ℕ
ended n (Some i) = i
ended n None = n

over-pick : (test : ℕ → Bool) (k w : ℕ) (ws : List ℕ) (f : Option ℕ) (b : Bool) → test w ≡ b
    → ((j : ℕ) → suc k + j < ended (suc k + length ws) f → test (get_or ws j 0) ≡ false)
    → (j : ℕ) → k + j < ended (k + suc (length ws)) (pick b (Some k) f) → test (get_or (w ∷ ws) j 0) ≡ false
over-pick test k w ws f true t rest j h = absurd (omega arith)
over-pick test k w ws f false t rest zero h = t
over-pick test k w ws f false t rest (suc j) h =
    let next : k + suc j ≡ suc k + j = omega arith in
    let size : k + suc (length ws) ≡ suc k + length ws = omega arith in
    rest j (rw (next, size) at h)

over_from : (test : ℕ → Bool) (k : ℕ) (words : List ℕ) (j : ℕ) → k + j < ended (k + length words) (find_from test k words) → test (get_or words j 0) ≡ false
over_from test k [] j h = absurd (omega arith)
over_from test k (w ∷ ws) j h = over-pick test k w ws (find_from test (suc k) ws) (test w) refl (over_from test (suc k) ws) j h

pub passed_over_lem : (test : ℕ → Bool) (words : List ℕ) {f : Option ℕ} → f ≡ find_of test words → (j : ℕ) → j < ended (length words) f → test (get_or words j 0) ≡ false
unfolding find_of
passed_over_lem test words e j h =
    let start : 0 + j ≡ j = omega arith in
    let size : 0 + length words ≡ length words = omega arith in
    over_from test 0 words j (rw (start, size, ← e) h)
