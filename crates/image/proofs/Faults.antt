-- The first fault of the blocks in an order, whatever judges them. Assumes nothing.
use Rattle.std.specs.Prelude.{Result, Ok, Err}
use Prim.Native.Nat.{ℕ, zero, suc, ◌<◌}
use mathlib.Core.Bool.{true}
use mathlib.Core.List.{List, [], ◌∷◌, ◌++◌}
use mathlib.Core.Path.{◌≡◌, refl, ap, ◌∙◌}
use native.Mathlib.Omega.{arith}
use lib.Dec.{eqb}
use lib.ListN.{length, get_or}
use borrow.Author.Tests.{eq-eqb}
use Rattle.octets.proofs.Choice.{no, pick_all}
use Rattle.label_list.specs.Find.{any}
use Rattle.image.specs.declared.ImageFault.{ImageFault}
use Rattle.image.specs.declared.Judgement.{Judgement}
use Rattle.image.specs.declared.Judgement.TheVariants.{Good, BadCheck, BadFields, Idle}
use Rattle.image.specs.Verdict.{fault_then, first_fault, verdict_block}

-- only the blocks of the order count
pub fault_same : (j k : ℕ → Judgement) (bs : List ℕ) → ((b : ℕ) → any (eqb b) bs ≡ true → j b ≡ k b) → first_fault j bs ≡ first_fault k bs
unfolding first_fault any
fault_same j k [] same = refl
fault_same j k (b ∷ bs) same =
    let here : j b ≡ k b = same b (simp (eq-eqb b b refl)) in
    rw (here, fault_same j k bs (λ c l. same c (pick_all (λ t. t ≡ true) (eqb c b) refl l)))

-- ---- one order behind another
abbrev pub verdict_then : Result Unit ImageFault → Result Unit ImageFault → Result Unit ImageFault
verdict_then (Ok tt) rest = rest
verdict_then (Err fault) rest = Err fault

pub fault_then_lem : (j : Judgement) (b : ℕ) (v w : Result Unit ImageFault) → fault_then j b (verdict_then v w) ≡ verdict_then (fault_then j b v) w
fault_then_lem Good b v w = refl
fault_then_lem BadCheck b v w = refl
fault_then_lem BadFields b v w = refl
fault_then_lem Idle b v w = refl

pub fault_append : (j : ℕ → Judgement) (bs cs : List ℕ) → first_fault j (bs ++ cs) ≡ verdict_then (first_fault j bs) (first_fault j cs)
unfolding first_fault
fault_append j [] cs = refl
fault_append j (b ∷ bs) cs = ap (fault_then (j b) b) (fault_append j bs cs) ∙ fault_then_lem (j b) b (first_fault j bs) (first_fault j cs)

-- ---- no fault
abbrev pub NoFault : Judgement → Type 0
NoFault Good = Unit {0}
NoFault BadCheck = ⊥
NoFault BadFields = ⊥
NoFault Idle = Unit {0}

fault_not : (v : Judgement) (b : ℕ) (rest : Result Unit ImageFault) → fault_then v b rest ≡ Ok tt → NoFault v × (rest ≡ Ok tt)
fault_not Good b rest h = (tt, h)
fault_not BadCheck b rest h = let z : ◌≡◌ {A = ℕ} 0 1 = cc in no z
fault_not BadFields b rest h = let z : ◌≡◌ {A = ℕ} 0 1 = cc in no z
fault_not Idle b rest h = (tt, h)

not_fault : (v : Judgement) (b : ℕ) (rest : Result Unit ImageFault) → NoFault v → fault_then v b rest ≡ rest
not_fault Good b rest h = refl
not_fault BadCheck b rest h = absurd h
not_fault BadFields b rest h = absurd h
not_fault Idle b rest h = refl

pub faultless_each : (j : ℕ → Judgement) (bs : List ℕ) → first_fault j bs ≡ Ok tt → (i : ℕ) → i < length bs → NoFault (j (get_or bs i 0))
unfolding first_fault
faultless_each j [] h i l = absurd (omega arith)
faultless_each j (b ∷ bs) h zero l = (fault_not (j b) b (first_fault j bs) h).0
faultless_each j (b ∷ bs) h (suc i) l = faultless_each j bs (fault_not (j b) b (first_fault j bs) h).1 i (omega arith)

pub each_faultless : (j : ℕ → Judgement) (bs : List ℕ) → ((i : ℕ) → i < length bs → NoFault (j (get_or bs i 0))) → first_fault j bs ≡ Ok tt
unfolding first_fault
each_faultless j [] each = refl
each_faultless j (b ∷ bs) each =
    rw (not_fault (j b) b (first_fault j bs) (each 0 (omega arith))) (each_faultless j bs (λ i l. each (suc i) (omega arith)))

-- ---- the block that is named
fault_below : (v : Judgement) (b : ℕ) (rest : Result Unit ImageFault) (n : ℕ) → b < n → verdict_block rest < n → verdict_block (fault_then v b rest) < n
fault_below Good b rest n l m = m
fault_below BadCheck b rest n l m = l
fault_below BadFields b rest n l m = l
fault_below Idle b rest n l m = m

pub named_below : (j : ℕ → Judgement) (bs : List ℕ) (n : ℕ) → 0 < n → ((i : ℕ) → i < length bs → get_or bs i 0 < n) → verdict_block (first_fault j bs) < n
unfolding first_fault
named_below j [] n some below = some
named_below j (b ∷ bs) n some below =
    fault_below (j b) b (first_fault j bs) n (below 0 (omega arith)) (named_below j bs n some (λ i l. below (suc i) (omega arith)))
