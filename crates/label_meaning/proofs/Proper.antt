-- Each rule leaves a label on its side: the code becomes 0 or one of the same side. Assumes nothing.
use Rattle.std.specs.Prelude.{Option, Some, None}
use Prim.Native.Nat.{ℕ}
use mathlib.Core.Bool.{Bool, true, false}
use mathlib.Core.Logic.{◌⊎◌, inl, inr, ⊎_elim}
use mathlib.Core.Path.{◌≡◌, refl}
use lib.Dec.{eqb, leb}
use borrow.Author.Tests.{eqb-true}
use Rattle.octets.proofs.Choice.{by_test, pick_all}
use Rattle.label_list.specs.declared.LabelMessage.{LabelMessage}
use Rattle.label_list.specs.declared.LabelMessage.TheVariants.{Mapping, Withdraw, Release}
use Rattle.label_list.specs.declared.Side.{Side}
use Rattle.label_list.specs.declared.Side.TheVariants.{Given, Used}
use Rattle.label_list.specs.declared.SweepRule.{SweepRule}
use Rattle.label_list.specs.declared.SweepRule.TheVariants.{WithdrawAll, ReleaseAll, AfterBreak}
use Rattle.label_list.specs.Rules.{sent_side, received_side, code_accepted, code_acked, code_received, code_swept}
use Rattle.label_list.specs.Word.{without_protection, on_side}
use Rattle.label_list.proofs.Standing.{side-listed, one_side}

-- A code that a label can have on a side: 0, absent, or one of the side.
abbrev pub Proper : Side → ℕ → Type 0
Proper s c = (c ≡ 0) ⊎ (on_side s c ≡ true)

-- A label that has a code of a side is on that side.
pub proper_side : (s t : Side) (c : ℕ) → Proper s c → on_side t c ≡ true → s ≡ t
proper_side s t c h on = ⊎_elim (λ (z : c ≡ 0). absurd (side-listed t c on z)) (λ (e : on_side s c ≡ true). one_side s t c e on) h

abbrev ProperNext : Side → Option ℕ → Type 0
ProperNext s (Some c) = Proper s c
ProperNext s None = Unit {0}

next_proper : (m : LabelMessage) (c : ℕ) → ProperNext (sent_side m) (code_accepted m c)
unfolding code_accepted sent_side on_side
next_proper Mapping c = pick_all (ProperNext Given) (leb c 1) (inr refl) tt
next_proper Withdraw c = pick_all (ProperNext Given) (eqb c 1) (inr refl) tt
next_proper Release c = pick_all (ProperNext Used) (eqb c 3) (inr refl) (pick_all (ProperNext Used) (eqb c 4) (inl refl) tt)

pub accepted_proper : (m : LabelMessage) (c n : ℕ) → code_accepted m c ≡ Some n → Proper (sent_side m) n
accepted_proper m c n e = rw e at (next_proper m c)

pub acked_proper : (m : LabelMessage) (c : ℕ) → Proper (sent_side m) c → Proper (sent_side m) (code_acked m c)
unfolding code_acked sent_side on_side
acked_proper Mapping c h = h
acked_proper Withdraw c h = pick_all (Proper (sent_side Withdraw)) (eqb c 2) (inr refl) (pick_all (Proper (sent_side Withdraw)) (eqb c 9) (inl refl) h)
acked_proper Release c h = pick_all (Proper (sent_side Release)) (eqb c 5) (inl refl) h

-- code 4 is of the side of code 3
four_proper : (s : Side) → Proper s 3 → Proper s 4
unfolding on_side
four_proper s h = rw (proper_side s Used 3 h refl) (inr refl)

-- and code 9 of that of code 2
nine_proper : (s : Side) → Proper s 2 → Proper s 9
unfolding on_side
nine_proper s h = rw (proper_side s Given 2 h refl) (inr refl)

withdraw_proper : (p : Bool) (s : Side) (c : ℕ) → Proper s c → Proper s (code_received Withdraw p c)
unfolding code_received
withdraw_proper p s c h =
    by_test
    (eqb c 3)
    (λ e. let three : c ≡ 3 = eqb-true c 3 e in rw e (four_proper s (rw three at h)))
    (λ e. rw e (pick_all (Proper s) (eqb c without_protection) (inl refl) h))

release_proper : (p : Bool) (s : Side) (c : ℕ) → Proper s c → Proper s (code_received Release p c)
unfolding code_received
release_proper p s c h =
    by_test
    (eqb c 1)
    (λ e. rw e (inl refl))
    (λ e. by_test
    (eqb c 2)
    (λ f. let two : c ≡ 2 = eqb-true c 2 f in rw (e, f) (nine_proper s (rw two at h)))
    (λ f. rw (e, f) (pick_all (Proper s) (eqb c 8) (inl refl) h)))

pub received_proper : (m : LabelMessage) (p : Bool) (c : ℕ) → Proper (received_side m) c → Proper (received_side m) (code_received m p c)
unfolding code_received received_side on_side
received_proper Mapping true c h = pick_all (Proper Used) (eqb c 0) (inr refl) (pick_all (Proper Used) (eqb c 5) (inr refl) h)
received_proper Mapping false c h = pick_all (Proper Used) (eqb c 0) (inr refl) h
received_proper Withdraw p c h = withdraw_proper p Used c h
received_proper Release p c h = release_proper p Given c h

pub swept_proper : (r : SweepRule) (s : Side) (c : ℕ) → Proper s c → Proper s (code_swept r c)
unfolding code_swept
swept_proper WithdrawAll s c h = withdraw_proper true s c h
swept_proper ReleaseAll s c h = release_proper true s c h
swept_proper AfterBreak s c h = pick_all (Proper s) (eqb c without_protection) (inl refl) h
