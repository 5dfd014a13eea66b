-- What is settled, case by case, and the state that it leaves. Assumes nothing.
use Prim.Native.Nat.{ℕ, ◌≤◌}
use mathlib.Core.Bool.{false, true}
use mathlib.Core.Path.{◌≡◌, refl, sym, ◌∙◌}
use lib.Dec.{eqb, ltb}
use borrow.Author.Tests.{ltb-false}
use Rattle.octets.proofs.Choice.{by_test, no, cleared}
use Rattle.protocol.specs.declared.Answer.{Answer}
use Rattle.protocol.specs.declared.Effect.{Effect}
use Rattle.protocol.specs.declared.Phase.{Phase}
use Rattle.protocol.specs.Answers.{answer_number, effect_of, is_done}
use Rattle.protocol.specs.State.{State, released_state}
use Rattle.protocol.specs.Step.{Step, settled_by, settle, broken, failed_with, released_with, unchanged}
use Rattle.protocol.proofs.Effects.{act-done}

done_acts : (a : Answer) → is_done a ≡ true → effect_of a ≡ Effect.Act
unfolding effect_of
done_acts a t = rw t

-- only 30 and above release
pub release_from : (a : Answer) → effect_of a ≡ Effect.Release → 30 ≤ answer_number a
unfolding effect_of
release_from a e =
    let n = answer_number a in
    let one = cleared (eqb n 0) Effect.Act _ Effect.Release (λ q. cc) e in
    let two = cleared (ltb n 20) Effect.Nothing _ Effect.Release (λ q. cc) one.1 in
    ltb-false n 30 (cleared (ltb n 30) Effect.Fail Effect.Release Effect.Release (λ q. cc) two.1).0

-- ---- what is settled, case by case: an answer that is not Done leaves one of three, and Done what the call does
pub settle-cases : (P : Step → Type 0) (a : Answer) (s : State) (ph : Phase) (d : Step) → (is_done a ≡ false → P (unchanged a s ph))
    → (is_done a ≡ false → P (failed_with a s)) → (is_done a ≡ false → effect_of a ≡ Effect.Release → P (released_with a)) → (is_done a ≡ true → P d) → P (settle a s ph d)
unfolding settle
settle-cases P a s ph d still fails releases does = by (effect_of a) refl
  where
    undone : {f : Effect} → effect_of a ≡ f → (Effect.Act ≡ f → ◌≡◌ {A = ℕ} 0 1) → is_done a ≡ false
    undone e other = by_test (is_done a) (λ t. no (other (sym (done_acts a t) ∙ e))) (λ n. n)

    by : (f : Effect) → effect_of a ≡ f → P (settled_by f a s ph d)
    by Effect.Nothing e = still (undone e (λ q. cc))
    by Effect.Fail e = fails (undone e (λ q. cc))
    by Effect.Release e = releases (undone e (λ q. cc)) e
    by Effect.Act e = does (by_test (is_done a) (λ t. t) (λ n. absurd (act-done a e n)))

-- the state that it leaves
pub settle-leaves : (P : State → Type 0) (a : Answer) (s : State) (ph : Phase) (d : Step) → P s → P (broken s) → P released_state → (is_done a ≡ true → P d.state)
    → P (settle a s ph d).state
settle-leaves P a s ph d still fails releases does =
    settle-cases (λ (x : Step). P x.state) a s ph d (λ n. still) (λ n. fails) (λ n e. releases) does
