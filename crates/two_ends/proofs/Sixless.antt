-- Between the two ends no label is used without protection: no word has code 6. Assumes nothing.
use Rattle.std.specs.Prelude.{Result, Option, Some, None}
use Prim.Native.Nat.{ℕ, zero, suc}
use mathlib.Core.Bool.{true, false}
use mathlib.Core.List.{List}
use mathlib.Core.Logic.{⊎_elim}
use mathlib.Core.Path.{◌≡◌, refl, sym, ap, ◌∙◌}
use native.Mathlib.Omega.{arith}
use lib.Dec.{eqb}
use lib.ListN.{get_or, replicate}
use borrow.Author.Tests.{eqb-true}
use Rattle.octets.proofs.Choice.{by_test}
use Rattle.label_list.specs.declared.LabelMessage.{LabelMessage}
use Rattle.label_list.specs.declared.LabelMessage.TheVariants.{Mapping, Withdraw, Release}
use Rattle.label_list.specs.declared.Protection.{Protection}
use Rattle.label_list.specs.declared.Side.{Side}
use Rattle.label_list.specs.declared.Side.TheVariants.{Used}
use Rattle.label_list.specs.declared.SweepRule.TheVariants.{AfterBreak}
use Rattle.label_list.specs.Protection.{bars_protection, code_protection}
use Rattle.label_list.specs.Rules.{received_side}
use Rattle.label_list.specs.Sweep.{swept_of}
use Rattle.label_list.specs.Valid.{valid_of}
use Rattle.label_list.specs.Word.{word_count, stands_for}
use Rattle.label_list.proofs.Standing.{free_stands}
use Rattle.label_events.specs.declared.Meets.{Meets}
use Rattle.label_events.specs.declared.Touched.{Touched}
use Rattle.label_events.specs.Change.{code_at}
use Rattle.label_events.specs.Protect.{protection_of}
use Rattle.message.specs.declared.Kind.{Kind}
use Rattle.message.specs.declared.SubmissionError.{SubmissionError}
use Rattle.label_meaning.specs.Event.{LabelEvent, Accepted, Acked, Received, Broken, after_event, Moves, released, returned, release-acked, taken, taken-again, taken_bare, asked_back, bare_withdrawn, bare_lost, Ended, Asked}
use Rattle.label_meaning.specs.View.{absent}
use Rattle.label_meaning.proofs.Meaning.{valid_means}
use Rattle.label_meaning.proofs.Moved.{every_move}
use Rattle.label_meaning.proofs.Step.{step_valid}
use Rattle.label_meaning.proofs.View.{is_code}
use Rattle.protocol.specs.Acked.{released_labels}
use Rattle.protocol.specs.Labels.{effect_labels, effect_protection, reached}
use Rattle.protocol.specs.State.{Table, no_table}
use Rattle.protocol.proofs.Words.{none_valid, released-keeps}
use Rattle.two_ends.proofs.Accepting.{AcceptedWords, mapping_accepted, withdraw_accepted, release_accepted, codes_kept}

abbrev pub NoSix : List ℕ → Type 0
NoSix ls = (l : ℕ) → code_at ls Used l ≡ 6 → ⊥

-- every event but a message received without protection
abbrev Guarded : LabelEvent → Type 0
Guarded (Accepted m l) = Unit {0}
Guarded (Acked m l) = Unit {0}
Guarded (Received r m true t) = Unit {0}
Guarded (Received r m false t) = ⊥
Guarded Asked = Unit {0}
Guarded (Ended r) = Unit {0}
Guarded Broken = Unit {0}

-- none of them leads to code 6
moves_else : {e : LabelEvent} {k c d : ℕ} → Guarded e → Moves e Used k c d → d ≡ 6 → ⊥
moves_else g released z = omega arith
moves_else g returned z = omega arith
moves_else g release-acked z = omega arith
moves_else g taken z = omega arith
moves_else g taken-again z = omega arith
moves_else g taken_bare z = g
moves_else g (asked_back t) z = omega arith
moves_else g (bare_withdrawn t) z = omega arith
moves_else g bare_lost z = omega arith

step_sixless : (ls : List ℕ) → valid_of ls ≡ true → NoSix ls → (e : LabelEvent) → Guarded e → NoSix (after_event ls e)
step_sixless ls v n e g l six =
    ⊎_elim
    (λ (same : code_at (after_event ls e) Used l ≡ code_at ls Used l). n l (sym same ∙ six))
    (λ (move : Moves e Used l (code_at ls Used l) (code_at (after_event ls e) Used l)). moves_else g move six)
    (every_move ls (valid_means ls v) e Used l)

-- ---- no labels
zero-at : (n i : ℕ) → ◌≡◌ {A = ℕ} (get_or (replicate n 0) i 0) 0
zero-at zero i = refl
zero-at (suc n) zero = refl
zero-at (suc n) (suc i) = zero-at n i

pub none_code : (side : Side) (l : ℕ) → code_at no_table.words side l ≡ 0
none_code side l =
    let free : (i : ℕ) → stands_for side l (get_or no_table.words i 0) ≡ false = λ i. ap (stands_for side l) (zero-at word_count i) ∙ free_stands side l in
    is_code no_table.words side l (valid_means no_table.words none_valid) (absent free)

pub none_sixless : NoSix no_table.words
none_sixless l six = omega (arith, none_code Used l)

-- ---- a connection ends
pub broken_sixless : (ls : List ℕ) → valid_of ls ≡ true → NoSix ls → NoSix (swept_of ls AfterBreak)
unfolding after_event
broken_sixless ls v n = step_sixless ls v n Broken tt

-- ---- a message is accepted
pub accepted_sixless : (ls : List ℕ) → valid_of ls ≡ true → NoSix ls → {j : Result (Kind × ℕ) SubmissionError} {after : List ℕ} → AcceptedWords ls j after → NoSix after
accepted_sixless ls v n (mapping_accepted {k}) = step_sixless ls v n (Accepted Mapping k) tt
accepted_sixless ls v n (withdraw_accepted {k}) = step_sixless ls v n (Accepted Withdraw k) tt
accepted_sixless ls v n (release_accepted {k}) = step_sixless ls v n (Accepted Release k) tt
accepted_sixless ls v n (codes_kept same) = λ l six. n l (sym (same Used l) ∙ six)

-- ---- messages are released
pub released_sixless : (ms : List (List ℕ)) (ls : List ℕ) → valid_of ls ≡ true → NoSix ls → NoSix (released_labels ms ls)
released_sixless ms ls v n =
    (released-keeps (λ (ws : List ℕ). (valid_of ws ≡ true) × NoSix ws)
    (λ ws p m l. (step_valid ws (Acked m l) p.0, step_sixless ws p.0 p.1 (Acked m l) tt)) ms ls (v, n)).1

-- ---- a protected message is received
pub received_sixless : (t : Table) (y : Meets) (e : Option (LabelMessage × Touched)) → valid_of t.words ≡ true → NoSix t.words → NoSix (effect_labels t y true e)
unfolding after_event
received_sixless t y None v n = step_sixless t.words v n (Ended y.request) tt
received_sixless t y (Some (m, x)) v n = step_sixless t.words v n (Received y m true (reached t m x)) tt

-- then protection is not wrong
bars_none : (m : LabelMessage) (ls : List ℕ) (l : ℕ) → NoSix ls → bars_protection m (code_at ls (received_side m) l) ≡ false
unfolding bars_protection received_side
bars_none Mapping ls l n = by_test (eqb (code_at ls Used l) 6) (λ t. absurd (n l (eqb-true (code_at ls Used l) 6 t))) (λ f. f)
bars_none Withdraw ls l n = by_test (eqb (code_at ls Used l) 6) (λ t. absurd (n l (eqb-true (code_at ls Used l) 6 t))) (λ f. f)
bars_none Release ls l n = refl

pub protected_right : (t : Table) (e : Option (LabelMessage × Touched)) → NoSix t.words → effect_protection t true e ≡ Protection.Right
unfolding protection_of code_protection
protected_right t None n = refl
protected_right t (Some (m, Touched.Label l)) n = rw (bars_none m t.words l n)
protected_right t (Some (m, Touched.Every)) n = refl
protected_right t (Some (m, Touched.Prefix x)) n = refl
protected_right t (Some (m, Touched.Nothing)) n = refl
