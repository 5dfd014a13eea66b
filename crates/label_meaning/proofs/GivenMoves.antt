-- A label that we gave, over the events of one call: those without a message of ours, or one message of ours. Assumes nothing.
use Prim.Native.Nat.{ℕ, ◌≤◌}
use mathlib.Core.Bool.{Bool, true, false, true≢false}
use mathlib.Core.List.{List, [], ◌∷◌}
use mathlib.Core.Logic.{◌≢◌, ⊎_elim}
use mathlib.Core.Path.{◌≡◌, refl, ◌∙◌}
use native.Mathlib.Omega.{arith}
use lib.Dec.{eqb}
use borrow.Author.Tests.{eq-eqb, eqb-true, eqb-false}
use Rattle.octets.specs.Pick.{pick, both}
use Rattle.octets.proofs.Choice.{by_test}
use Rattle.label_list.specs.declared.LabelMessage.{LabelMessage}
use Rattle.label_list.specs.declared.Side.TheVariants.{Given}
use Rattle.label_list.specs.Word.{on_side}
use Rattle.label_list.proofs.Standing.{given_range}
use Rattle.label_events.specs.Change.{code_at}
use Rattle.label_meaning.specs.Event.{LabelEvent, Accepted, after_event, Moves, given, withdrawn}
use Rattle.label_meaning.specs.Valid.{IsValid}
use Rattle.label_meaning.specs.Withdrawal.{GivenMoves, ack_comes, after_events, brings_release, comes, is_ending, is_offered, is_released, is_withdrawn, offers, release_comes, stays_free, stays_given, withdrawn_code, withdraws}
use Rattle.label_meaning.proofs.Moved.{every_move}
use Rattle.label_meaning.proofs.Proper.{Proper}
use Rattle.label_meaning.proofs.Step.{code_proper, step_is_valid}
use Rattle.label_meaning.proofs.Withdrawal.{absent_stays, given_stays, or_false, withdrawn_unoffered}

-- the codes that a label can have on the side of those that we gave
data GivenCode : ℕ → Type 0 where
  unlisted : GivenCode 0
  still-given : GivenCode 1
  ending : (a r : Bool) → both a r ≡ false → GivenCode (withdrawn_code a r)

given-code : (c : ℕ) → Proper Given c → GivenCode c
given-code c =
    ⊎_elim
    (λ (z : c ≡ 0). rw z unlisted)
    (λ (on : on_side Given c ≡ true).
    ⊎_elim
    (λ (low : (1 ≤ c) × (c ≤ 2)).
    by_test (eqb c 1)
    (λ e. rw (eqb-true c 1 e) still-given)
    (λ n. let other : c ≢ 1 = eqb-false c 1 n in let two : c ≡ 2 = omega arith in rw two (ending false false refl)))
    (λ (high : (8 ≤ c) × (c ≤ 9)).
    by_test (eqb c 8)
    (λ e. rw (eqb-true c 8 e) (ending true false refl))
    (λ n. let other : c ≢ 8 = eqb-false c 8 n in let nine : c ≡ 9 = omega arith in rw nine (ending false true refl)))
    (given_range c on))

-- ---- events among which no message of ours is accepted
unless : (b c : Bool) → pick b true c ≡ false → (b ≡ false) × (c ≡ false)
unless true c e = absurd (true≢false e)
unless false c e = (refl, e)

absent-run : (k : ℕ) (es : List LabelEvent) (words : List ℕ) → IsValid words → comes (offers k) es ≡ false → code_at words Given k ≡ 0 → code_at (after_events words es) Given k ≡ 0
absent-run k [] words v n is = is
absent-run k (e ∷ es) words v n is =
    let p = unless (offers k e) (comes (offers k) es) n in
    absent-run k es (after_event words e) (step_is_valid words v e) p.1 (absent_stays words v k e p.0 is)

given-run : (k : ℕ) (es : List LabelEvent) (words : List ℕ) → IsValid words → comes (offers k) es ≡ false → comes (withdraws k) es ≡ false → code_at words Given k ≡ 1
    → code_at (after_events words es) Given k ≡ pick (release_comes k es) 0 1
given-run k [] words v n w is = is
given-run k (e ∷ es) words v n w is =
    let p = unless (offers k e) (comes (offers k) es) n in
    let q = unless (withdraws k e) (comes (withdraws k) es) w in
    by_test
    (brings_release k e)
    (λ t. rw t (absent-run k es (after_event words e) (step_is_valid words v e) p.1 (given_stays words v k e is q.0 ∙ rw t)))
    (λ f. rw f (given-run k es (after_event words e) (step_is_valid words v e) p.1 q.1 (given_stays words v k e is q.0 ∙ rw f)))

by_given : {k c d : ℕ} {es : List LabelEvent} → GivenCode c → (c ≡ 0 → d ≡ 0) → (c ≡ 1 → d ≡ pick (release_comes k es) 0 1)
    → ((a r : Bool) → c ≡ withdrawn_code a r → d ≡ withdrawn_code (pick a true (ack_comes k es)) (pick r true (release_comes k es))) → GivenMoves k es c d
by_given unlisted zero one both = rw (zero refl) stays_free
by_given {k} {es = es} still-given zero one both = rw (one refl) (by_test (release_comes k es) (λ t. rw t (is_released t)) (λ f. rw f stays_given))
by_given (ending a r n) zero one both = rw (both a r refl) (is_ending a r n)

-- The code stays or moves as the events say.
pub heard_moves : (k : ℕ) (es : List LabelEvent) (words : List ℕ) → IsValid words → comes (offers k) es ≡ false → comes (withdraws k) es ≡ false
    → GivenMoves k es (code_at words Given k) (code_at (after_events words es) Given k)
heard_moves k es words v n w =
    by_given (given-code (code_at words Given k) (code_proper words Given k)) (absent-run k es words v n) (given-run k es words v n w)
    (λ a r is. withdrawn_unoffered k es words v a r is n)

-- ---- one message of ours
pub accepted_moves : (k : ℕ) (m : LabelMessage) (l : ℕ) (words : List ℕ) → IsValid words
    → GivenMoves k (Accepted m l ∷ []) (code_at words Given k) (code_at (after_event words (Accepted m l)) Given k)
accepted_moves k m l words v =
    ⊎_elim
    (λ (same : code_at (after_event words (Accepted m l)) Given k ≡ code_at words Given k). rw same (still (given-code (code_at words Given k) (code_proper words Given k))))
    (λ (move : Moves (Accepted m l) Given k (code_at words Given k) (code_at (after_event words (Accepted m l)) Given k)). by_move move)
    (every_move words v (Accepted m l) Given k)
  where
    still : {c : ℕ} → GivenCode c → GivenMoves k (Accepted m l ∷ []) c c
    still unlisted = stays_free
    still still-given = stays_given
    still (ending a r n) =
        let moves : GivenMoves k (Accepted m l ∷ []) (withdrawn_code a r) (withdrawn_code (pick a true false) (pick r true false)) = is_ending a r n in
        rw (or_false a, or_false r) at moves

    by_move : {m : LabelMessage} {k l c d : ℕ} → Moves (Accepted m l) Given k c d → GivenMoves k (Accepted m l ∷ []) c d
    by_move (given {k}) = is_offered (rw (eq-eqb k k refl))
    by_move (withdrawn {k}) = is_withdrawn (rw (eq-eqb k k refl))
