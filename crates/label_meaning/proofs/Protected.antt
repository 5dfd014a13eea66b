-- The verdict on protection and the transitions agree: where protection is right, an unprotected message changes no listed label but those of code 6. Assumes nothing.
use Prim.Native.Nat.{ℕ, suc}
use mathlib.Core.Bool.{Bool, true, false, not, true≢false, false≢true}
use mathlib.Core.List.{List, [], ◌∷◌}
use mathlib.Core.Logic.{◌≢◌, ⊎_elim}
use mathlib.Core.Path.{◌≡◌, refl, sym, ◌∙◌}
use native.Mathlib.Omega.{arith}
use lib.Dec.{eqb}
use lib.ListN.{get_or}
use borrow.Author.Tests.{eqb-false}
use Rattle.octets.specs.Pick.{pick}
use Rattle.octets.proofs.Choice.{by_test, both_true}
use Rattle.label_list.specs.declared.LabelMessage.{LabelMessage}
use Rattle.label_list.specs.declared.LabelMessage.TheVariants.{Mapping, Withdraw, Release}
use Rattle.label_list.specs.declared.Protection.{Protection}
use Rattle.label_list.specs.declared.Protection.TheVariants.{Right, Missing, Wrong}
use Rattle.label_list.specs.declared.Side.{Side}
use Rattle.label_list.specs.declared.Side.TheVariants.{Given, Used}
use Rattle.label_list.specs.Find.{any}
use Rattle.label_list.specs.Protection.{needs_protection, bars_protection, code_protection, protected_on}
use Rattle.label_list.specs.Rules.{received_side}
use Rattle.label_list.specs.Word.{label_of, code_of, without_protection, on_side, stands_for}
use Rattle.label_list.proofs.Standing.{parts_stands, stands_parts}
use Rattle.label_events.specs.declared.Meets.{Meets}
use Rattle.label_events.specs.Change.{code_at}
use Rattle.label_events.specs.Protect.{protection_of, guarded_by}
use Rattle.label_events.specs.Reach.{Reach, Those, Label, Nothing}
use Rattle.label_meaning.specs.Event.{Received, after_event, Touches, named, among, Moves, taken_bare, asked_back, bare_withdrawn, given_back, withdrawn_back, acked_back}
use Rattle.label_meaning.specs.Protected.{TouchesProtected}
use Rattle.label_meaning.specs.Valid.{IsValid}
use Rattle.label_meaning.specs.View.{CodeIs, listed, absent}
use Rattle.label_meaning.proofs.Meaning.{any_none}
use Rattle.label_meaning.proofs.Moved.{every_move}
use Rattle.label_meaning.proofs.View.{code_is, is_code}

-- A listed label whose code needs protection makes some word one that may not be touched.
needs_none : (s : Side) → needs_protection s 0 ≡ false
unfolding needs_protection on_side
needs_none Given = refl
needs_none Used = refl

unguarded : (s : Side) (reached : ℕ → Bool) → guarded_by s reached 0 ≡ false
unguarded s reached = by_test (reached (label_of 0)) (λ t. rw (t, needs_none s)) (λ f. rw f)

some_protected : (words : List ℕ) (s : Side) (reached : ℕ → Bool) (k : ℕ) → reached k ≡ true → (c : ℕ) → CodeIs words s k c → needs_protection s c ≡ true
    → any (guarded_by s reached) words ≡ true
some_protected words s reached k y c (listed i p) needs =
    by_test (any (guarded_by s reached) words) (λ e. e)
    (λ e.
    let none : guarded_by s reached (get_or words i 0) ≡ false = any_none (guarded_by s reached) words e (unguarded s reached) i in
    absurd (true≢false (sym needs ∙ rw ((stands_parts s k (get_or words i 0) p).1, y) at none)))
some_protected words s reached k y c (absent p) needs = absurd (true≢false (sym needs ∙ needs_none s))

-- An unprotected message that touches such a label lacks protection.
pub touched_missing : (words : List ℕ) (m : LabelMessage) (t : Reach) (k : ℕ) → Touches t k → needs_protection (received_side m) (code_at words (received_side m) k) ≡ true → protection_of words m false t ≡ Missing
unfolding protection_of code_protection
touched_missing words m t k named needs = rw needs
touched_missing words m t k (among {reached} y) needs = rw (some_protected words (received_side m) reached k y (code_at words (received_side m) k) (code_is words (received_side m) k) needs)

right_missing : {verdict : Protection} → verdict ≡ Right → verdict ≡ Missing → ⊥
right_missing p q = let z : ◌≡◌ {A = ℕ} 0 1 = cc in omega arith

-- No move of a listed label of any code but 6 by an unprotected message agrees with a verdict that its protection is right.
no_move : (words : List ℕ) {r : Meets} {m : LabelMessage} {t : Reach} {s : Side} {k c d : ℕ} → code_at words s k ≡ c → c ≢ 0 → c ≢ without_protection → protection_of words m false t ≡ Right → Moves (Received r m false t) s k c d → ⊥
unfolding received_side needs_protection on_side
no_move words e there kept right taken_bare = there refl
no_move words e there kept right (asked_back {k = k} touches) = right_missing right (touched_missing words Withdraw _ k touches (rw e))
no_move words e there kept right (bare_withdrawn touches) = kept refl
no_move words e there kept right (given_back {k = k} touches) = right_missing right (touched_missing words Release _ k touches (rw e))
no_move words e there kept right (withdrawn_back {k = k} touches) = right_missing right (touched_missing words Release _ k touches (rw e))
no_move words e there kept right (acked_back {k = k} touches) = right_missing right (touched_missing words Release _ k touches (rw e))

-- Protection is missing exactly if the message touches such a label.
record Passed (test : ℕ → Bool) (words : List ℕ) : Type 0 where
  pub at : ℕ
  pub passes : test (get_or words at 0) ≡ true

any_some : (test : ℕ → Bool) (words : List ℕ) → any test words ≡ true → Passed test words
unfolding any
any_some test [] e = absurd (false≢true e)
any_some test (w ∷ ws) e =
    by_test
    (test w)
    (λ p. record { at = 0; passes = p })
    (λ p. let rest : Passed test ws = any_some test ws (rw p at e) in record { at = suc rest.at; passes = rest.passes })

needs_side : (s : Side) (c : ℕ) → needs_protection s c ≡ true → on_side s c ≡ true
unfolding needs_protection
needs_side s c e = (both_true (not (eqb c without_protection)) (on_side s c) e).1

missing_if : (b : Bool) → pick b Missing Right ≡ Missing → b ≡ true
missing_if true e = refl
missing_if false e = absurd (right_missing refl e)

-- In a valid list protection is missing only so.
pub missing_touches : (words : List ℕ) → IsValid words → (m : LabelMessage) (t : Reach) → protection_of words m false t ≡ Missing → TouchesProtected words m t
unfolding protection_of code_protection
missing_touches words v m (Label l) e = record { label = l; touches = named; needs = missing_if (needs_protection (received_side m) (code_at words (received_side m) l)) e }
missing_touches words v m (Those reached) e =
    let s : Side = received_side m in
    let found : Passed (guarded_by s reached) words = any_some (guarded_by s reached) words (missing_if (any (guarded_by s reached) words) e) in
    let w : ℕ = get_or words found.at 0 in
    let parts : (reached (label_of w) ≡ true) × (protected_on s w ≡ true) = both_true (reached (label_of w)) (protected_on s w) found.passes in
    let stands : stands_for s (label_of w) w ≡ true = parts_stands s (label_of w) w (needs_side s (code_of w) parts.1) refl in
    let code : code_at words s (label_of w) ≡ code_of w = is_code words s (label_of w) v (listed found.at stands) in
    record { label = label_of w; touches = among parts.0; needs = rw code parts.1 }
missing_touches words v m Nothing e = absurd (right_missing refl e)

-- Where the protection of a protected Mapping or Withdraw is right, it names no label that we use without protection.
right_if : (b : Bool) → pick b Wrong Right ≡ Right → b ≡ false
right_if true e = let z : ◌≡◌ {A = ℕ} 0 1 = cc in absurd (omega arith)
right_if false e = refl

-- A protected Mapping or Withdraw whose protection is right names no label of code 6.
pub protected_names : (words : List ℕ) (m : LabelMessage) (l : ℕ) → received_side m ≡ Used → protection_of words m true (Label l) ≡ Right → code_at words Used l ≢ without_protection
unfolding protection_of code_protection bars_protection received_side
protected_names words Mapping l u e = eqb-false (code_at words Used l) without_protection (right_if (eqb (code_at words Used l) without_protection) e)
protected_names words Withdraw l u e = eqb-false (code_at words Used l) without_protection (right_if (eqb (code_at words Used l) without_protection) e)
protected_names words Release l u e = λ bare. let z : ◌≡◌ {A = ℕ} 0 1 = cc in omega arith

-- What is right never loses a protected label to an unprotected message.
pub unprotected_harmless : (words : List ℕ) → IsValid words → (r : Meets) (m : LabelMessage) (t : Reach) → protection_of words m false t ≡ Right
    → (s : Side) (k : ℕ) → code_at words s k ≢ 0 → code_at words s k ≢ without_protection → code_at (after_event words (Received r m false t)) s k ≡ code_at words s k
unprotected_harmless words v r m t right s k there kept =
    ⊎_elim
    (λ (same : code_at (after_event words (Received r m false t)) s k ≡ code_at words s k). same)
    (λ (move : Moves (Received r m false t) s k (code_at words s k) (code_at (after_event words (Received r m false t)) s k)). absurd (no_move words refl there kept right move))
    (every_move words v (Received r m false t) s k)
