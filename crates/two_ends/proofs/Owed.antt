-- A label of code 2, 9 or 5 has its Withdraw or Release in the store. Assumes nothing.
use Rattle.std.specs.Prelude.{Result, Ok, Option, Some, None}
use Prim.Native.Nat.{ℕ}
use mathlib.Core.Bool.{Bool, true, false, true≢false}
use mathlib.Core.List.{List, [], ◌∷◌, ◌++◌}
use mathlib.Core.Logic.{◌⊎◌, inl, inr, ⊎_elim, ◌≢◌}
use mathlib.Core.Path.{◌≡◌, refl, sym}
use native.Mathlib.Omega.{arith}
use borrow.Author.Tests.{eq-eqb}
use Rattle.octets.specs.Pick.{pick}
use Rattle.octets.proofs.Choice.{no, pick_all}
use Rattle.label_list.specs.declared.LabelMessage.{LabelMessage}
use Rattle.label_list.specs.declared.LabelMessage.TheVariants.{Mapping, Withdraw, Release}
use Rattle.label_list.specs.declared.SweepRule.TheVariants.{AfterBreak}
use Rattle.label_list.specs.Sweep.{swept_of}
use Rattle.label_list.specs.Valid.{valid_of}
use Rattle.label_events.specs.declared.Meets.{Meets}
use Rattle.label_events.specs.declared.Touched.{Touched}
use Rattle.label_events.specs.Change.{code_at}
use Rattle.message.specs.declared.Kind.{Kind}
use Rattle.message.specs.declared.SubmissionError.{SubmissionError}
use Rattle.message.specs.Kinds.{kind_number}
use Rattle.message.specs.Storable.{bears}
use Rattle.message.specs.Submission.{submission_of}
use Rattle.label_meaning.specs.Event.{LabelEvent, Accepted, Received, Broken, after_event, Moves, given, withdrawn, released, returned, withdraw-acked, back_acked, release-acked, taken, taken-again, taken_bare, asked_back, bare_withdrawn, given_back, withdrawn_back, acked_back, bare_lost, Ended}
use Rattle.label_meaning.proofs.Meaning.{valid_means}
use Rattle.label_meaning.proofs.Moved.{every_move}
use Rattle.protocol.specs.Held.{is_held}
use Rattle.protocol.specs.Labels.{reached, effect_labels}
use Rattle.protocol.specs.State.{Table, no_table}
use Rattle.two_ends.specs.Labels.{Due, withdrawal, release, due_side, IsDue, due_message, due_kind, Owed}
use Rattle.two_ends.proofs.Accepting.{AcceptedWords, mapping_accepted, withdraw_accepted, release_accepted, codes_kept}
use Rattle.two_ends.proofs.Sixless.{none_code}

-- ---- what is held
held_by_lem : (b : Bool) {c d : Bool} → (c ≡ true → d ≡ true) → pick b true c ≡ true → pick b true d ≡ true
held_by_lem true f e = refl
held_by_lem false f e = f e

pub held_more : (kind l : ℕ) (q r : List (List ℕ)) → is_held kind l q ≡ true → is_held kind l (q ++ r) ≡ true
unfolding is_held
held_more kind l [] r e = absurd (true≢false (sym e))
held_more kind l (m ∷ q) r e = held_by_lem (bears (submission_of m) kind l) (λ f. held_more kind l q r f) e

pub held_last : (kind l : ℕ) (q : List (List ℕ)) (m : List ℕ) → bears (submission_of m) kind l ≡ true → is_held kind l (q ++ (m ∷ [])) ≡ true
unfolding is_held
held_last kind l [] m e = rw e
held_last kind l (x ∷ q) m e = pick_all (λ (b : Bool). b ≡ true) (bears (submission_of x) kind l) refl (held_last kind l q m e)

-- ---- no labels
pub none_owed : Owed no_table.words []
none_owed withdrawal l z =
    let zero : code_at no_table.words (due_side withdrawal) l ≡ 0 = none_code (due_side withdrawal) l in
    ⊎_elim (λ (two : code_at no_table.words (due_side withdrawal) l ≡ 2). absurd (omega arith)) (λ (nine : code_at no_table.words (due_side withdrawal) l ≡ 9). absurd (omega arith)) z
none_owed release l z = let zero : code_at no_table.words (due_side release) l ≡ 0 = none_code (due_side release) l in absurd (omega arith)

-- ---- only an accepted Withdraw or Release leads to these codes
pub neither : {P : Type 0} {d : ℕ} → d ≢ 2 → d ≢ 9 → IsDue withdrawal d → P
neither {d = d} two nine z = ⊎_elim (λ (e : d ≡ 2). absurd (two e)) (λ (e : d ≡ 9). absurd (nine e)) z

due_move : (due : Due) {e : LabelEvent} {l c d : ℕ} → Moves e (due_side due) l c d → IsDue due d → IsDue due c ⊎ (e ≡ Accepted (due_message due) l)
due_move withdrawal given z = neither (λ e. omega arith) (λ e. omega arith) z
due_move withdrawal withdrawn z = inr refl
due_move withdrawal withdraw-acked z = neither (λ e. omega arith) (λ e. omega arith) z
due_move withdrawal back_acked z = neither (λ e. omega arith) (λ e. omega arith) z
due_move withdrawal (given_back t) z = neither (λ e. omega arith) (λ e. omega arith) z
due_move withdrawal (withdrawn_back t) z = inl (inl refl)
due_move withdrawal (acked_back t) z = neither (λ e. omega arith) (λ e. omega arith) z
due_move release released z = inr refl
due_move release returned z = absurd (omega arith)
due_move release release-acked z = absurd (omega arith)
due_move release taken z = absurd (omega arith)
due_move release taken-again z = absurd (omega arith)
due_move release taken_bare z = absurd (omega arith)
due_move release (asked_back t) z = absurd (omega arith)
due_move release (bare_withdrawn t) z = absurd (omega arith)
due_move release bare_lost z = absurd (omega arith)

pub due_step : (ls : List ℕ) → valid_of ls ≡ true → (e : LabelEvent) (due : Due) (l : ℕ) → IsDue due (code_at (after_event ls e) (due_side due) l)
    → IsDue due (code_at ls (due_side due) l) ⊎ (e ≡ Accepted (due_message due) l)
due_step ls v e due l z =
    ⊎_elim
    (λ (same : code_at (after_event ls e) (due_side due) l ≡ code_at ls (due_side due) l). inl (rw same at z))
    (λ (move : Moves e (due_side due) l (code_at ls (due_side due) l) (code_at (after_event ls e) (due_side due) l)). due_move due move z)
    (every_move ls (valid_means ls v) e (due_side due) l)

-- ---- a connection ends, a message is received
module _ (ls : List ℕ) (q : List (List ℕ)) (v : valid_of ls ≡ true) (o : Owed ls q) where
  -- any event but a message accepted
  else_owed : (e : LabelEvent) → ((m : LabelMessage) (l : ℕ) → e ≢ Accepted m l) → Owed (after_event ls e) q
  else_owed e other due l z =
      ⊎_elim
      (λ (same : IsDue due (code_at ls (due_side due) l)). o due l same)
      (λ (is : e ≡ Accepted (due_message due) l). absurd (other (due_message due) l is))
      (due_step ls v e due l z)

  pub broken_owed : Owed (swept_of ls AfterBreak) q
  unfolding after_event
  broken_owed = else_owed Broken (λ m l e. no cc)

pub received_owed : (t : Table) (q : List (List ℕ)) → valid_of t.words ≡ true → Owed t.words q → (y : Meets) (p : Bool) (e : Option (LabelMessage × Touched)) → Owed (effect_labels t y p e) q
unfolding after_event
received_owed t q v o y p None = else_owed t.words q v o (Ended y.request) (λ m l e. no cc)
received_owed t q v o y p (Some (message, x)) = else_owed t.words q v o (Received y message p (reached t message x)) (λ m l e. no cc)

-- ---- a message is accepted: it is the newest held
accept_by : (ls : List ℕ) (q : List (List ℕ)) (m : List ℕ) → valid_of ls ≡ true → Owed ls q → (message : LabelMessage) (label : ℕ)
    → ((due : Due) → message ≡ due_message due → bears (submission_of m) (due_kind due) label ≡ true) → Owed (after_event ls (Accepted message label)) (q ++ (m ∷ []))
accept_by ls q m v o message label is due l z =
    ⊎_elim
    (λ (same : IsDue due (code_at ls (due_side due) l)). held_more (due_kind due) l q (m ∷ []) (o due l same))
    (λ (e : Accepted message label ≡ Accepted (due_message due) l).
    let same : message ≡ due_message due = cc in
    let at : label ≡ l = cc in
    held_last (due_kind due) l q m (rw at at (is due same)))
    (due_step ls v (Accepted message label) due l z)

-- a message that bears the kind of what is due
bears_due : (kind : Kind) (label : ℕ) (due : Due) → kind_number kind ≡ due_kind due → bears (Ok (kind, label)) (due_kind due) label ≡ true
bears_due kind label due e = rw (eq-eqb (kind_number kind) (due_kind due) e) (eq-eqb label label refl)

wrong_due : {P : Type 0} (due : Due) → Mapping ≡ due_message due → P
wrong_due withdrawal e = no cc
wrong_due release e = no cc

withdraw_due : (due : Due) → Withdraw ≡ due_message due → 2 ≡ due_kind due
withdraw_due withdrawal e = refl
withdraw_due release e = no cc

release_due : (due : Due) → Release ≡ due_message due → 3 ≡ due_kind due
release_due withdrawal e = no cc
release_due release e = refl

pub accepted_owed : (ls : List ℕ) (q : List (List ℕ)) (m : List ℕ) → valid_of ls ≡ true → Owed ls q → {j : Result (Kind × ℕ) SubmissionError} {after : List ℕ} → submission_of m ≡ j → AcceptedWords ls j after
    → Owed after (q ++ (m ∷ []))
accepted_owed ls q m v o e (mapping_accepted {k}) = accept_by ls q m v o Mapping k (λ due f. wrong_due due f)
accepted_owed ls q m v o e (withdraw_accepted {k}) = accept_by ls q m v o Withdraw k (λ due f. rw e (bears_due Kind.Withdraw k due (withdraw_due due f)))
accepted_owed ls q m v o e (release_accepted {k}) = accept_by ls q m v o Release k (λ due f. rw e (bears_due Kind.Release k due (release_due due f)))
accepted_owed ls q m v o e (codes_kept same) = λ due l z. held_more (due_kind due) l q (m ∷ []) (o due l (rw (same (due_side due) l) at z))
