-- An acknowledgement that lets a Withdraw or Release go is what its label waited for. Assumes nothing.
use Rattle.std.specs.Prelude.{Result, Ok, Err}
use Prim.Native.Nat.{ℕ, zero, suc}
use mathlib.Core.Bool.{true, false, true≢false}
use mathlib.Core.List.{List, [], ◌∷◌}
use mathlib.Core.Logic.{⊎_elim, ◌≢◌}
use mathlib.Core.Path.{◌≡◌, refl, sym, ◌∙◌}
use native.Mathlib.Omega.{arith}
use lib.Dec.{eqb}
use lib.ListN.{take, drop}
use borrow.Author.Tests.{eqb-true, eqb-false}
use Rattle.octets.proofs.Choice.{by_test, both_true}
use Rattle.label_list.specs.declared.LabelMessage.{LabelMessage}
use Rattle.label_list.specs.declared.LabelMessage.TheVariants.{Withdraw, Release}
use Rattle.label_list.specs.declared.Side.TheVariants.{Given}
use Rattle.label_list.specs.Valid.{valid_of}
use Rattle.label_events.specs.Change.{code_at}
use Rattle.message.specs.declared.Kind.{Kind}
use Rattle.message.specs.declared.SubmissionError.{SubmissionError}
use Rattle.message.specs.Kinds.{kind_number}
use Rattle.message.specs.Storable.{bears, kind_in, label_in}
use Rattle.message.specs.Submission.{submission_of}
use Rattle.label_meaning.specs.Event.{Accepted, Acked, after_event, withdraw-acked, back_acked, release-acked}
use Rattle.label_meaning.proofs.Life.{move_happens}
use Rattle.label_meaning.proofs.Meaning.{valid_means}
use Rattle.protocol.specs.Acked.{released_kind, released_labels}
use Rattle.protocol.specs.Held.{is_held}
use Rattle.protocol.proofs.Words.{released_valid}
use Rattle.two_ends.specs.Labels.{Due, withdrawal, release, due_side, IsDue, due_message, due_kind, Owed}
use Rattle.two_ends.proofs.Owed.{due_step, neither}

held_tail : (kind l : ℕ) (m : List ℕ) (q : List (List ℕ)) → bears (submission_of m) kind l ≡ false → is_held kind l (m ∷ q) ≡ true → is_held kind l q ≡ true
unfolding is_held
held_tail kind l m q n h = rw n at h

-- after the acknowledgement of what is due the label waits for it no more
paid : (ls : List ℕ) → valid_of ls ≡ true → (due : Due) (l : ℕ) → IsDue due (code_at ls (due_side due) l) → IsDue due (code_at (after_event ls (Acked (due_message due) l)) (due_side due) l) → ⊥
paid ls v withdrawal l was z =
    ⊎_elim
    (λ (two : code_at ls Given l ≡ 2).
    let eight = move_happens ls (valid_means ls v) withdraw-acked (λ e. omega arith) two tt in
    neither (λ e. omega arith) (λ e. omega arith) z)
    (λ (nine : code_at ls Given l ≡ 9).
    let free = move_happens ls (valid_means ls v) back_acked (λ e. omega arith) nine tt in
    neither (λ e. omega arith) (λ e. omega arith) z)
    was
paid ls v release l five z = let free = move_happens ls (valid_means ls v) release-acked (omega arith) five tt in omega arith

-- ---- a message that is due was let go
module _ (ls : List ℕ) (m : List ℕ) (q : List (List ℕ)) (v : valid_of ls ≡ true) (o : Owed ls (m ∷ q)) where
  pay : (message : LabelMessage) (label : ℕ)
      → ((due : Due) (l : ℕ) → bears (submission_of m) (due_kind due) l ≡ true → (message ≡ due_message due) × (label ≡ l)) → Owed (after_event ls (Acked message label)) q
  pay message label is due l z =
      ⊎_elim
      (λ (same : IsDue due (code_at ls (due_side due) l)).
      by_test (bears (submission_of m) (due_kind due) l)
      (λ t. let p = is due l t in absurd (paid ls v due l same (rw (p.0, p.1) at z)))
      (λ n. held_tail (due_kind due) l m q n (o due l same)))
      (λ (e : Acked message label ≡ Accepted (due_message due) l). let no : ◌≡◌ {A = ℕ} 0 1 = cc in absurd (omega arith))
      (due_step ls v (Acked message label) due l z)

  -- any other message was let go
  keep : ((due : Due) (l : ℕ) → bears (submission_of m) (due_kind due) l ≡ false) → Owed ls q
  keep n due l z = held_tail (due_kind due) l m q (n due l) (o due l z)

-- ---- the oldest is let go, whatever it is
bears_parts : (j : Result (Kind × ℕ) SubmissionError) (kind l : ℕ) → bears j kind l ≡ true → (kind_in j ≡ kind) × (label_in j ≡ l)
bears_parts (Err SubmissionError.Malformed) kind l e = absurd (true≢false (sym e))
bears_parts (Err SubmissionError.Refused) kind l e = absurd (true≢false (sym e))
bears_parts (Ok (k, n)) kind l e =
    let p = both_true (eqb (kind_number k) kind) (eqb n l) e in
    (eqb-true (kind_number k) kind p.0, eqb-true n l p.1)

withdraw_pays : (due : Due) → 2 ≡ due_kind due → Withdraw ≡ due_message due
withdraw_pays withdrawal e = refl
withdraw_pays release e = absurd (omega arith)

release_pays : (due : Due) → 3 ≡ due_kind due → Release ≡ due_message due
release_pays withdrawal e = absurd (omega arith)
release_pays release e = refl

other_due : (kind : ℕ) → kind ≢ 2 → kind ≢ 3 → (due : Due) → kind ≢ due_kind due
other_due kind two three withdrawal = two
other_due kind two three release = three

one_owed : (ls : List ℕ) (m : List ℕ) (q : List (List ℕ)) → valid_of ls ≡ true → Owed ls (m ∷ q) → Owed (released_kind (kind_in (submission_of m)) (label_in (submission_of m)) ls) q
unfolding released_kind after_event
one_owed ls m q v o =
    let j = submission_of m in
    let kind = kind_in j in
    by_test
    (eqb kind 2)
    (λ two. rw two (pay ls m q v o Withdraw (label_in j) (λ due l t. let p = bears_parts j (due_kind due) l t in (withdraw_pays due (sym (eqb-true kind 2 two) ∙ p.0), p.1))))
    (λ two. rw two
    (by_test
    (eqb kind 3)
    (λ three. rw three (pay ls m q v o Release (label_in j) (λ due l t. let p = bears_parts j (due_kind due) l t in (release_pays due (sym (eqb-true kind 3 three) ∙ p.0), p.1))))
    (λ three. rw three (keep ls m q v o (λ due l.
    by_test (bears j (due_kind due) l) (λ t. absurd (other_due kind (eqb-false kind 2 two) (eqb-false kind 3 three) due (bears_parts j (due_kind due) l t).0)) (λ n. n))))))

-- the oldest k are let go
pub released_owed : (k : ℕ) (ls : List ℕ) (q : List (List ℕ)) → valid_of ls ≡ true → Owed ls q → Owed (released_labels (take k q) ls) (drop k q)
unfolding released_labels
released_owed zero ls q v o = o
released_owed (suc k) ls [] v o = o
released_owed (suc k) ls (m ∷ q) v o =
    let j = submission_of m in
    released_owed k (released_kind (kind_in j) (label_in j) ls) q (released_valid (m ∷ []) ls v) (one_owed ls m q v o)
