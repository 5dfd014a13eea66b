-- What is given is in use or asked back, as either end accepts a message or an acknowledgement comes. Assumes nothing.
use Rattle.std.specs.Prelude.{Result, Ok}
use Prim.Native.Nat.{ℕ}
use mathlib.Core.Bool.{true, false, true≢false}
use mathlib.Core.List.{List, [], ◌∷◌, ◌++◌}
use mathlib.Core.Logic.{◌⊎◌, inl, inr, ⊎_elim}
use mathlib.Core.Path.{◌≡◌, refl, sym, ap, ◌∙◌}
use borrow.Author.Tests.{eq-eqb}
use Rattle.octets.proofs.Choice.{no, by_test}
use Rattle.label_list.specs.declared.LabelMessage.{LabelMessage}
use Rattle.label_list.specs.declared.LabelMessage.TheVariants.{Mapping, Withdraw, Release}
use Rattle.label_list.specs.declared.Side.{Side}
use Rattle.label_list.specs.declared.Side.TheVariants.{Given, Used}
use Rattle.label_list.specs.Valid.{valid_of}
use Rattle.label_events.specs.Change.{code_at}
use Rattle.message.specs.declared.Kind.{Kind}
use Rattle.message.specs.declared.SubmissionError.{SubmissionError}
use Rattle.message.specs.Storable.{bears}
use Rattle.message.specs.Submission.{submission_of}
use Rattle.label_meaning.specs.Event.{LabelEvent, Accepted, after_event, Moves, given, withdrawn, released, returned}
use Rattle.label_meaning.proofs.Meaning.{valid_means}
use Rattle.label_meaning.proofs.Moved.{every_move}
use Rattle.protocol.specs.Held.{is_held}
use Rattle.two_ends.specs.Agree.{code_after, Agree}
use Rattle.two_ends.proofs.Accepting.{AcceptedWords, mapping_accepted, withdraw_accepted, release_accepted, codes_kept}
use Rattle.two_ends.proofs.Codes.{fit, mapping_used, used_code_by, fit_after, after_snoc}
use Rattle.two_ends.proofs.Owed.{held_more, held_last}
use Rattle.two_ends.proofs.Sixless.{NoSix}

-- what an event makes of a label's code on a side
pub moved : (ls : List ℕ) → valid_of ls ≡ true → (e : LabelEvent) (side : Side) (l : ℕ)
    → (code_at (after_event ls e) side l ≡ code_at ls side l) ⊎ Moves e side l (code_at ls side l) (code_at (after_event ls e) side l)
moved ls v e side l = every_move ls (valid_means ls v) e side l

-- ---- the giver accepts a message
-- a label becomes given by a Mapping of it, or was given before
given_move : {m : LabelMessage} {k l c d : ℕ} → Moves (Accepted m k) Given l c d → ((m ≡ Mapping) × (k ≡ l)) ⊎ (c ≡ 1)
given_move given = inl (refl, refl)
given_move withdrawn = inr refl

module _ (giver user : List ℕ) (out back : List (List ℕ)) (a : Agree giver user out back) where
  -- a message that names no label, or another
  more_agree : (m : List ℕ) → Agree giver user (out ++ (m ∷ [])) back
  more_agree m l may g none = rw (after_snoc l (code_at user Used l) out m) (used_code_by l (code_after l (code_at user Used l) out) (submission_of m) (a l may g none))

  given_agree : (m : List ℕ) → valid_of giver ≡ true → NoSix user → (message : LabelMessage) (k : ℕ) → ((l : ℕ) → message ≡ Mapping → k ≡ l → submission_of m ≡ Ok (Kind.Mapping, l))
      → Agree (after_event giver (Accepted message k)) user (out ++ (m ∷ [])) back
  given_agree m v six message k is l may g none =
      ⊎_elim
      (λ (same : code_at (after_event giver (Accepted message k)) Given l ≡ code_at giver Given l). more_agree m l may (rw same at g) none)
      (λ (move : Moves (Accepted message k) Given l (code_at giver Given l) (code_at (after_event giver (Accepted message k)) Given l)).
      ⊎_elim
      (λ (p : (message ≡ Mapping) × (k ≡ l)).
      rw (after_snoc l (code_at user Used l) out m, is l p.0 p.1, eq-eqb l l refl) (mapping_used (fit_after l (code_at user Used l) out (fit user six l))))
      (λ (one : code_at giver Given l ≡ 1). more_agree m l may (inl one) none)
      (given_move move))
      (moved giver v (Accepted message k) Given l)

  pub accept_giver : (m : List ℕ) → valid_of giver ≡ true → NoSix user → {j : Result (Kind × ℕ) SubmissionError} {after : List ℕ} → submission_of m ≡ j → AcceptedWords giver j after
      → Agree after user (out ++ (m ∷ [])) back
  accept_giver m v six e (mapping_accepted {k}) = given_agree m v six Mapping k (λ l p q. e ∙ ap (λ (x : ℕ). Ok (Kind.Mapping, x)) q)
  accept_giver m v six e (withdraw_accepted {k}) = given_agree m v six Withdraw k (λ l p q. no cc)
  accept_giver m v six e (release_accepted {k}) = given_agree m v six Release k (λ l p q. no cc)
  accept_giver m v six e (codes_kept same) = λ l may g none. more_agree m l may (rw (same Given l) at g) none

-- ---- the user accepts a message
not-held : (l : ℕ) (q r : List (List ℕ)) → is_held 3 l (q ++ r) ≡ false → is_held 3 l q ≡ false
not-held l q r n = by_test (is_held 3 l q) (λ t. absurd (true≢false (sym (held_more 3 l q r t) ∙ n))) (λ f. f)

-- only its Release moves a label at its user
used_move : {m : LabelMessage} {k l c d : ℕ} → Moves (Accepted m k) Used l c d → (m ≡ Release) × (k ≡ l)
used_move released = (refl, refl)
used_move returned = (refl, refl)

module _ (giver user : List ℕ) (out back : List (List ℕ)) (a : Agree giver user out back) where
  same_agree : (m : List ℕ) → Agree giver user out (back ++ (m ∷ []))
  same_agree m l may g none = a l may g (not-held l back (m ∷ []) none)

  used_agree : (m : List ℕ) → valid_of user ≡ true → (message : LabelMessage) (k : ℕ) → ((l : ℕ) → message ≡ Release → k ≡ l → bears (submission_of m) 3 l ≡ true)
      → Agree giver (after_event user (Accepted message k)) out (back ++ (m ∷ []))
  used_agree m v message k is l may g none =
      ⊎_elim
      (λ (same : code_at (after_event user (Accepted message k)) Used l ≡ code_at user Used l). rw same (same_agree m l may g none))
      (λ (move : Moves (Accepted message k) Used l (code_at user Used l) (code_at (after_event user (Accepted message k)) Used l)).
      let p = used_move move in
      absurd (true≢false (sym (held_last 3 l back m (is l p.0 p.1)) ∙ none)))
      (moved user v (Accepted message k) Used l)

  pub accept_user : (m : List ℕ) → valid_of user ≡ true → {j : Result (Kind × ℕ) SubmissionError} {after : List ℕ} → submission_of m ≡ j → AcceptedWords user j after → Agree giver after out (back ++ (m ∷ []))
  accept_user m v e (mapping_accepted {k}) = used_agree m v Mapping k (λ l p q. no cc)
  accept_user m v e (withdraw_accepted {k}) = used_agree m v Withdraw k (λ l p q. no cc)
  accept_user m v e (release_accepted {k}) = used_agree m v Release k (λ l p q. rw e (eq-eqb k l q))
  accept_user m v e (codes_kept same) = λ l may g none. rw (same Used l) (same_agree m l may g none)
