-- The judgement of a submission is the list of its cases. Assumes nothing.
use Rattle.std.specs.Prelude.{Result, Ok, Err}
use Prim.Native.Nat.{ℕ, ◌≤◌, ◌<◌}
use mathlib.Core.Bool.{Bool, true, false, not}
use mathlib.Core.List.{List}
use mathlib.Core.Logic.{◌≢◌}
use mathlib.Core.Path.{◌≡◌, refl, ◌∙◌, sym}
use lib.Dec.{leb, ltb}
use lib.ListN.{length}
use borrow.Author.Tests.{leb-true, leb-false, ltb-true, ltb-false, le-leb, lt-leb, le-ltb, lt-ltb}
use Rattle.octets.specs.Pick.{pick, both}
use Rattle.octets.proofs.Choice.{by_test, no}
use Rattle.label_events.specs.declared.Acceptance.{Acceptance}
use Rattle.message.specs.declared.Kind.{Kind}
use Rattle.message.specs.declared.SubmissionError.{SubmissionError}
use Rattle.message.specs.Storable.{shortest, longest}
use Rattle.message.specs.Submission.{submission_of, entry_in}
use Rattle.protocol.specs.declared.Answer.{Answer}
use Rattle.protocol.specs.declared.Phase.{Phase}
use Rattle.protocol.specs.Accepting.{is_barred, changes_entry, accepted_as, asks}
use Rattle.protocol.specs.Phases.{is_up_ft}
use Rattle.protocol.specs.State.{State, capacity, held}
use Rattle.protocol.specs.Step.{where_open}
use Rattle.protocol.specs.Submit.{acceptance_rule, kind_rule, submission_rule, submit_rule, ask_rule, room_rule}
use Rattle.protocol.specs.SubmitCases.{Fitting, Unbarred, SubmitCase, not_kept, too_short, too_long, malformed_submission, not-sent, still-held, another_entry, code_forbids, no_free_word, store-full, queues, MayAsk, stopped, outside}

-- every test but the last is passed
pub record Last (s : State) (ph : Phase) (m : List ℕ) : Type 0 where
  pub kind : Kind
  pub label : ℕ
  pub unbarred : Unbarred s m kind label
  pub may : MayAsk s ph kind
  pub taken : (accepted_as s.table kind label).0 ≡ Acceptance.Taken

module _ (s : State) (ph : Phase) (m : List ℕ) where
  abbrev Here : Answer → Type 0
  Here a = SubmitCase s ph m a

  -- ---- the judgement, case by case
  -- 14 and 15, then what says `a`
  ask_case : {kind : Kind} {label : ℕ} {a : Answer} → Unbarred s m kind label → (accepted_as s.table kind label).0 ≢ Acceptance.NotAllowed
      → (MayAsk s ph kind → Here a) → Here (ask_rule s ph kind a)
  ask_case {kind} {label} {a} u allowed rest = by (asks kind) refl s.marks.stopped refl (is_up_ft ph) refl
    where
      by : (q : Bool) → asks kind ≡ q → (t : Bool) → s.marks.stopped ≡ t → (v : Bool) → is_up_ft ph ≡ v
          → Here (pick (both q t) Answer.RequestsStopped (pick (both q (not v)) Answer.RequestOutsideUpFt a))
      by false q t d v e = rest (record { going = rw q; up = rw q })
      by true q true d v e = stopped u allowed q d
      by true q false d false e = outside u allowed q d e
      by true q false d true e = rest (record { going = rw (q, d); up = rw (q, e) })

  room-case : {kind : Kind} {label : ℕ} → Unbarred s m kind label → (accepted_as s.table kind label).0 ≡ Acceptance.Taken → MayAsk s ph kind → Here (room_rule s)
  room-case u e may =
      by_test (leb capacity (held s))
      (λ t. rw t (store-full u may e (leb-true capacity (held s) t)))
      (λ f. rw f (queues u may e (leb-false capacity (held s) f)))

  acceptance_case : {kind : Kind} {label : ℕ} → Unbarred s m kind label → (a : Acceptance) → (accepted_as s.table kind label).0 ≡ a → Here (acceptance_rule s ph kind a)
  acceptance_case u Acceptance.Taken e = ask_case u (λ n. let z : Acceptance.Taken ≡ Acceptance.NotAllowed = sym e ∙ n in no (cc)) (room-case u e)
  acceptance_case u Acceptance.NotAllowed e = code_forbids u e
  acceptance_case u Acceptance.NoRoom e =
      ask_case u (λ n. let z : Acceptance.NoRoom ≡ Acceptance.NotAllowed = sym e ∙ n in no (cc)) (λ may. no_free_word u may e)

  kind_case : {kind : Kind} {label : ℕ} → Fitting s m → submission_of m ≡ Ok (kind, label) → Here (kind_rule s ph kind label (entry_in m))
  unfolding kind_rule
  kind_case {kind} {label} f e = by (is_barred s.queue kind label) refl (changes_entry s.table kind label (entry_in m)) refl
    where
      by : (b : Bool) → is_barred s.queue kind label ≡ b → (o : Bool) → changes_entry s.table kind label (entry_in m) ≡ o
          → Here (pick b Answer.LabelNotAllowed (pick o Answer.LabelNotAllowed (acceptance_rule s ph kind (accepted_as s.table kind label).0)))
      by true q o r = still-held f e q
      by false q true r = another_entry f e q r
      by false q false r = acceptance_case (record { fitting = f; accepted = e; free = q; same = r }) (accepted_as s.table kind label).0 refl

  submission_case : Fitting s m → (j : Result (Kind × ℕ) SubmissionError) → submission_of m ≡ j → Here (submission_rule s ph j (entry_in m))
  submission_case f (Err SubmissionError.Malformed) e = malformed_submission f e
  submission_case f (Err SubmissionError.Refused) e = not-sent f e
  submission_case f (Ok (kind, label)) e = kind_case f e

  -- every answer of Submit is a case of the list,
  pub submit-cases : SubmitCase s ph m (submit_rule s ph m)
  unfolding submit_rule
  submit-cases = by s.kept refl (ltb (length m) shortest) refl (ltb longest (length m)) refl
    where
      by : (k : Bool) → s.kept ≡ k → (l : Bool) → ltb (length m) shortest ≡ l → (h : Bool) → ltb longest (length m) ≡ h
          → Here (where_open k (pick l Answer.LengthOutOfRange (pick h Answer.LengthOutOfRange (submission_rule s ph (submission_of m) (entry_in m)))))
      by false k l p h q = not_kept k
      by true k true p h q = too_short k (ltb-true (length m) shortest p)
      by true k false p true q = too_long k (ltb-true longest (length m) q)
      by true k false p false q =
          submission_case (record { kept = k; low = ltb-false (length m) shortest p; high = ltb-false longest (length m) q }) (submission_of m) refl

  -- ---- and each case has its answer
  fitting_is : Fitting s m → submit_rule s ph m ≡ submission_rule s ph (submission_of m) (entry_in m)
  unfolding submit_rule
  fitting_is f = rw (f.kept, le-ltb (length m) shortest f.low, le-ltb longest (length m) f.high)

  unbarred_is : {kind : Kind} {label : ℕ} → Unbarred s m kind label → submit_rule s ph m ≡ acceptance_rule s ph kind (accepted_as s.table kind label).0
  unfolding kind_rule
  unbarred_is u = fitting_is u.fitting ∙ rw (u.accepted, u.free, u.same)

  -- past 14 and 15
  may_is : (kind : Kind) → MayAsk s ph kind → (a : Answer) → ask_rule s ph kind a ≡ a
  may_is kind may a = rw (may.going, may.up)

  -- before 13 and 7
  asked_of_lem : (kind : Kind) (x : Acceptance) → x ≢ Acceptance.NotAllowed → (y : Answer) → ((a : Answer) → ask_rule s ph kind a ≡ y) → acceptance_rule s ph kind x ≡ y
  asked_of_lem kind Acceptance.Taken allowed y f = f (room_rule s)
  asked_of_lem kind Acceptance.NotAllowed allowed y f = absurd (allowed refl)
  asked_of_lem kind Acceptance.NoRoom allowed y f = f Answer.NoLabelWord

  -- and each case has its answer: 1, 3, 4, 5, 6, 14, 15, 13, 7
  pub case-submit : {a : Answer} → SubmitCase s ph m a → submit_rule s ph m ≡ a
  unfolding submit_rule kind_rule
  case-submit (not_kept k) = rw k
  case-submit (too_short k l) = rw (k, lt-ltb (length m) shortest l)
  case-submit (too_long k l) = long k l
    where
      long : s.kept ≡ true → longest < length m → submit_rule s ph m ≡ Answer.LengthOutOfRange
      long k l = by_test (ltb (length m) shortest) (λ t. rw (k, t)) (λ f. rw (k, f, lt-ltb longest (length m) l))
  case-submit (malformed_submission f e) = fitting_is f ∙ rw e
  case-submit (not-sent f e) = fitting_is f ∙ rw e
  case-submit (still-held f e b) = fitting_is f ∙ rw (e, b)
  case-submit (another_entry f e b o) = fitting_is f ∙ rw (e, b, o)
  case-submit (code_forbids u e) = unbarred_is u ∙ rw e
  case-submit (stopped {kind} {label} u allowed q d) = unbarred_is u ∙ asked_of_lem kind (accepted_as s.table kind label).0 allowed Answer.RequestsStopped (λ a. rw (q, d))
  case-submit (outside {kind} {label} u allowed q d e) = unbarred_is u ∙ asked_of_lem kind (accepted_as s.table kind label).0 allowed Answer.RequestOutsideUpFt (λ a. rw (q, d, e))
  case-submit (no_free_word {kind} u may e) = unbarred_is u ∙ rw e (may_is kind may Answer.NoLabelWord)
  case-submit (store-full {kind} u may e l) = unbarred_is u ∙ rw e (may_is kind may (room_rule s) ∙ rw (le-leb capacity (held s) l))
  case-submit (queues {kind} u may e l) = unbarred_is u ∙ rw e (may_is kind may (room_rule s) ∙ rw (lt-leb capacity (held s) l))

  -- ---- Done and 7 come after every other test
  -- what a case says where the answer is one of the two
  abbrev Ends : Answer → Type 0
  Ends a = (a ≡ Answer.Done → Last s ph m × (held s < capacity)) × (a ≡ Answer.StoreFull → Last s ph m × (capacity ≤ held s))

  ending : {a : Answer} → SubmitCase s ph m a → Ends a
  ending (not_kept k) = (λ q. no (cc), λ q. no (cc))
  ending (too_short k l) = (λ q. no (cc), λ q. no (cc))
  ending (too_long k l) = (λ q. no (cc), λ q. no (cc))
  ending (malformed_submission f e) = (λ q. no (cc), λ q. no (cc))
  ending (not-sent f e) = (λ q. no (cc), λ q. no (cc))
  ending (still-held f e b) = (λ q. no (cc), λ q. no (cc))
  ending (another_entry f e b o) = (λ q. no (cc), λ q. no (cc))
  ending (code_forbids u e) = (λ q. no (cc), λ q. no (cc))
  ending (stopped u allowed q d) = (λ q. no (cc), λ q. no (cc))
  ending (outside u allowed q d e) = (λ q. no (cc), λ q. no (cc))
  ending (no_free_word u may e) = (λ q. no (cc), λ q. no (cc))
  ending (store-full {kind} {label} u may e l) = (λ q. no (cc), λ q. (record { kind = kind; label = label; unbarred = u; may = may; taken = e }, l))
  ending (queues {kind} {label} u may e l) = (λ q. (record { kind = kind; label = label; unbarred = u; may = may; taken = e }, l), λ q. no (cc))

  pub done_last : submit_rule s ph m ≡ Answer.Done → Last s ph m × (held s < capacity)
  done_last e = (ending submit-cases).0 e

  pub full_last : submit_rule s ph m ≡ Answer.StoreFull → Last s ph m × (capacity ≤ held s)
  full_last e = (ending submit-cases).1 e
