-- Submit is done where every test is passed, and changes nothing anywhere else. Assumes nothing.
use Rattle.std.specs.Prelude.{Result, Ok, Err}
use Prim.Native.Nat.{ℕ, ◌<◌}
use mathlib.Core.Bool.{true, not}
use mathlib.Core.List.{List}
use mathlib.Core.Path.{◌≡◌, refl}
use lib.Dec.{leb, ltb}
use lib.ListN.{length}
use Rattle.octets.specs.Pick.{both}
use Rattle.octets.proofs.Choice.{pick_all}
use Rattle.label_events.specs.declared.Acceptance.{Acceptance}
use Rattle.message.specs.declared.Kind.{Kind}
use Rattle.message.specs.declared.SubmissionError.{SubmissionError}
use Rattle.message.specs.Storable.{shortest, longest, Storable}
use Rattle.message.specs.Submission.{submission_of, entry_in}
use Rattle.protocol.specs.declared.Answer.{Answer}
use Rattle.protocol.specs.declared.Phase.{Phase}
use Rattle.protocol.specs.Accepting.{is_barred, changes_entry, accepted_as, asks}
use Rattle.protocol.specs.Answers.{effect_of}
use Rattle.protocol.specs.Phases.{is_up_ft}
use Rattle.protocol.specs.State.{State, held, capacity}
use Rattle.protocol.specs.Submit.{acceptance_rule, kind_rule, submission_rule, submit_rule, ask_rule, room_rule}
use Rattle.protocol.specs.SubmitCases.{Fitting}
use Rattle.protocol.proofs.Settling.{Harmless, done_harmless}
use Rattle.protocol.proofs.SubmitCases.{Last, done_last}

-- ---- what Done tells
pub record Accepted (s : State) (m : List ℕ) : Type 0 where
  pub storable : Storable m
  pub room : held s < capacity
  pub kept : s.kept ≡ true

pub done_accepted : (s : State) (ph : Phase) (m : List ℕ) → submit_rule s ph m ≡ Answer.Done → Accepted s m
done_accepted s ph m e =
    let p = done_last s ph m e in
    let w : Last s ph m = p.0 in
    let f : Fitting s m = w.unbarred.fitting in
    record {
      storable = record { low = f.low; short = f.high; kind = w.kind; label = w.label; accepted = w.unbarred.accepted };
      room = p.1;
      kept = f.kept;
    }

-- ---- every other answer changes nothing
harmless_ask : (s : State) (ph : Phase) (kind : Kind) (a : Answer) → Harmless a → Harmless (ask_rule s ph kind a)
unfolding effect_of
harmless_ask s ph kind a h =
    pick_all Harmless (both (asks kind) s.marks.stopped) (λ n. refl)
    (pick_all Harmless (both (asks kind) (not (is_up_ft ph))) (λ n. refl) h)

harmless_acceptance : (s : State) (ph : Phase) (kind : Kind) (a : Acceptance) → Harmless (acceptance_rule s ph kind a)
unfolding effect_of
harmless_acceptance s ph kind Acceptance.Taken = harmless_ask s ph kind (room_rule s) (pick_all Harmless (leb capacity (held s)) (λ n. refl) done_harmless)
harmless_acceptance s ph kind Acceptance.NotAllowed = λ n. refl
harmless_acceptance s ph kind Acceptance.NoRoom = harmless_ask s ph kind Answer.NoLabelWord (λ n. refl)

harmless_submission : (s : State) (ph : Phase) (j : Result (Kind × ℕ) SubmissionError) (entry : ℕ) → Harmless (submission_rule s ph j entry)
unfolding kind_rule effect_of
harmless_submission s ph (Err SubmissionError.Malformed) entry = λ n. refl
harmless_submission s ph (Err SubmissionError.Refused) entry = λ n. refl
harmless_submission s ph (Ok (kind, label)) entry =
    pick_all Harmless (is_barred s.queue kind label) (λ n. refl)
    (pick_all Harmless (changes_entry s.table kind label entry) (λ n. refl) (harmless_acceptance s ph kind (accepted_as s.table kind label).0))

pub submit_harmless : (s : State) (ph : Phase) (m : List ℕ) → Harmless (submit_rule s ph m)
unfolding submit_rule effect_of
submit_harmless s ph m =
    pick_all Harmless (not s.kept) (λ n. refl)
    (pick_all Harmless (ltb (length m) shortest) (λ n. refl)
    (pick_all Harmless (ltb longest (length m)) (λ n. refl) (harmless_submission s ph (submission_of m) (entry_in m))))
