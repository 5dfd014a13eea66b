-- What Submit leaves: the message is the newest held and has no number; whatever the answer, no number moves. Assumes nothing.
use Rattle.std.specs.Prelude.{Result, Ok, Err}
use Prim.Native.Nat.{ℕ}
use mathlib.Core.List.{List, [], ◌∷◌}
use mathlib.Core.Path.{◌≡◌, refl}
use lib.ListN.{length-append, get_or-append}
use lib.Seq.{get_or-append_seam}
use Rattle.message.specs.declared.Kind.{Kind}
use Rattle.message.specs.declared.SubmissionError.{SubmissionError}
use Rattle.message.specs.Submission.{submission_of}
use Rattle.protocol.specs.declared.Answer.{Answer}
use Rattle.protocol.specs.declared.Phase.{Phase}
use Rattle.protocol.specs.Calls.{submits, step}
use Rattle.protocol.specs.Judged.{done}
use Rattle.protocol.specs.Lawful.{Window}
use Rattle.protocol.specs.MeaningSubmit.{QueuedFrom}
use Rattle.protocol.specs.Phases.{issued_count}
use Rattle.protocol.specs.State.{State}
use Rattle.protocol.specs.Step.{Step, stepped}
use Rattle.protocol.specs.Submit.{submitted, submit, accepted_marks}
use Rattle.protocol.proofs.Answered.{submit-does}
use Rattle.protocol.proofs.Hearing.{unheard}
use Rattle.protocol.proofs.KeepingNumbers.{issued_held}

module _ (s : State) (ph : Phase) (m : List ℕ) where
  marks_stopped : (j : Result (Kind × ℕ) SubmissionError) → (accepted_marks s.marks j).stopped ≡ s.marks.stopped
  marks_stopped (Err SubmissionError.Malformed) = refl
  marks_stopped (Err SubmissionError.Refused) = refl
  marks_stopped (Ok (kind, label)) = refl

  submitted_from : Window s → QueuedFrom s ph m (stepped Answer.Done (submitted s m) ph [])
  unfolding submitted issued_count
  submitted_from w = record {
    phase = refl;
    output = refl;
    more = length-append s.queue (m ∷ []);
    newest = get_or-append_seam s.queue m [] [];
    order = λ i l. get_or-append s.queue (m ∷ []) [] i l;
    pended = issued_held s w;
    released = refl;
    issued = refl;
    secured = refl;
    kept = refl;
    terms = refl;
    labels = λ kind label e. rw e;
    ids = λ kind label e. rw e;
    stopped = marks_stopped (submission_of m);
    stopping = λ kind label e. rw e;
  }

  -- Done: the message is the newest, those before it keep their order, it has no number, the label words are as accepting leaves them
  pub submit_queues : Window s → (submit s ph m).answer ≡ Answer.Done → QueuedFrom s ph m (submit s ph m)
  submit_queues w d = rw (submit-does s ph m d) (submitted_from w)

  -- ---- whatever the answer
  pub submit_phase : (submit s ph m).phase ≡ ph
  unfolding step done
  submit_phase = unheard (submits m) s ph 0 refl (λ (x : Step). x.phase ≡ ph) refl (λ d. refl)

  -- a message gets no number here
  pub submit-numbers : ((submit s ph m).state.released ≡ s.released) × ((submit s ph m).state.issued ≡ s.issued) × ((submit s ph m).state.secured ≡ s.secured)
  unfolding step done submitted
  submit-numbers =
      unheard (submits m) s ph 0 refl (λ (x : Step). (x.state.released ≡ s.released) × (x.state.issued ≡ s.issued) × (x.state.secured ≡ s.secured)) (refl, refl, refl)
      (λ d. (refl, refl, refl))
