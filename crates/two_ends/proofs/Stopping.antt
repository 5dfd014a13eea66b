-- Over every run: both ends remember whether Requests are stopped, as the messages say. Assumes nothing.
use Rattle.std.specs.Prelude.{Result, Ok, Err}
use Prim.Native.Nat.{ℕ}
use mathlib.Core.Bool.{Bool, true, false}
use mathlib.Core.List.{List, [], ◌∷◌, ◌++◌, append-nil}
use mathlib.Core.Path.{◌≡◌, refl, sym, ap, ◌∙◌}
use lib.ListN.{take}
use Rattle.message.specs.declared.Kind.{Kind}
use Rattle.message.specs.declared.Message.{Message}
use Rattle.message.specs.declared.SubmissionError.{SubmissionError}
use Rattle.message.specs.Submission.{submission_of}
use Rattle.protocol.specs.Acked.{acked}
use Rattle.protocol.specs.Receive.{taken}
use Rattle.protocol.specs.State.{Marks, State}
use Rattle.protocol.specs.Submit.{accepted_marks, submitted}
use Rattle.two_ends.specs.Calls.{accepts, takes}
use Rattle.two_ends.specs.Demand.{Safe, accepted_read}
use Rattle.two_ends.specs.Runs.{AllProperEvents, Event, run}
use Rattle.two_ends.specs.Start.{Afresh, Fit, Opener, start}
use Rattle.two_ends.specs.Stops.{Stops, stop_by, stop_in}
use Rattle.two_ends.specs.World.{End, History, Lasts}
use Rattle.two_ends.proofs.Invariant.{side_of}
use Rattle.two_ends.proofs.NoRequests.{no_requests_stop, no_requests-left}
use Rattle.two_ends.proofs.Persisted.{persisted}
use Rattle.two_ends.proofs.Persisting.{CarriedTo, Persists}
use Rattle.two_ends.proofs.Theorem.{nothing_lost}

stop_newest : (stop : Bool) (ms : List (List ℕ)) (m : List ℕ) → stop_in stop (ms ++ (m ∷ [])) ≡ stop_by (stop_in stop ms) (submission_of m)
stop_newest stop [] m = refl
stop_newest stop (x ∷ ms) m = stop_newest (stop_by stop (submission_of x)) ms m

-- ---- one end: its marks are what its messages say
record Remembers (s : State) (h : History) : Type 0 where
  pub telling : s.marks.stopping ≡ stop_in false h.accepted
  pub told : s.marks.stopped ≡ stop_in false h.secured

accepted_marks_lem : (m : Marks) (j : Result (Kind × ℕ) SubmissionError) → ((accepted_marks m j).stopping ≡ stop_by m.stopping j) × ((accepted_marks m j).stopped ≡ m.stopped)
accepted_marks_lem m (Err SubmissionError.Malformed) = (refl, refl)
accepted_marks_lem m (Err SubmissionError.Refused) = (refl, refl)
accepted_marks_lem m (Ok (kind, label)) = (refl, refl)

module _ {s : State} {h : History} (r : Remembers s h) where
  marks_same : (u : State) → u.marks ≡ s.marks → Remembers u h
  marks_same u e = record { telling = rw e r.telling; told = rw e r.told }

  marks_accepted : (m : List ℕ) → Remembers (submitted s m) (accepts m h)
  unfolding submitted
  marks_accepted m =
      let p = accepted_marks_lem s.marks (submission_of m) in
      record {
        telling = p.0 ∙ rw (stop_newest false h.accepted m) (ap (λ (stop : Bool). stop_by stop (submission_of m)) r.telling);
        told = p.1 ∙ r.told;
      }

  marks_freed : (n a : ℕ) → Remembers (acked s n a) (takes (take n s.queue) [] h)
  unfolding acked
  marks_freed n a = record { telling = r.telling; told = rw (append-nil h.secured) r.told }

  marks_carried : (n a : ℕ) (g : Message) (m : List ℕ) → CarriedTo s.table.words (acked s n a) g m → Remembers (taken s.table.words (acked s n a) g) (takes (take n s.queue) (m ∷ []) h)
  unfolding taken acked
  marks_carried n a g m x = record { telling = r.telling; told = rw (stop_newest false h.secured m, x.accepted, x.read, r.told) }

-- ---- both
abbrev Remember : State → History → State → History → Type 0
Remember s h t k = Remembers s h × Remembers t k

marks_persist : Persists Remember
marks_persist = record {
  none = (record { telling = refl; told = refl }, record { telling = refl; told = refl });
  swapped = λ l. (l.1, l.0);
  same = λ l u words marks queue. (marks_same l.0 u marks, l.1);
  ended = λ l. (record { telling = l.0.telling; told = l.0.told }, l.1);
  accepted = λ l m o e n taken may. (marks_accepted l.0 m, l.1);
  marked = λ l left o p e f r. (record { telling = l.0.telling; told = l.0.told }, l.1);
  freed = λ l n a. (marks_freed l.0 n a, l.1);
  carried = λ l n a g m x. (marks_carried l.0 n a g m x, l.1);
}

stops : (x y : End) → Remembers (side_of x).state x.history → Remembers (side_of y).state y.history → Safe x y → Stops x y
stops x y r q s =
    let telling : x.begun ≡ true → x.state.marks.stopping ≡ stop_in false x.history.accepted = λ g. rw g at r.telling in
    let told : y.begun ≡ true → y.state.marks.stopped ≡ stop_in false y.history.secured = λ g. rw g at q.told in
    let acc = x.history.accepted in
    let same : stop_in false (accepted_read x) ≡ stop_in false acc =
    sym (no_requests_stop false (accepted_read x)) ∙ ap (stop_in false) (no_requests-left x.history.left acc s.only) ∙ no_requests_stop false acc in
    record { telling = telling; told = told; agree = λ gx gy all. told gy ∙ ap (stop_in false) all ∙ same ∙ sym (telling gx) }

-- ---- THE THEOREM: over every run from such a start, in both directions, as long as neither end has released its state
pub stops_remembered : (x y : Opener) → Fit x → Fit y → Afresh x y → (vs : List (Bool × Event)) → AllProperEvents vs → Lasts (run (start x y) vs)
    → Stops (run (start x y) vs).a (run (start x y) vs).b × Stops (run (start x y) vs).b (run (start x y) vs).a
stops_remembered x y fx fy f vs p k =
    let w = run (start x y) vs in
    let r = persisted marks_persist x y fx fy f vs p k in
    let d = nothing_lost x y fx fy f vs p k in
    (stops w.a w.b r.0 r.1 d.there, stops w.b w.a r.1 r.0 d.back)
